-- What contracts see of tokens that are lent from a text.
use Rattle.std.specs.Prelude.{ℕ, List, [], unwrap_or}
use Rattle.sb_tokens.specs.declared.token.Name.{Name}
use Rattle.sb_tokens.specs.declared.token.Quoted.{Quoted}
use Rattle.sb_tokens.specs.declared.token.Token as rust
use Rattle.sb_tokens.specs.declared.token.Token.TheVariants as t
use Rattle.sb_tokens.specs.Quote.{text_quoted}
use Rattle.sb_tokens.specs.Token.{Token, keyword, name, int, text, symbol}

abbrev pub name_bytes : Name → List ℕ
name_bytes n = n.bytes.now

-- the value of a quoted text
abbrev pub quoted_value : Quoted → List ℕ
quoted_value quoted = unwrap_or (text_quoted quoted.raw.now) []

abbrev pub token_view : rust.Token → Token
token_view (t.Keyword k) = keyword k
token_view (t.Name n) = name (name_bytes n)
token_view (t.Int n) = int n
token_view (t.Text quoted) = text (quoted_value quoted)
token_view (t.Symbol s) = symbol s
