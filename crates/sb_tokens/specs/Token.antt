-- The tokens that the grammar is about, and how each is spelled.
use Rattle.std.specs.Prelude.{◌≡◌, ℕ, true, ◌^◌, ◌<◌, List, [], ◌∷◌, ◌++◌, decimal}
use Rattle.std.specs.List.{flat_map}
use Rattle.sb_tokens.specs.declared.keyword.Keyword.{Keyword}
use Rattle.sb_tokens.specs.declared.symbol.Symbol.{Symbol}
use Rattle.sb_tokens.specs.Keyword.{keyword_text}
use Rattle.sb_tokens.specs.Symbol.{symbol_text}
use Rattle.sb_tokens.specs.Word.{is_name}
use Rattle.sb_tokens.specs.Quote.{quoted_byte, is_text}

-- a name is its bytes, and a text those of its value
pub data Token : Type 0 where
  keyword : Keyword → Token
  name : List ℕ → Token
  int : ℕ → Token
  text : List ℕ → Token
  symbol : Symbol → Token

-- the one spelling of a token
abbrev pub spelling : Token → List ℕ
spelling (keyword k) = keyword_text k
spelling (name bytes) = bytes
spelling (int n) = decimal n
spelling (text value) = 34 ∷ flat_map quoted_byte value ++ 34 ∷ []
spelling (symbol s) = symbol_text s

-- a token that some text has
abbrev pub IsSpelled : Token → Type 0
IsSpelled (keyword k) = Unit {0}
IsSpelled (name bytes) = is_name bytes ≡ true
IsSpelled (int n) = n < 2 ^ 63
IsSpelled (text value) = is_text value ≡ true
IsSpelled (symbol s) = Unit {0}
