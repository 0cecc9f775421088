-- The token at the front of a text.
use Rattle.std.specs.Prelude.{ℕ, ◌-◌, ◌^◌, ◌==◌, nat_le, List, [], ◌∷◌, Option, Some, None, option_map, length, if◌then◌else◌}
use Rattle.std.specs.Char.{is_ascii_digit}
use Rattle.std.specs.List.{find, starts_with, take_while}
use Rattle.sb_text.specs.Decimal.{natural}
use Rattle.sb_tokens.specs.declared.keyword.Keyword.{Keyword}
use Rattle.sb_tokens.specs.declared.symbol.Symbol.{Symbol}
use Rattle.sb_tokens.specs.Keyword.{keyword_of}
use Rattle.sb_tokens.specs.Symbol.{symbols, symbol_text}
use Rattle.sb_tokens.specs.Word.{is_letter, is_letter_or_digit}
use Rattle.sb_tokens.specs.Quote.{text_quoted}
use Rattle.sb_tokens.specs.Token.{Token, keyword, name, int, text, symbol}

-- the keyword or the name that a word is
abbrev pub token_of_word : List ℕ → Option Keyword → Token
token_of_word word None = name word
token_of_word word (Some k) = keyword k

-- the token of letters and digits that begin with a letter, of which a word has 64 at most
abbrev pub word_token : List ℕ → Option Token
word_token word = if nat_le (length word) 64 then Some (token_of_word word (keyword_of word)) else None

-- the token of letters and digits that begin with a digit
abbrev pub number_token : List ℕ → Option Token
number_token digits = option_map int (natural (2 ^ 63 - 1) digits)

-- the longest symbol at the front
abbrev pub first_symbol : List ℕ → Option Symbol
first_symbol bytes = find (λ s. starts_with ◌==◌ bytes (symbol_text s)) symbols

-- the token at the front
abbrev pub first_token : List ℕ → Option Token
first_token [] = None
first_token (b ∷ bytes) =
    if is_letter b then word_token (take_while is_letter_or_digit (b ∷ bytes))
    else (if is_ascii_digit b then number_token (take_while is_letter_or_digit (b ∷ bytes))
    else (if b == 34 then option_map text (text_quoted bytes)
    else option_map symbol (first_symbol (b ∷ bytes))))
