-- The words of a text: keywords and names.
use Rattle.std.specs.Prelude.{ℕ, Bool, false, ◌&&◌, ◌||◌, ◌==◌, nat_le, List, [], ◌∷◌, length}
use Rattle.std.specs.List.{list_all}
use Rattle.std.specs.Char.{is_ascii_digit}
use Rattle.std.specs.Option.{is_none}
use Rattle.sb_tokens.specs.Keyword.{keyword_of}

-- an ASCII letter or `_`
abbrev pub is_letter : ℕ → Bool
is_letter b = (nat_le 65 b && nat_le b 90) || ((nat_le 97 b && nat_le b 122) || b == 95)

abbrev pub is_letter_or_digit : ℕ → Bool
is_letter_or_digit b = is_letter b || is_ascii_digit b

-- a letter, then letters and digits
abbrev pub are_word_bytes : List ℕ → Bool
are_word_bytes [] = false
are_word_bytes (b ∷ bytes) = is_letter b && list_all is_letter_or_digit bytes

-- a keyword or a name
abbrev pub is_word : List ℕ → Bool
is_word bytes = are_word_bytes bytes && nat_le (length bytes) 64

-- a word that is no keyword
abbrev pub is_name : List ℕ → Bool
is_name bytes = is_word bytes && is_none (keyword_of bytes)
