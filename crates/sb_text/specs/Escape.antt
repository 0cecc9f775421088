-- The escaped form of a text in reports, scripts and transcripts.
use Rattle.std.specs.Prelude.{ℕ, ◌+◌, ◌-◌, ◌*◌, ◌/◌, ◌%◌, Bool, ◌&&◌, ◌||◌, ◌==◌, nat_lt, nat_le, not, List, [], ◌∷◌, Option, Some, None, option_and_then, if◌then◌else◌}
use Rattle.std.specs.Char.{is_ascii_digit}
use Rattle.std.specs.List.{flat_map}
use Rattle.std.specs.Str.{is_utf8}
use Rattle.sb_text.specs.Field.{onto_text}

-- an upper-case hexadecimal digit
abbrev pub hex_digit : ℕ → ℕ
hex_digit n = if nat_lt n 10 then 48 + n else 55 + n

-- the bytes 33 to 126 other than % ( ) , [ ] { } =, and those from 128
abbrev pub is_plain : ℕ → Bool
is_plain b = nat_le 128 b || (nat_lt 32 b && nat_lt b 127
    && not (b == 37 || b == 40 || b == 41 || b == 44 || b == 91 || b == 93 || b == 123 || b == 125 || b == 61))

-- a plain byte stands for itself, every other is % and its two hexadecimal digits
abbrev pub escaped_byte : ℕ → List ℕ
escaped_byte b = if is_plain b then b ∷ [] else 37 ∷ hex_digit (b / 16) ∷ hex_digit (b % 16) ∷ []

-- the escaped form, which of the empty text is % alone
abbrev pub escaped : List ℕ → List ℕ
escaped [] = 37 ∷ []
escaped (b ∷ bytes) = flat_map escaped_byte (b ∷ bytes)

-- the value of an upper-case hexadecimal digit
abbrev pub hex_value : ℕ → Option ℕ
hex_value c = if is_ascii_digit c then Some (c - 48) else (if nat_le 65 c && nat_le c 70 then Some (c - 55) else None)

-- the byte of these two hexadecimal digits, where it is no plain one
abbrev pub byte_of_digits : ℕ → ℕ → Option ℕ
byte_of_digits high low = if is_plain (16 * high + low) then None else Some (16 * high + low)

-- the byte that % and these two characters stand for
abbrev pub after_percent : ℕ → ℕ → Option ℕ
after_percent high low = option_and_then (λ h. option_and_then (λ l. byte_of_digits h l) (hex_value low)) (hex_value high)

-- the bytes that one or more escaped bytes spell; none where a byte that isn't plain begins no escape
abbrev mutual
  pub bytes_unescaped : List ℕ → Option (List ℕ)
  bytes_unescaped [] = Some []
  bytes_unescaped (b ∷ bytes) = if b == 37 then rest_unescaped bytes else (if is_plain b then onto_text (Some b) (bytes_unescaped bytes) else None)

  pub rest_unescaped : List ℕ → Option (List ℕ)
  rest_unescaped [] = None
  rest_unescaped (high ∷ []) = None
  rest_unescaped (high ∷ low ∷ bytes) = onto_text (after_percent high low) (bytes_unescaped bytes)

-- the bytes that an escaped form spells, which is % alone for the empty text
abbrev pub unescaped : List ℕ → Option (List ℕ)
unescaped [] = None
unescaped (b ∷ []) = if b == 37 then Some [] else bytes_unescaped (b ∷ [])
unescaped (b ∷ c ∷ bytes) = bytes_unescaped (b ∷ c ∷ bytes)

-- the text that an escaped form spells: none where its bytes aren't UTF-8
abbrev pub text_unescaped : List ℕ → Option (List ℕ)
text_unescaped bytes = option_and_then (λ t. if is_utf8 t then Some t else None) (unescaped bytes)
