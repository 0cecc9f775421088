-- Quoted texts.
use Rattle.std.specs.Prelude.{ℕ, Bool, ◌||◌, ◌==◌, ◌&&◌, nat_le, nat_lt, List, [], ◌∷◌, Option, Some, None, option_map, option_and_then, if◌then◌else◌}
use Rattle.std.specs.List.{list_all}
use Rattle.std.specs.Str.{is_utf8}

-- quote, backslash, LF, tab and CR are a backslash and a character, every other byte stands for itself
abbrev pub quoted_byte : ℕ → List ℕ
quoted_byte b =
    if b == 34 then 92 ∷ 34 ∷ []
    else (if b == 92 then 92 ∷ 92 ∷ []
    else (if b == 10 then 92 ∷ 110 ∷ []
    else (if b == 9 then 92 ∷ 116 ∷ []
    else (if b == 13 then 92 ∷ 114 ∷ []
    else b ∷ []))))

-- the byte that a backslash and this one stand for
abbrev pub after_backslash : ℕ → Option ℕ
after_backslash c =
    if c == 34 then Some 34
    else (if c == 92 then Some 92
    else (if c == 110 then Some 10
    else (if c == 116 then Some 9
    else (if c == 114 then Some 13
    else None))))

-- a byte in front of a value, where there are both
abbrev pub onto_value : Option ℕ → Option (List ℕ) → Option (List ℕ)
onto_value None rest = None
onto_value (Some b) rest = option_map (λ bytes. b ∷ bytes) rest

-- the bytes that are quoted where these follow the opening quote: up to the next quote that is no escape's. None
-- where there is no such quote, or before it a byte below 32 or a backslash that begins no escape
abbrev mutual
  pub bytes_quoted : List ℕ → Option (List ℕ)
  bytes_quoted [] = None
  bytes_quoted (b ∷ bytes) =
      if b == 34 then Some []
      else (if b == 92 then bytes_escaped bytes
      else (if nat_lt b 32 then None else onto_value (Some b) (bytes_quoted bytes)))

  pub bytes_escaped : List ℕ → Option (List ℕ)
  bytes_escaped [] = None
  bytes_escaped (c ∷ bytes) = onto_value (after_backslash c) (bytes_quoted bytes)

-- the text that is quoted where these bytes follow the opening quote
abbrev pub text_quoted : List ℕ → Option (List ℕ)
text_quoted bytes = option_and_then (λ value. if is_utf8 value then Some value else None) (bytes_quoted bytes)

-- a byte that a quoted text can have: no control byte other than LF, tab and CR
abbrev pub is_text_byte : ℕ → Bool
is_text_byte b = nat_le 32 b || (b == 10 || (b == 9 || b == 13))

-- a value that can be quoted
abbrev pub is_text : List ℕ → Bool
is_text value = list_all is_text_byte value && is_utf8 value
