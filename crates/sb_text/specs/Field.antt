-- The escaped form of a text in a field of a log or a service.
use Rattle.std.specs.Prelude.{ℕ, Bool, ◌||◌, ◌==◌, List, [], ◌∷◌, Option, Some, None, option_map, if◌then◌else◌}
use Rattle.std.specs.List.{flat_map}
use Rattle.std.specs.Str.{is_utf8}

-- backslash, tab, LF and CR are a backslash and a letter, every other byte stands for itself
abbrev pub field_escaped_byte : ℕ → List ℕ
field_escaped_byte b =
    if b == 92 then 92 ∷ 92 ∷ []
    else (if b == 9 then 92 ∷ 116 ∷ []
    else (if b == 10 then 92 ∷ 110 ∷ []
    else (if b == 13 then 92 ∷ 114 ∷ []
    else b ∷ [])))

abbrev pub field_escaped : List ℕ → List ℕ
field_escaped = flat_map field_escaped_byte

-- the byte that a backslash and this byte stand for
abbrev pub after_backslash : ℕ → Option ℕ
after_backslash c =
    if c == 92 then Some 92
    else (if c == 116 then Some 9
    else (if c == 110 then Some 10
    else (if c == 114 then Some 13
    else None)))

-- a byte that a field has only in its escaped form
abbrev pub is_separator : ℕ → Bool
is_separator b = b == 9 || (b == 10 || b == 13)

-- a byte in front of a text, where there are both
abbrev pub onto_text : Option ℕ → Option (List ℕ) → Option (List ℕ)
onto_text None rest = None
onto_text (Some b) rest = option_map (λ bytes. b ∷ bytes) rest

-- the bytes that a field spells; none where it has a separator, or a backslash that begins no escape
abbrev mutual
  pub field_unescaped : List ℕ → Option (List ℕ)
  field_unescaped [] = Some []
  field_unescaped (b ∷ bytes) =
      if b == 92 then unescaped_after bytes
      else (if is_separator b then None else onto_text (Some b) (field_unescaped bytes))

  pub unescaped_after : List ℕ → Option (List ℕ)
  unescaped_after [] = None
  unescaped_after (c ∷ bytes) = onto_text (after_backslash c) (field_unescaped bytes)

-- bytes that are a text
abbrev pub utf8_of : Option (List ℕ) → Option (List ℕ)
utf8_of None = None
utf8_of (Some bytes) = if is_utf8 bytes then Some bytes else None

-- the text that a field spells
abbrev pub field_text : List ℕ → Option (List ℕ)
field_text bytes = utf8_of (field_unescaped bytes)

-- the bytes that the rest of a field spells, where a backslash stands before it or doesn't
abbrev pub unescaped_rest : Bool → List ℕ → Option (List ℕ)
unescaped_rest escaping bytes = if escaping then unescaped_after bytes else field_unescaped bytes
