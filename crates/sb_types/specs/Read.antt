-- How the text of a value is read, from the front.
use Rattle.std.specs.Prelude.{◌≡◌, ℕ, zero, suc, nat_le, Bool, true, false, ◌||◌, ◌==◌, List, [], ◌∷◌, ◌++◌, length, map, Option, Some, None, option_map, option_and_then, bytes_eq, codes, if◌then◌else◌}
use Rattle.std.specs.Borrow.{Bor}
use Rattle.std.specs.Option.{option_map_or}
use Rattle.sb_text.specs.Decimal.{integer}
use Rattle.sb_text.specs.Escape.{text_unescaped}
use Rattle.sb_types.specs.ValueType.{ValueType, ints, texts, truths, pairs, options, lists, records, Fields, no_field, field}
use Rattle.sb_types.specs.ValView.{value_of}
use Rattle.sb_types.specs.declared.values.Val.{Val}
use Rattle.sb_types.specs.Value.{Value, int, text, truth, pair, none, some, list, rec, values_of}

-- the bytes that end the text of a part: , ) ] } and =
abbrev pub ends_part : ℕ → Bool
ends_part b = b == 44 || b == 41 || b == 93 || b == 125 || b == 61

-- what may follow the text of a value: nothing, or what one of these bytes begins
abbrev pub IsEnd : List ℕ → Type 0
IsEnd [] = Unit {0}
IsEnd (b ∷ bytes) = ends_part b ≡ true

-- the bytes up to the end of a part, and those from it on
abbrev pub leaf : List ℕ → List ℕ
leaf [] = []
leaf (b ∷ bytes) = if ends_part b then [] else b ∷ leaf bytes

abbrev pub after_leaf : List ℕ → List ℕ
after_leaf [] = []
after_leaf (b ∷ bytes) = if ends_part b then b ∷ bytes else after_leaf bytes

-- what follows this byte
abbrev pub expect : ℕ → List ℕ → Option (List ℕ)
expect c [] = None
expect c (b ∷ bytes) = if b == c then Some bytes else None

abbrev pub truth_of : List ℕ → Option Bool
truth_of bytes = if bytes_eq bytes (codes "true") then Some true else (if bytes_eq bytes (codes "false") then Some false else None)

-- a value that was read, and what follows its text
pub record Front : Type 0 where
  pub value : Value
  pub rest : List ℕ

-- what contracts see of a value that was read, with the bytes that are left
abbrev pub front_of : Val × Bor (List ℕ) → Front
front_of read = record { value = value_of read.0; rest = read.1.now }

-- a value with what follows
abbrev pub front_with : List ℕ → Option Value → Option Front
front_with rest = option_map (λ v. record { value = v; rest = rest })

-- none, where this is what follows its text, and else what is read otherwise
abbrev pub none_or : Option (List ℕ) → Option Front → Option Front
none_or None other = other
none_or (Some rest) other = Some (record { value = none; rest = rest })

-- values that were read one after another, and what follows the last
pub record Parts : Type 0 where
  pub values : List Value
  pub rest : List ℕ

abbrev pub no_parts : List ℕ → Parts
no_parts bytes = record { values = []; rest = bytes }

-- values before others
abbrev pub onto_parts : List Value → Parts → Parts
onto_parts vs parts = record { values = vs ++ parts.values; rest = parts.rest }

-- what contracts see of values that were read, with the bytes that are left
abbrev pub parts_of : List Val × List ℕ → Parts
parts_of read = record { values = map value_of read.0; rest = read.1 }

-- the value that a comma and its text spell
abbrev pub next_front : (List ℕ → Option Front) → List ℕ → Option Front
next_front read bytes = option_and_then read (expect 44 bytes)

-- the values that stand there, at most this many, with a comma before each
abbrev pub further_front : (List ℕ → Option Front) → ℕ → List ℕ → Parts
further_front read zero bytes = no_parts bytes
further_front read (suc n) bytes = option_map_or (λ front. onto_parts (front.value ∷ []) (further_front read n front.rest)) (next_front read bytes) (no_parts bytes)

-- the values that stand there, with a comma between each two
abbrev pub parts_front : (List ℕ → Option Front) → List ℕ → Parts
parts_front read bytes = option_map_or (λ front. onto_parts (front.value ∷ []) (further_front read (length front.rest) front.rest)) (read bytes) (no_parts bytes)

-- a list of at most this many values
abbrev pub closed_list : ℕ → Parts → Option Front
closed_list most parts =
    if nat_le (length parts.values) most then option_map (λ rest. record { value = list (values_of parts.values); rest = rest }) (expect 93 parts.rest) else None

abbrev pub list_front : (List ℕ → Option Front) → ℕ → List ℕ → Option Front
list_front read most bytes = option_and_then (λ inside. closed_list most (parts_front read inside)) (expect 91 bytes)

abbrev pub closed_record : Parts → Option Front
closed_record parts = option_map (λ rest. record { value = rec (values_of parts.values); rest = rest }) (expect 125 parts.rest)

-- a value before others
abbrev pub with_first : (List ℕ → Option Parts) → Front → Option Parts
with_first read front = option_map (onto_parts (front.value ∷ [])) (read front.rest)

abbrev mutual
  -- the value of this type at the front of the bytes
  pub value_front : ValueType → List ℕ → Option Front
  value_front ints bytes = front_with (after_leaf bytes) (option_map int (integer (leaf bytes)))
  value_front texts bytes = front_with (after_leaf bytes) (option_map text (text_unescaped (leaf bytes)))
  value_front truths bytes = front_with (after_leaf bytes) (option_map truth (truth_of (leaf bytes)))
  value_front (pairs a b) bytes =
      option_and_then (λ inside. option_and_then (λ left. option_and_then (λ second. option_and_then (λ right.
      option_map (λ rest. record { value = pair left.value right.value; rest = rest })
      (expect 41 right.rest)) (value_front b second)) (expect 44 left.rest)) (value_front a inside)) (expect 40 bytes)
  value_front (options a) bytes =
      none_or (expect 126 bytes)
      (option_and_then (λ inside. option_map (λ front. record { value = some front.value; rest = front.rest }) (value_front a inside)) (expect 43 bytes))
  value_front (lists a most) bytes = list_front (value_front a) most bytes
  value_front (records fields) bytes = option_and_then (λ inside. option_and_then closed_record (fields_front fields inside)) (expect 123 bytes)

  -- a value for each field, with a comma between each two
  pub fields_front : Fields → List ℕ → Option Parts
  fields_front no_field bytes = Some (no_parts bytes)
  fields_front (field name t fields) bytes = option_and_then (with_first (further_fields fields)) (value_front t bytes)

  -- a value for each field, with a comma before each
  pub further_fields : Fields → List ℕ → Option Parts
  further_fields no_field bytes = Some (no_parts bytes)
  further_fields (field name t fields) bytes = option_and_then (with_first (further_fields fields)) (next_front (value_front t) bytes)

-- the value, where nothing follows it
abbrev pub before_end : Value → List ℕ → Option Value
before_end v [] = Some v
before_end v (b ∷ bytes) = None

-- the value of this type that the bytes spell
abbrev pub value_read : ValueType → List ℕ → Option Value
value_read type bytes = option_and_then (λ front. before_end front.value front.rest) (value_front type bytes)
