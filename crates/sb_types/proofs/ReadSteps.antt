-- The readers of parts, step by step.
use Rattle.std.proofs.Common.{◌≡◌, ◌∙◌, ℕ, zero, suc, ◌<◌, ◌≤◌, ◌-◌, ◌+◌, List, [], ◌∷◌, ◌++◌, map, length, drop, Option, Some, None, refl, sym, ap, arith, append-nil}
use Rattle.std.specs.Prelude.{option_map}
use Rattle.sb_types.specs.Read.{Front, Parts, no_parts, onto_parts, expect, next_front, further_front, value_front, fields_front, further_fields}
use Rattle.sb_types.specs.TyView.{type_of, view_fields}
use Rattle.sb_types.specs.ValView.{value_of}
use Rattle.sb_types.specs.ValueType.{Fields}
use Rattle.sb_types.specs.declared.types.Field.{Field}
use Rattle.sb_types.specs.declared.types.Ty.{Ty, Opt as OptTy}
use Rattle.sb_types.specs.declared.values.Val.{Val, Opt}
use Rattle.sb_types.proofs.ReadAgain.{front}
use Rattle.sb_types.proofs.TyViews.{type_of-Opt}
use Rattle.sb_types.proofs.ValViews.{value_of-Some}

-- the values of the fields from this place on
abbrev pub fields_from : ℕ → Fields → List ℕ → Option Parts
fields_from zero fields bytes = fields_front fields bytes
fields_from (suc n) fields bytes = further_fields fields bytes

pub none_more : (values : List Val) (bytes : List ℕ) → onto_parts (map value_of values) (no_parts bytes) ≡ record { values = map value_of values; rest = bytes }
none_more values bytes = ap (λ vs. record { values = vs; rest = bytes }) (append-nil (map value_of values))

map_push : (values : List Val) (v : Val) (more : List _) → map value_of (values ++ v ∷ []) ++ more ≡ map value_of values ++ value_of v ∷ more
map_push [] v more = refl
map_push (w ∷ values) v more = ap (λ vs. value_of w ∷ vs) (map_push values v more)

-- one more value behind a comma is read
pub further_step : (read : List ℕ → Option Front) (count at : ℕ) (values : List Val) (v : Val) (bytes after : List ℕ) (whole : Parts) → at < count
    → next_front read bytes ≡ Some (record { value = value_of v; rest = after }) → onto_parts (map value_of values) (further_front read (count - at) bytes) ≡ whole
    → onto_parts (map value_of (values ++ v ∷ [])) (further_front read (count - (at + 1)) after) ≡ whole
further_step read count at values v bytes after whole below next now =
    let n = count - (at + 1) in
    let turns : count - at ≡ suc n = omega arith in
    let p = further_front read n after in
    let then : onto_parts (map value_of values) (onto_parts (value_of v ∷ []) p) ≡ whole = rw (turns, next) at now in
    ap (λ vs. record { values = vs; rest = p.rest }) (map_push values v p.values) ∙ then

-- no value more is read
pub further_stop : (read : List ℕ → Option Front) (n : ℕ) (values : List Val) (bytes : List ℕ) (whole : Parts) → next_front read bytes ≡ None
    → onto_parts (map value_of values) (further_front read n bytes) ≡ whole → record { values = map value_of values; rest = bytes } ≡ whole
further_stop read zero values bytes whole next now = sym (none_more values bytes) ∙ now
further_stop read (suc n) values bytes whole next now =
    let then : onto_parts (map value_of values) (no_parts bytes) ≡ whole = rw next at now in
    sym (none_more values bytes) ∙ then

no_field_left : (at : ℕ) (fields : List Field) (bytes : List ℕ) → length fields ≤ at → fields_from at (view_fields (drop at fields)) bytes ≡ Some (no_parts bytes)
no_field_left zero [] bytes long = refl
no_field_left (suc at) [] bytes long = refl
no_field_left zero (f ∷ fs) bytes long = absurd (omega (arith, long))
no_field_left (suc at) (f ∷ fs) bytes long = further_none at fs bytes (omega (arith, long)) where
  further_none : (at : ℕ) (fields : List Field) (bytes : List ℕ) → length fields ≤ at → further_fields (view_fields (drop at fields)) bytes ≡ Some (no_parts bytes)
  further_none zero [] bytes long = refl
  further_none (suc at) [] bytes long = refl
  further_none zero (f ∷ fs) bytes long = absurd (omega (arith, long))
  further_none (suc at) (f ∷ fs) bytes long = further_none at fs bytes (omega (arith, long))

-- each field has its value
pub fields_end : (at : ℕ) (fields : List Field) (values : List Val) (bytes : List ℕ) (whole : Option Parts) → length fields ≤ at
    → option_map (onto_parts (map value_of values)) (fields_from at (view_fields (drop at fields)) bytes) ≡ whole → Some (record { values = map value_of values; rest = bytes }) ≡ whole
fields_end at fields values bytes whole long now =
    let then : Some (onto_parts (map value_of values) (no_parts bytes)) ≡ whole = rw (no_field_left at fields bytes long) at now in
    sym (ap (λ parts. Some parts) (none_more values bytes)) ∙ then

-- some, behind its sign
pub some_front : (of : Ty) (bytes inside rest : List ℕ) (v : Val) → expect 126 bytes ≡ None → expect 43 bytes ≡ Some inside
    → front (value_of v) rest ≡ value_front (type_of of) inside → front (value_of (Opt (Some v))) rest ≡ value_front (type_of (OptTy of)) bytes
some_front of bytes inside rest v no_none found read = rw (type_of-Opt of, value_of-Some v, no_none, found, sym read) refl
