-- Lists of fields, and their joins.
use Rattle.std.proofs.Common.{◌≡◌, ◌<◌, ◌∙◌, ℕ, zero, suc, List, [], ◌∷◌, ◌++◌, length, Option, Some, None, refl, ap, sym, arith}
use Rattle.std.specs.Prelude.{option_map, slice_get}
use Rattle.sb_types.specs.ValueType.{ValueType, Fields, no_field, field}
use Rattle.sb_types.specs.TyView.{type_of, view_fields}
use Rattle.sb_types.specs.declared.types.Field.{Field}
use Rattle.sb_terms.specs.Agreement.{fields_joined, same_named, joined, both}
use Rattle.sb_terms.specs.Tables.{field_type}

-- fields before others
abbrev pub onto_fields : Fields → Fields → Fields
onto_fields no_field gs = gs
onto_fields (field name t fs) gs = field name t (onto_fields fs gs)

onto-end : (done : List Field) (f : Field) (gs : Fields) → onto_fields (view_fields (done ++ f ∷ [])) gs ≡ onto_fields (view_fields done) (field f.name (type_of f.ty) gs)
onto-end [] f gs = refl
onto-end (d ∷ done) f gs = ap (field d.name (type_of d.ty)) (onto-end done f gs)

onto-none : (fs : Fields) → onto_fields fs no_field ≡ fs
onto-none no_field = refl
onto-none (field name t fs) = ap (field name t) (onto-none fs)

-- one field more is joined
pub one_joined : (done : List Field) (f : Field) (name : List ℕ) (t : ValueType) (part : Option ValueType) (rest : Option Fields)
    → f.name ≡ name → Some (type_of f.ty) ≡ part
    → option_map (onto_fields (view_fields (done ++ f ∷ []))) rest ≡ option_map (onto_fields (view_fields done)) (both (field name) part rest)
one_joined done f name t part None p q = rw (sym p, sym q) refl
one_joined done f name t part (Some gs) p q = rw (sym p, sym q) (ap Some (onto-end done f gs))

-- the next two fields are joined
pub next_joined : (done : List Field) (f a b : Field) (fs gs : List Field) (whole : Option Fields)
    → f.name ≡ a.name → Some (type_of f.ty) ≡ same_named a.name b.name (joined (type_of a.ty) (type_of b.ty))
    → option_map (onto_fields (view_fields done)) (fields_joined (view_fields (a ∷ fs)) (view_fields (b ∷ gs))) ≡ whole
    → option_map (onto_fields (view_fields (done ++ f ∷ []))) (fields_joined (view_fields fs) (view_fields gs)) ≡ whole
next_joined done f a b fs gs whole p q r =
    one_joined done f a.name (type_of a.ty) (same_named a.name b.name (joined (type_of a.ty) (type_of b.ty))) (fields_joined (view_fields fs) (view_fields gs)) p q ∙ r

-- none is left of either
pub all_joined : (done fs gs : List Field) (whole : Option Fields) → length fs ≡ 0 → length gs ≡ 0
    → option_map (onto_fields (view_fields done)) (fields_joined (view_fields fs) (view_fields gs)) ≡ whole → Some (view_fields done) ≡ whole
all_joined done [] [] whole p q r = ap Some (sym (onto-none (view_fields done))) ∙ r
all_joined done [] (g ∷ gs) whole p q r = absurd (omega (arith, q))
all_joined done (f ∷ fs) gs whole p q r = absurd (omega (arith, p))

-- none is left of the first alone
pub second_longer : (done fs gs : List Field) (whole : Option Fields) → length fs ≡ 0 → 0 < length gs
    → option_map (onto_fields (view_fields done)) (fields_joined (view_fields fs) (view_fields gs)) ≡ whole → None ≡ whole
second_longer done [] (g ∷ gs) whole p q r = r
second_longer done [] [] whole p q r = absurd (omega (arith, q))
second_longer done (f ∷ fs) gs whole p q r = absurd (omega (arith, p))

-- the field at a place
pub field_at : (fs : List Field) (n : ℕ) → field_type n (view_fields fs) ≡ option_map (λ f. type_of f.ty) (slice_get fs n)
field_at [] n = refl
field_at (f ∷ fs) zero = refl
field_at (f ∷ fs) (suc n) = field_at fs n
