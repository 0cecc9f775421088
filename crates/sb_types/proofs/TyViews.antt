-- The equations of `type_of` that proofs cite.
use Rattle.std.proofs.Common.{◌≡◌, ◌∙◌, ℕ, List, [], ◌∷◌, map, refl, ap, ap₂, sym}
use Rattle.sb_types.specs.ValueType.{ValueType, options, lists, records, field, fields_of}
use Rattle.sb_types.specs.TyView.{type_of, view_fields, type_layer, field_layer}
use Rattle.sb_types.specs.declared.types.Ty.{Ty, Opt, List as Listed, Rec}
use Rattle.sb_types.specs.declared.types.Field.{Field}
use Rattle.sb_types.specs.declared.types.Ty.TheOpen as layer
use Rattle.sb_types.specs.declared.types.Ty.TheFolds.{fold-Field, fold-roll-Ty, fold-roll-Field}
use Rattle.sb_types.specs.declared.types.Ty.TheVariants.{rolls-Opt, rolls-List, rolls-Rec}

pub type_of-Opt : (a : Ty) → type_of (Opt a) ≡ options (type_of a)
type_of-Opt a = ap type_of (sym (rolls-Opt a)) ∙ fold-roll-Ty ValueType (List ℕ × ValueType) type_layer field_layer (layer.Opt a)

pub type_of-List : (a : Ty) (most : ℕ) → type_of (Listed a most) ≡ lists (type_of a) most
type_of-List a most = ap type_of (sym (rolls-List a most)) ∙ fold-roll-Ty ValueType (List ℕ × ValueType) type_layer field_layer (layer.List a most)

field_view : (f : Field) → fold-Field ValueType (List ℕ × ValueType) type_layer field_layer f ≡ (f.name, type_of f.ty)
field_view f = fold-roll-Field ValueType (List ℕ × ValueType) type_layer field_layer (record { name = f.name; ty = f.ty })

fields_view : (fields : List Field) → fields_of (map (fold-Field ValueType (List ℕ × ValueType) type_layer field_layer) fields) ≡ view_fields fields
fields_view [] = refl
fields_view (f ∷ fs) = ap₂ (λ (pair : List ℕ × ValueType) rest. field pair.0 pair.1 rest) (field_view f) (fields_view fs)

pub type_of-Rec : (fields : List Field) → type_of (Rec fields) ≡ records (view_fields fields)
type_of-Rec fields =
    ap type_of (sym (rolls-Rec fields)) ∙ (fold-roll-Ty ValueType (List ℕ × ValueType) type_layer field_layer (layer.Rec fields) ∙ ap records (fields_view fields))
