-- The type that a `Ty` stands for.
use Rattle.std.specs.Prelude.{ℕ, List, map}
use Rattle.sb_types.specs.ValueType.{ValueType, ints, texts, truths, pairs, options, lists, records, Fields, fields_of}
use Rattle.sb_types.specs.declared.types.Ty.{Ty}
use Rattle.sb_types.specs.declared.types.Field.{Field}
use Rattle.sb_types.specs.declared.types.Ty.TheOpen as layer
use Rattle.sb_types.specs.declared.types.Ty.TheOpen.{Ty-F, Field-F}
use Rattle.sb_types.specs.declared.types.Ty.TheFolds.{fold-Ty}

-- one layer, in which each part is seen already
abbrev pub type_layer : Ty-F ValueType (List ℕ × ValueType) → ValueType
type_layer layer.Int = ints
type_layer layer.Text = texts
type_layer layer.Bool = truths
type_layer (layer.Pair a b) = pairs a b
type_layer (layer.Opt a) = options a
type_layer (layer.List of most) = lists of most
type_layer (layer.Rec fields) = records (fields_of fields)

abbrev pub field_layer : Field-F ValueType (List ℕ × ValueType) → List ℕ × ValueType
field_layer f = (f.name, f.ty)

abbrev pub type_of : Ty → ValueType
type_of = fold-Ty ValueType (List ℕ × ValueType) type_layer field_layer

-- the fields of a record type
abbrev pub view_fields : List Field → Fields
view_fields fields = fields_of (map (λ f. (f.name, type_of f.ty)) fields)
