-- The value that a `Val` stands for, and back.
use Rattle.std.specs.Prelude.{List, [], ◌∷◌, map, Some, None}
use Rattle.sb_types.specs.Value.{Value, Values, int, text, truth, pair, none, some, list, rec, end, more, values_of}
use Rattle.sb_types.specs.declared.values.Val.{Val, Int, Text, Bool, Pair, Opt, List as Listed, Rec}
use Rattle.sb_types.specs.declared.values.Val.TheOpen as layer
use Rattle.sb_types.specs.declared.values.Val.TheOpen.{Val-F}
use Rattle.sb_types.specs.declared.values.Val.TheFolds.{fold-Val}

-- one layer, in which each part is seen already
abbrev pub view_layer : Val-F Value → Value
view_layer (layer.Int n) = int n
view_layer (layer.Text t) = text t
view_layer (layer.Bool b) = truth b
view_layer (layer.Pair a b) = pair a b
view_layer (layer.Opt None) = none
view_layer (layer.Opt (Some a)) = some a
view_layer (layer.List parts) = list (values_of parts)
view_layer (layer.Rec parts) = rec (values_of parts)

abbrev pub value_of : Val → Value
value_of = fold-Val Value view_layer

-- the values of many
abbrev pub view_values : List Val → Values
view_values vals = values_of (map value_of vals)

-- the `Val` that stands for a value
abbrev mutual
  pub val_of : Value → Val
  val_of (int n) = Int n
  val_of (text t) = Text t
  val_of (truth b) = Bool b
  val_of (pair a b) = Pair (val_of a) (val_of b)
  val_of none = Opt None
  val_of (some a) = Opt (Some (val_of a))
  val_of (list vs) = Listed (vals_of vs)
  val_of (rec vs) = Rec (vals_of vs)

  pub vals_of : Values → List Val
  vals_of end = []
  vals_of (more v vs) = val_of v ∷ vals_of vs
