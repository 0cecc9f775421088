-- The equations of `value_of`, one for each variant.
use Rattle.std.proofs.Common.{◌≡◌, ◌∙◌, ℕ, ℤ, Bool, List, Some, None, ap, sym}
use Rattle.sb_types.specs.Value.{Value, int, text, truth, pair, none, some, list, rec}
use Rattle.sb_types.specs.ValView.{value_of, view_values, view_layer}
use Rattle.sb_types.specs.declared.values.Val.{Val, Int, Text, Bool as Truth, Pair, Opt, List as Listed, Rec}
use Rattle.sb_types.specs.declared.values.Val.TheOpen as layer
use Rattle.sb_types.specs.declared.values.Val.TheFolds.{fold-roll-Val}
use Rattle.sb_types.specs.declared.values.Val.TheVariants.{rolls-Int, rolls-Text, rolls-Bool, rolls-Pair, rolls-List, rolls-Opt, rolls-Rec}

pub value_of-Int : (n : ℤ) → value_of (Int n) ≡ int n
value_of-Int n = ap value_of (sym (rolls-Int n)) ∙ fold-roll-Val Value view_layer (layer.Int n)

pub value_of-Text : (t : List ℕ) → value_of (Text t) ≡ text t
value_of-Text t = ap value_of (sym (rolls-Text t)) ∙ fold-roll-Val Value view_layer (layer.Text t)

pub value_of-Bool : (b : Bool) → value_of (Truth b) ≡ truth b
value_of-Bool b = ap value_of (sym (rolls-Bool b)) ∙ fold-roll-Val Value view_layer (layer.Bool b)

pub value_of-Pair : (a b : Val) → value_of (Pair a b) ≡ pair (value_of a) (value_of b)
value_of-Pair a b = ap value_of (sym (rolls-Pair a b)) ∙ fold-roll-Val Value view_layer (layer.Pair a b)

pub value_of-None : value_of (Opt None) ≡ none
value_of-None = ap value_of (sym (rolls-Opt None)) ∙ fold-roll-Val Value view_layer (layer.Opt None)

pub value_of-Some : (a : Val) → value_of (Opt (Some a)) ≡ some (value_of a)
value_of-Some a = ap value_of (sym (rolls-Opt (Some a))) ∙ fold-roll-Val Value view_layer (layer.Opt (Some a))

pub value_of-List : (vs : List Val) → value_of (Listed vs) ≡ list (view_values vs)
value_of-List vs = ap value_of (sym (rolls-List vs)) ∙ fold-roll-Val Value view_layer (layer.List vs)

pub value_of-Rec : (vs : List Val) → value_of (Rec vs) ≡ rec (view_values vs)
value_of-Rec vs = ap value_of (sym (rolls-Rec vs)) ∙ fold-roll-Val Value view_layer (layer.Rec vs)
