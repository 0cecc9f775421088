-- Each `Val` is the one that its value stands for, and each value is that of a `Val`.
use Rattle.std.proofs.Common.{◌≡◌, ◌∙◌, List, [], ◌∷◌, map, Some, None, refl, ap, sym, subst}
use Rattle.sb_types.specs.Value.{Value, Values, int, text, truth, pair, none, some, list, rec, end, more}
use Rattle.sb_types.specs.ValView.{value_of, view_values, view_layer, val_of, vals_of}
use Rattle.sb_types.specs.declared.values.Val.{Val, Pair, Opt, List as Listed, Rec}
use Rattle.sb_types.specs.declared.values.Val.TheOpen as layer
use Rattle.sb_types.specs.declared.values.Val.TheOpen.{Val-F}
use Rattle.sb_types.specs.declared.values.Val.TheFolds.{fold-roll-Val, ind-Val, map-Val}
use Rattle.sb_types.specs.declared.values.Val.TheVariants.{rolls-Int, rolls-Text, rolls-Bool, rolls-Pair, rolls-List, rolls-Opt, rolls-Rec}
use Rattle.sb_types.specs.declared.values.Val.TheViews.{roll-Val}
use Rattle.sb_types.proofs.ValViews.{value_of-Int, value_of-Text, value_of-Bool, value_of-Pair, value_of-None, value_of-Some, value_of-List, value_of-Rec}

mutual
  pub value_of-val_of : (v : Value) → value_of (val_of v) ≡ v
  value_of-val_of (int n) = value_of-Int n
  value_of-val_of (text t) = value_of-Text t
  value_of-val_of (truth b) = value_of-Bool b
  value_of-val_of (pair v w) = value_of-Pair (val_of v) (val_of w) ∙ (ap (λ x. pair x (value_of (val_of w))) (value_of-val_of v) ∙ ap (pair v) (value_of-val_of w))
  value_of-val_of none = value_of-None
  value_of-val_of (some v) = value_of-Some (val_of v) ∙ ap some (value_of-val_of v)
  value_of-val_of (list vs) = value_of-List (vals_of vs) ∙ ap list (view_values-vals_of vs)
  value_of-val_of (rec vs) = value_of-Rec (vals_of vs) ∙ ap rec (view_values-vals_of vs)

  pub view_values-vals_of : (vs : Values) → view_values (vals_of vs) ≡ vs
  view_values-vals_of end = refl
  view_values-vals_of (more v vs) = ap (λ x. more x (view_values (vals_of vs))) (value_of-val_of v) ∙ ap (more v) (view_values-vals_of vs)

abbrev IsBack : Val → Type 0
IsBack v = val_of (value_of v) ≡ v

all_back : (es : List ((v : Val) × IsBack v)) → vals_of (view_values (map (λ e. e.0) es)) ≡ map (λ e. e.0) es
all_back [] = refl
all_back (e ∷ es) = ap (λ x. x ∷ vals_of (view_values (map (λ e. e.0) es))) e.1 ∙ ap (λ xs. e.0 ∷ xs) (all_back es)

layer_back : (y : Val-F ((v : Val) × IsBack v)) → IsBack (roll-Val (map-Val ((v : Val) × IsBack v) Val (λ e. e.0) y))
layer_back (layer.Int n) = ap val_of (fold-roll-Val Value view_layer (layer.Int n)) ∙ sym (rolls-Int n)
layer_back (layer.Text t) = ap val_of (fold-roll-Val Value view_layer (layer.Text t)) ∙ sym (rolls-Text t)
layer_back (layer.Bool b) = ap val_of (fold-roll-Val Value view_layer (layer.Bool b)) ∙ sym (rolls-Bool b)
layer_back (layer.Pair a b) = ap val_of (fold-roll-Val Value view_layer (layer.Pair a.0 b.0))
    ∙ (ap (λ x. Pair x (val_of (value_of b.0))) a.1 ∙ (ap (Pair a.0) b.1 ∙ sym (rolls-Pair a.0 b.0)))
layer_back (layer.Opt None) = ap val_of (fold-roll-Val Value view_layer (layer.Opt None)) ∙ sym (rolls-Opt None)
layer_back (layer.Opt (Some a)) = ap val_of (fold-roll-Val Value view_layer (layer.Opt (Some a.0))) ∙ (ap (λ x. Opt (Some x)) a.1 ∙ sym (rolls-Opt (Some a.0)))
layer_back (layer.List es) = ap val_of (fold-roll-Val Value view_layer (layer.List (map (λ e. e.0) es))) ∙ (ap Listed (all_back es) ∙ sym (rolls-List (map (λ e. e.0) es)))
layer_back (layer.Rec es) = ap val_of (fold-roll-Val Value view_layer (layer.Rec (map (λ e. e.0) es))) ∙ (ap Rec (all_back es) ∙ sym (rolls-Rec (map (λ e. e.0) es)))

pub val_of-value_of : (v : Val) → val_of (value_of v) ≡ v
val_of-value_of = ind-Val IsBack (λ x y is. subst (λ z. IsBack (roll-Val z)) is (layer_back y))

-- two with one value are one
pub same_val : (v w : Val) → value_of v ≡ value_of w → v ≡ w
same_val v w e = sym (val_of-value_of v) ∙ (ap val_of e ∙ val_of-value_of w)
