-- The equations of steps of streams that proofs cite.
use Rattle.std.proofs.Common.{◌≡◌, ◌∙◌, ℕ, ◌+◌, List, length, refl, ap, ap₂, sym, subst}
use Rattle.sb_types.specs.Value.{Value}
use Rattle.sb_terms.specs.declared.flow.Flow.{Flow}
use Rattle.sb_terms.specs.declared.flow.Flow.TheVariants as flow
use Rattle.sb_terms.specs.declared.flow.Flow.TheOpen as layer
use Rattle.sb_terms.specs.declared.flow.Flow.TheOpen.{Flow-F}
use Rattle.sb_terms.specs.declared.flow.Flow.TheFolds.{fold-Flow, fold-roll-Flow, ind-Flow, map-Flow}
use Rattle.sb_terms.specs.declared.flow.Flow.TheViews.{roll-Flow}
use Rattle.sb_terms.specs.declared.term.Term.{Term}
use Rattle.sb_service.specs.Rows.{Rows}
use Rattle.sb_check.specs.Log.{Logged}
use Rattle.sb_plan.specs.Given.{OfRecord, given, given_layer}
use Rattle.sb_plan.specs.Steps.{Cost, cost_layer, flow_steps}

abbrev cost : Flow → Cost
cost = fold-Flow Cost cost_layer

-- ---- what stands beside the steps is what is given

abbrev Gives : Flow → Type 0
Gives f = (cost f).0 ≡ given f

by_layer : (l : Flow-F Flow) → map-Flow Cost OfRecord (λ a. a.0) (map-Flow Flow Cost cost l) ≡ map-Flow Flow OfRecord given l → Gives (roll-Flow l)
by_layer l h = ap (λ (c : Cost). c.0) (fold-roll-Flow Cost cost_layer l) ∙ (ap given_layer h ∙ sym (fold-roll-Flow OfRecord given_layer l))

case : (y : Flow-F ((f : Flow) × Gives f)) → Gives (roll-Flow (map-Flow ((f : Flow) × Gives f) Flow (λ e. e.0) y))
case (layer.Source n) = by_layer (layer.Source n) refl
case (layer.Let n) = by_layer (layer.Let n) refl
case (layer.Merge a b) = by_layer (layer.Merge a.0 b.0) (ap₂ (λ x y. layer.Merge x y) a.1 b.1)
case (layer.Map a e) = by_layer (layer.Map a.0 e) (ap (λ x. layer.Map x e) a.1)
case (layer.Filter a e) = by_layer (layer.Filter a.0 e) (ap (λ x. layer.Filter x e) a.1)
case (layer.FlatMap a e) = by_layer (layer.FlatMap a.0 e) (ap (λ x. layer.FlatMap x e) a.1)
case (layer.Join a n) = by_layer (layer.Join a.0 n) (ap (λ x. layer.Join x n) a.1)

gives_same : (f : Flow) → (cost f).0 ≡ given f
gives_same = ind-Flow Gives (λ x y is. subst (λ z. Gives (roll-Flow z)) is (case y))

-- ---- the equations

module _ (r : Logged) (services : List Rows) (lets : List (List Value)) where
  abbrev of : Cost → ℕ
  of c = c.1 r services lets

  before : (a : Flow) → flow_steps a r services lets + length ((cost a).0 r services lets) ≡ flow_steps a r services lets + length (given a r services lets)
  before a = ap (λ (g : OfRecord). flow_steps a r services lets + length (g r services lets)) (gives_same a)

  pub steps-Source : (n : ℕ) → flow_steps (flow.Source n) r services lets ≡ 0
  steps-Source n = ap of (ap cost (sym (flow.rolls-Source n)) ∙ fold-roll-Flow Cost cost_layer (layer.Source n))

  pub steps-Let : (n : ℕ) → flow_steps (flow.Let n) r services lets ≡ 0
  steps-Let n = ap of (ap cost (sym (flow.rolls-Let n)) ∙ fold-roll-Flow Cost cost_layer (layer.Let n))

  pub steps-Merge : (a b : Flow) → flow_steps (flow.Merge a b) r services lets ≡ flow_steps a r services lets + flow_steps b r services lets
  steps-Merge a b = ap of (ap cost (sym (flow.rolls-Merge a b)) ∙ fold-roll-Flow Cost cost_layer (layer.Merge a b))

  pub steps-Map : (a : Flow) (e : Term) → flow_steps (flow.Map a e) r services lets ≡ flow_steps a r services lets + length (given a r services lets)
  steps-Map a e = ap of (ap cost (sym (flow.rolls-Map a e)) ∙ fold-roll-Flow Cost cost_layer (layer.Map a e)) ∙ before a

  pub steps-Filter : (a : Flow) (e : Term) → flow_steps (flow.Filter a e) r services lets ≡ flow_steps a r services lets + length (given a r services lets)
  steps-Filter a e = ap of (ap cost (sym (flow.rolls-Filter a e)) ∙ fold-roll-Flow Cost cost_layer (layer.Filter a e)) ∙ before a

  pub steps-FlatMap : (a : Flow) (e : Term) → flow_steps (flow.FlatMap a e) r services lets ≡ flow_steps a r services lets + length (given a r services lets)
  steps-FlatMap a e = ap of (ap cost (sym (flow.rolls-FlatMap a e)) ∙ fold-roll-Flow Cost cost_layer (layer.FlatMap a e)) ∙ before a

  pub steps-Join : (a : Flow) (n : ℕ) → flow_steps (flow.Join a n) r services lets ≡ flow_steps a r services lets
  steps-Join a n = ap of (ap cost (sym (flow.rolls-Join a n)) ∙ fold-roll-Flow Cost cost_layer (layer.Join a n))
