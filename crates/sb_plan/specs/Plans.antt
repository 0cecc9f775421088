-- What contracts see of a plan.
use Rattle.std.specs.Prelude.{◌≡◌, ℕ, List, map, Option, Some, None}
use Rattle.sb_types.specs.Value.{Value}
use Rattle.sb_terms.specs.declared.flow.Flow.{Flow}
use Rattle.sb_check.specs.Log.{Logged}
use Rattle.sb_kind.specs.Elements.{IsOf}
use Rattle.sb_kind.specs.KindView.{monoid_of}
use Rattle.sb_kind.specs.Monoids.{Monoid}
use Rattle.sb_kind.specs.declared.agg.Agg.{Agg}
use Rattle.sb_service.specs.Rows.{Rows}
use Rattle.sb_plan.specs.Feeding.{made_by}
use Rattle.sb_plan.specs.Given.{Feeding, Planned, fed, given}
use Rattle.sb_plan.specs.Paths.{gives}
use Rattle.sb_plan.specs.declared.making.Ending.{Ending}
use Rattle.sb_plan.specs.declared.plan.Plan.{Plan}
use Rattle.sb_plan.specs.declared.plan.StorePlan.{StorePlan}

abbrev pub feeding_by : StorePlan → Feeding
feeding_by p = record {
  monoid = monoid_of p.feeder.kind.now;
  gives = λ r services lets. map (made_by p.feeder.ending (monoid_of p.feeder.kind.now)) (gives p.paths.items r services lets);
}

abbrev pub plan_value : Plan → Planned
plan_value p = record { lets = map (λ ps. gives ps.items) p.lets.items; stores = map feeding_by p.stores.items }

-- the element is one of the store's monoid
abbrev pub is_fed : Option Feeding → List ℕ × Agg → Type 0
is_fed None x = ⊥
is_fed (Some f) x = IsOf f.monoid x.1

-- the stream feeds a store as what stands before its last stage does
abbrev pub EndsIn : Flow → Flow → Ending → Type 0
EndsIn flow before ending =
    (m : Monoid) (r : Logged) (services : List Rows) (lets : List (List Value)) → map (fed m) (given flow r services lets) ≡ map (made_by ending m) (given before r services lets)
