use Rattle.std.proofs.Common.{◌≡◌, ◌++◌, drop, map}
use Rattle.sb_check.specs.Declarations.{store_of}
use Rattle.sb_plan.specs.Given.{feeding_of}
use Rattle.sb_plan.specs.PathSteps.{store_steps}
use Rattle.sb_plan.specs.Plans.{feeding_by}
use Rattle.sb_plan.specs.Steps.{flow_steps}
use Rattle.sb_plan.proofs.plan.plan_stores.Given as goal

abbrev pub invariant-loop-store : goal.invariant-loop-store
invariant-loop-store l = record {
  values : map feeding_by l.plans.items ++ map feeding_of (map store_of (drop l.store-index l.stores)) ≡ map feeding_of (map store_of l.stores);
  steps : map store_steps l.plans.items ++ map (λ s. flow_steps s.flow) (map store_of (drop l.store-index l.stores)) ≡ map (λ s. flow_steps s.flow) (map store_of l.stores);
}
