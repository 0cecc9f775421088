use Rattle.std.proofs.Common.{◌≡◌, ◌+◌, [], drop, map}
use Rattle.sb_check.specs.Log.{logged_of}
use Rattle.sb_plan.specs.Given.{let_values, lets_given}
use Rattle.sb_plan.specs.PathSteps.{paths_cost, plan_costs}
use Rattle.sb_plan.specs.Paths.{gives}
use Rattle.sb_plan.specs.Plans.{plan_value}
use Rattle.sb_plan.specs.Steps.{lets_steps}
use Rattle.sb_service.specs.Views.{view_service}
use Rattle.sb_types.specs.ValView.{value_of}
use Rattle.sb_plan.proofs.plan.Plan.let_values.Given as goal

abbrev pub invariant-loop-plan : goal.invariant-loop-plan
invariant-loop-plan g l = record {
  values : lets_given (logged_of l.logged) (map view_service l.services) (map (λ b. map value_of b.items) l.lets.items) (map (λ ps. gives ps.items) (drop l.plan-index l.plan-items))
      ≡ let_values (plan_value l.self) (logged_of l.logged) (map view_service l.services);
  steps : l.steps + lets_steps (logged_of l.logged) (map view_service l.services) (map (λ b. map value_of b.items) l.lets.items) (map (λ ps. paths_cost ps.items) (drop l.plan-index l.plan-items))
      ≡ l.fn.steps + lets_steps (logged_of l.logged) (map view_service l.services) [] (plan_costs l.self).lets;
}
