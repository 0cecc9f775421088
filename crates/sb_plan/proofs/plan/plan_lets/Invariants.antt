use Rattle.std.proofs.Common.{◌≡◌, ◌++◌, drop, map}
use Rattle.sb_check.specs.Declarations.{let_of}
use Rattle.sb_plan.specs.Given.{given}
use Rattle.sb_plan.specs.PathSteps.{paths_cost}
use Rattle.sb_plan.specs.Paths.{gives}
use Rattle.sb_plan.specs.Steps.{flow_cost}
use Rattle.sb_plan.proofs.plan.plan_lets.Given as goal

abbrev pub invariant-loop-bound : goal.invariant-loop-bound
invariant-loop-bound l = record {
  values : map (λ ps. gives ps.items) l.plans.items ++ map (λ b. given b.stream.flow) (map let_of (drop l.bound-index l.lets)) ≡ map (λ b. given b.stream.flow) (map let_of l.lets);
  costs : map (λ ps. paths_cost ps.items) l.plans.items ++ map (λ b. flow_cost b.stream.flow) (map let_of (drop l.bound-index l.lets)) ≡ map (λ b. flow_cost b.stream.flow) (map let_of l.lets);
}
