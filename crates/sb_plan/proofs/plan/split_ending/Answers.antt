use Rattle.std.proofs.Common.{ap, sym, ◌∙◌, map}
use Rattle.sb_plan.specs.Feeding.{made_by}
use Rattle.sb_plan.specs.Given.{fed, given}
use Rattle.sb_plan.specs.declared.making.Ending.TheVariants as ending
use Rattle.sb_plan.specs.PathSteps.{steps_behind}
use Rattle.sb_plan.specs.Steps.{flow_cost, flow_steps}
use Rattle.sb_plan.proofs.Gives.{given_map, split_fed}
use Rattle.sb_plan.proofs.PathCosts.{flow-Map}
use Rattle.sb_plan.proofs.plan.split_ending.Goals as goal

pub returns-in-Some-clause-value : goal.returns-in-Some-clause-value
returns-in-Some-clause-value c = λ m r services lets.
    ap (map (fed m)) (ap (λ f. given f r services lets) c.in-Map.is ∙ ap (λ g. g r services lets) (given_map c.in-Map.before c.in-Map.by))
    ∙ (split_fed m c.in-Map.by c.in-Some.key c.in-Some.value c.in-Some.ensures (given c.in-Map.before r services lets)
    ∙ ap (λ f. map (made_by (ending.Split c.in-Some.key c.in-Some.value) m) (given f r services lets)) (sym c.get.ensures))

pub returns-in-Some-clause-steps : goal.returns-in-Some-clause-steps
returns-in-Some-clause-steps c = ap flow_steps c.in-Map.is ∙ (flow-Map c.in-Map.before c.in-Map.by ∙ ap (λ f. steps_behind 1 (flow_cost f)) (sym c.get.ensures))
