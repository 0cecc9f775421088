use Rattle.std.proofs.Common.{◌≡◌, sym, subst, rules}
use Rattle.sb_check.specs.CheckedView.{checked_of}
use Rattle.sb_plan.specs.Bounds.{AreWithin}
use Rattle.sb_plan.specs.PathSteps.{plan_costs}
use Rattle.sb_plan.specs.Steps.{costs_of}
use Rattle.sb_plan.specs.declared.plan.Plan.{Plan}
use Rattle.sb_plan.proofs.ProgramBounds.{costs_within}
use Rattle.sb_plan.proofs.plan.plan_of.Goals as goal

pub returns-clause-within : goal.returns-clause-within
returns-clause-within c =
    let plan : Plan = record { lets = c.in_ok-lets.lets; stores = c.in_ok-stores.stores } in
    let is : plan_costs plan ≡ costs_of (checked_of c.args.c.now) = search rules in
    subst (λ costs. AreWithin costs (checked_of c.args.c.now)) (sym is) (costs_within (checked_of c.args.c.now))
