use Rattle.std.proofs.Common.{sym, subst, ◌∙◌}
use Rattle.sb_gather.specs.Steps.{TopStepBack, StepsBack}
use Rattle.sb_gather.proofs.top.take_items_back.Goals as goal

pub returns : goal.returns
returns g c earlier h = c.from_vec.ensures ∙ c.take_back.ensures earlier (subst (λ l. StepsBack TopStepBack c.args.steps.items l earlier) (sym c.take-list.ensures.items) h)
