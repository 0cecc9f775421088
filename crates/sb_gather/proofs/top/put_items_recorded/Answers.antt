use Rattle.std.proofs.Common.{sym, subst}
use Rattle.std.proofs.lemmas.Result.{IfOk-weaker}
use Rattle.sb_gather.specs.Steps.{TopStepBack, StepsBack}
use Rattle.sb_gather.proofs.top.put_items_recorded.Goals as goal

pub returns-clause-undone : goal.returns-clause-undone
returns-clause-undone g c =
    IfOk-weaker c.put_recorded-done.result _ _ (λ steps h.
    subst (λ later. StepsBack TopStepBack steps.items later c.args.a.now) (sym c.from_vec.ensures)
    (subst (λ first. StepsBack TopStepBack steps.items c.put_recorded-done.new.list.items first) c.take-list.ensures.items h)) c.put_recorded-done.ensures.undone
