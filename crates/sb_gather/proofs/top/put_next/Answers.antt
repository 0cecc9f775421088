use Rattle.std.proofs.Common.{◌≡◌, ◌++◌, [], ◌∷◌, sym, ap, subst, ◌∙◌}
use Rattle.sb_gather.specs.Steps.{TopStepBack, StepsBack}
use Rattle.sb_gather.proofs.Undoing.{step_noted}
use Rattle.sb_gather.proofs.top.put_next.Goals as goal

pub returns-in_ok-push-clause-undone : goal.returns-in_ok-push-clause-undone
returns-in_ok-push-clause-undone g c first h =
    let noted : c.push.new.self.items ≡ c.args.steps.now.items ++ c.in-Some.step ∷ [] = c.in_ok-push.ensures.items ∙ ap (λ l. l ++ c.in-Some.step ∷ []) c.in_ok-reserve.ensures.items in
    let one : TopStepBack c.in-Some.step c.put_one.new.list.items c.args.list.now.items = rw c.in-Some.is at c.in_ok-step.ensures.undone in
    subst (λ l. StepsBack TopStepBack l c.put_one.new.list.items first) (sym noted) (step_noted TopStepBack c.args.steps.now.items c.in-Some.step c.put_one.new.list.items c.args.list.now.items first one h)
