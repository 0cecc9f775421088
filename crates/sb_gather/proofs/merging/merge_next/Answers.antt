use Rattle.std.proofs.Common.{◌≡◌, ◌++◌, [], ◌∷◌, sym, ap, subst, ◌∙◌}
use Rattle.sb_gather.specs.Merges.{turned}
use Rattle.sb_gather.specs.Steps.{StepBack, StepsBack}
use Rattle.sb_gather.proofs.Undoing.{step_noted}
use Rattle.sb_gather.proofs.merging.merge_next.Goals as goal

pub returns-clause-undone : goal.returns-clause-undone
returns-clause-undone g c first h =
    let B = StepBack (g.D.Joining.takes_back c.args.d.now) in
    let later = turned c.merge_one.new.left c.merge_one.new.ring.items in
    let earlier = turned c.args.left.now c.args.ring.now.items in
    let noted : c.push.new.self.items ≡ c.args.steps.now.items ++ c.in_ok-step.step ∷ [] = c.in_ok-push.ensures.items ∙ ap (λ l. l ++ c.in_ok-step.step ∷ []) c.in_ok-reserve.ensures.items in
    subst (λ l. StepsBack B l later first) (sym noted) (step_noted B c.args.steps.now.items c.in_ok-step.step later earlier first c.in_ok-step.ensures.undone h)
