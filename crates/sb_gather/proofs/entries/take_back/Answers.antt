use Rattle.std.proofs.Common.{◌++◌, [], ◌∷◌, sym, subst}
use Rattle.sb_gather.specs.Steps.{StepBack, StepsBack}
use Rattle.sb_gather.proofs.Undoing.{last_step}
use Rattle.sb_gather.proofs.entries.take_back.Goals as goal

pub loop-step-preserved : goal.loop-step-preserved
loop-step-preserved g c earlier h =
    let B = StepBack (g.D.Joining.takes_back c.args.d.now) in
    let steps : StepsBack B (c.pop.new.self.items ++ c.in-Some.step ∷ []) c.loop-step.list.items earlier = rw c.in-Some.ensures.items at c.loop-step.invariant earlier h in
    let last = last_step B c.pop.new.self.items c.in-Some.step c.loop-step.list.items earlier steps in
    subst (λ l. StepsBack B c.pop.new.self.items l earlier) (sym (c.step_back.ensures last.0 last.1)) last.2
