use Rattle.std.proofs.Common.{List}
use Rattle.std.specs.Vec.{vec_len}
use Rattle.sb_gather.specs.Steps.{StepBack, StepsBack}
use Rattle.sb_gather.proofs.entries.take_back.Given as goal

abbrev pub invariant-loop-step : goal.invariant-loop-step
invariant-loop-step g l =
    (earlier : List _) → StepsBack (StepBack (g.D.Joining.takes_back l.d)) l.fn.steps.items l.fn.list.items earlier → StepsBack (StepBack (g.D.Joining.takes_back l.d)) l.steps.items l.list.items earlier

abbrev pub decreases-loop-step : goal.decreases-loop-step
decreases-loop-step g l = vec_len l.steps
