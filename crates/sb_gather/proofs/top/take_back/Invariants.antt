use Rattle.std.proofs.Common.{List}
use Rattle.std.specs.Vec.{vec_len}
use Rattle.sb_gather.specs.Steps.{TopStepBack, StepsBack}
use Rattle.sb_gather.proofs.top.take_back.Given as goal

abbrev pub invariant-loop-step : goal.invariant-loop-step
invariant-loop-step g l =
    (earlier : List _) → StepsBack TopStepBack l.fn.steps.items l.fn.list.items earlier → StepsBack TopStepBack l.steps.items l.list.items earlier

abbrev pub decreases-loop-step : goal.decreases-loop-step
decreases-loop-step g l = vec_len l.steps
