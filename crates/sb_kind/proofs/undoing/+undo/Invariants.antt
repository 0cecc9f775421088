use Rattle.std.proofs.Common.{List}
use Rattle.std.specs.Vec.{vec_len}
use Rattle.sb_gather.specs.Maps.{ValueBack}
use Rattle.sb_gather.specs.Steps.{StepBack, StepsBack}
use Rattle.sb_kind.specs.KindView.{monoid_of}
use Rattle.sb_kind.specs.Undoing.{TakesBack}
use Rattle.sb_kind.specs.declared.agg.Agg.{Agg}
use Rattle.sb_types.specs.declared.values.Val.{Val}
use Rattle.sb_kind.proofs.undoing.+undo.Given as goal

abbrev pub invariant-take_back-loop-step : goal.invariant-take_back-loop-step
invariant-take_back-loop-step l =
    (earlier : List (Val × Agg)) → StepsBack (StepBack (ValueBack (TakesBack (monoid_of l.part)))) l.fn.steps.items l.fn.list.items earlier
    → StepsBack (StepBack (ValueBack (TakesBack (monoid_of l.part)))) l.steps.items l.list.items earlier

abbrev pub decreases-take_back-loop-step : goal.decreases-take_back-loop-step
decreases-take_back-loop-step l = vec_len l.steps
