use Rattle.std.proofs.Common.{◌≡◌, drop}
use Rattle.sb_check.specs.Declarations.{declarations_of}
use Rattle.sb_check.specs.Streams.{stages_known}
use Rattle.sb_check.proofs.streams.are_known.Given as goal

abbrev pub invariant-loop-stage : goal.invariant-loop-stage
invariant-loop-stage l =
    stages_known (declarations_of l.declared) (drop l.stage-index l.stages) ≡ stages_known (declarations_of l.declared) l.stages
