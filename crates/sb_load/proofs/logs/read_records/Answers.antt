use Rattle.std.proofs.Common.{ap, ◌∙◌}
use Rattle.sb_check.specs.CheckedView.{checked_of}
use Rattle.sb_load.specs.Inputs.{log_refusal, refused_by}
use Rattle.sb_load.specs.Steps.{records_of}
use Rattle.sb_load.proofs.Placed.{log_placed}
use Rattle.sb_load.proofs.logs.read_records.Goals as goal

pub returns-in-Ok-clause-read : goal.returns-in-Ok-clause-read
returns-in-Ok-clause-read c = λ loaded is. is ∙ ap (refused_by log_refusal) c.in-Ok.ensures.read

pub returns-in-Ok-clause-placed : goal.returns-in-Ok-clause-placed
returns-in-Ok-clause-placed c = log_placed (checked_of c.args.program.now) c.args.bytes.now (records_of c.in-Ok.log) c.in-Ok.ensures.read
