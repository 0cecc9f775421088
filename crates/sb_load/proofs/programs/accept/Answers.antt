use Rattle.std.proofs.Common.{ap}
use Rattle.sb_check.specs.Programs.{check_of}
use Rattle.sb_load.specs.Inputs.{check_refusal, refused_by}
use Rattle.sb_load.proofs.Loading.{check_tells}
use Rattle.sb_load.proofs.programs.accept.Goals as goal

pub returns-in-Ok-clause-read : goal.returns-in-Ok-clause-read
returns-in-Ok-clause-read c = ap (refused_by check_refusal) c.in-Ok.ensures

pub returns-in-Err-clause-read : goal.returns-in-Err-clause-read
returns-in-Err-clause-read c = check_tells (check_of c.args.tree) c.in-Err.error c.of_check.result c.of_check.ensures c.in-Err.ensures
