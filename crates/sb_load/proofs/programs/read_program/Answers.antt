use Rattle.sb_load.proofs.Loading.{tree_tells, fault_tells}
use Rattle.sb_load.proofs.programs.read_program.Goals as goal

pub returns-in-Ok-clause-read : goal.returns-in-Ok-clause-read
returns-in-Ok-clause-read c =
    tree_tells c.args.text.now c.in-Ok.tree c.accept.result c.in-Ok.ensures.fault (λ other is. (c.in-Ok.ensures.every other is).0) c.accept.ensures.read

pub returns-in-Err-clause-read : goal.returns-in-Err-clause-read
returns-in-Err-clause-read c =
    fault_tells c.args.text.now c.in-Err.error c.of_syntax.result c.in-Err.ensures.fault (λ other is. (c.in-Err.ensures.every other is).1) c.of_syntax.ensures
