use Rattle.sb_syntax.specs.Programs.{program}
use Rattle.sb_syntax.proofs.Gives.{gives_fault, program_fail}
use Rattle.sb_syntax.proofs.parsing.program.Goals as goal

pub returns-in-Err : goal.returns-in-Err
returns-in-Err c =
    gives_fault (program c.args.tokens.now) c.in-Err.fault c.code.result c.batch.new.tokens c.code.ensures
    (λ some. program_fail c.args.tokens.now c.in-Err.fault c.batch.new.tokens (c.in-Err.ensures some))
