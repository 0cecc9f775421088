use Rattle.std.proofs.Common.{rules, arith}
use Rattle.std.proofs.lemmas.Grind.{common_steps}
use Rattle.sb_syntax.specs.Statements.{more_fields}
use Rattle.sb_syntax.proofs.Turns.{deeper}
use Rattle.sb_syntax.proofs.statements.+more_fields.Goals as goal

pub returns-then-sees : goal.returns-then-sees
unfolding more_fields
returns-then-sees t c =
    let e = deeper (λ n. more_fields n c.args.found c.args.tokens.now) c.args.turns (omega arith) in
    first_of (search rules, grind (arith, common_steps))
