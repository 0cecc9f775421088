use Rattle.std.proofs.Common.{rules, arith}
use Rattle.std.proofs.lemmas.Grind.{common_steps}
use Rattle.sb_syntax.specs.Statements.{stages}
use Rattle.sb_syntax.proofs.Turns.{deeper}
use Rattle.sb_syntax.proofs.streams.+stages.Goals as goal

pub returns : goal.returns
unfolding stages
returns t c =
    let e = deeper (λ n. stages n c.args.found c.args.tokens.now) c.args.turns (omega arith) in
    first_of (search rules, grind (arith, common_steps))
