use Rattle.std.proofs.Common.{rules, arith}
use Rattle.std.proofs.lemmas.Grind.{common_steps}
use Rattle.sb_syntax.specs.Expressions.{conj_rests, expr}
use Rattle.sb_syntax.proofs.Turns.{deeper}
use Rattle.sb_syntax.proofs.rules.Rules.+conj_rests.Goals as goal

pub returns-in_err-take : goal.returns-in_err-take
unfolding conj_rests
returns-in_err-take g t c =
    let e = deeper (λ n. conj_rests (expr c.args.self.now.depth) c.args.self.now.depth n c.args.found c.args.tokens.now) c.args.turns (omega arith) in
    first_of (search rules, grind (arith, common_steps))

pub returns-in_err-neg : goal.returns-in_err-neg
unfolding conj_rests
returns-in_err-neg g t c =
    let e = deeper (λ n. conj_rests (expr c.args.self.now.depth) c.args.self.now.depth n c.args.found c.args.tokens.now) c.args.turns (omega arith) in
    first_of (search rules, grind (arith, common_steps))

pub returns : goal.returns
unfolding conj_rests
returns g t c =
    let e = deeper (λ n. conj_rests (expr c.args.self.now.depth) c.args.self.now.depth n c.args.found c.args.tokens.now) c.args.turns (omega arith) in
    first_of (search rules, grind (arith, common_steps))
