use Rattle.std.proofs.Common.{rules, arith}
use Rattle.std.proofs.lemmas.Grind.{common_steps}
use Rattle.sb_syntax.specs.Expressions.{disj_rests, expr}
use Rattle.sb_syntax.proofs.Turns.{deeper}
use Rattle.sb_syntax.proofs.rules.Rules.+disj_rests.Goals as goal

pub returns-in_err-take : goal.returns-in_err-take
unfolding disj_rests
returns-in_err-take g t c =
    let e = deeper (λ n. disj_rests (expr c.args.self.now.depth) c.args.self.now.depth n c.args.found c.args.tokens.now) c.args.turns (omega arith) in
    first_of (search rules, grind (arith, common_steps))

pub returns-in_err-conj : goal.returns-in_err-conj
unfolding disj_rests
returns-in_err-conj g t c =
    let e = deeper (λ n. disj_rests (expr c.args.self.now.depth) c.args.self.now.depth n c.args.found c.args.tokens.now) c.args.turns (omega arith) in
    first_of (search rules, grind (arith, common_steps))

pub returns : goal.returns
unfolding disj_rests
returns g t c =
    let e = deeper (λ n. disj_rests (expr c.args.self.now.depth) c.args.self.now.depth n c.args.found c.args.tokens.now) c.args.turns (omega arith) in
    first_of (search rules, grind (arith, common_steps))
