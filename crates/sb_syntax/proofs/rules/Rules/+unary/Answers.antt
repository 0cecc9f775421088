use Rattle.std.proofs.Common.{rules, arith}
use Rattle.std.proofs.lemmas.Grind.{common_steps}
use Rattle.sb_syntax.specs.Expressions.{unary, expr}
use Rattle.sb_syntax.proofs.Turns.{deeper}
use Rattle.sb_syntax.proofs.rules.Rules.+unary.Goals as goal

pub returns-in_err-take : goal.returns-in_err-take
unfolding unary
returns-in_err-take g t c =
    let e = deeper (λ n. unary (expr c.args.self.now.depth) c.args.self.now.depth n c.args.tokens.now) c.args.turns (omega arith) in
    first_of (search rules, grind (arith, common_steps))

pub returns-in_err-inner : goal.returns-in_err-inner
unfolding unary
returns-in_err-inner g t c =
    let e = deeper (λ n. unary (expr c.args.self.now.depth) c.args.self.now.depth n c.args.tokens.now) c.args.turns (omega arith) in
    first_of (search rules, grind (arith, common_steps))

pub returns-in_err-post : goal.returns-in_err-post
unfolding unary
returns-in_err-post g t c =
    let e = deeper (λ n. unary (expr c.args.self.now.depth) c.args.self.now.depth n c.args.tokens.now) c.args.turns (omega arith) in
    first_of (search rules, grind (arith, common_steps))
