use Rattle.std.proofs.Common.{rules, arith}
use Rattle.std.proofs.lemmas.Grind.{common_steps}
use Rattle.sb_syntax.specs.Expressions.{list_end, expr}
use Rattle.sb_syntax.proofs.Turns.{deeper}
use Rattle.sb_syntax.proofs.rules.Rules.+list_end.Goals as goal

pub returns-in_err-take : goal.returns-in_err-take
unfolding list_end
returns-in_err-take g t c =
    let e = deeper (λ n. list_end (expr c.args.self.now.depth) c.args.self.now.depth n c.args.found c.args.tokens.now) c.args.turns (omega arith) in
    first_of (search rules, grind (arith, common_steps))

pub returns-in_err-expr : goal.returns-in_err-expr
unfolding list_end
returns-in_err-expr g t c =
    let e = deeper (λ n. list_end (expr c.args.self.now.depth) c.args.self.now.depth n c.args.found c.args.tokens.now) c.args.turns (omega arith) in
    first_of (search rules, grind (arith, common_steps))

pub returns-then-sees : goal.returns-then-sees
unfolding list_end
returns-then-sees g t c =
    let e = deeper (λ n. list_end (expr c.args.self.now.depth) c.args.self.now.depth n c.args.found c.args.tokens.now) c.args.turns (omega arith) in
    first_of (search rules, grind (arith, common_steps))

pub returns-in_err-expect : goal.returns-in_err-expect
unfolding list_end
returns-in_err-expect g t c =
    let e = deeper (λ n. list_end (expr c.args.self.now.depth) c.args.self.now.depth n c.args.found c.args.tokens.now) c.args.turns (omega arith) in
    first_of (search rules, grind (arith, common_steps))

pub returns : goal.returns
unfolding list_end
returns g t c =
    let e = deeper (λ n. list_end (expr c.args.self.now.depth) c.args.self.now.depth n c.args.found c.args.tokens.now) c.args.turns (omega arith) in
    first_of (search rules, grind (arith, common_steps))
