use Rattle.std.proofs.Common.{rules, arith}
use Rattle.std.proofs.lemmas.Grind.{common_steps}
use Rattle.sb_syntax.specs.Types.{mono}
use Rattle.sb_syntax.proofs.Turns.{deeper}
use Rattle.sb_syntax.proofs.types.+mono_tree.Goals as goal

pub returns-in_err-expect-2 : goal.returns-in_err-expect-2
unfolding mono
returns-in_err-expect-2 t c =
    let e = deeper (λ n. mono n c.args.tokens.now) c.args.depth (omega arith) in
    first_of (search rules, grind (arith, common_steps))

pub returns-in_err-mono_tree-2 : goal.returns-in_err-mono_tree-2
unfolding mono
returns-in_err-mono_tree-2 t c =
    let e = deeper (λ n. mono n c.args.tokens.now) c.args.depth (omega arith) in
    first_of (search rules, grind (arith, common_steps))

pub returns-in_err-expect-3 : goal.returns-in_err-expect-3
unfolding mono
returns-in_err-expect-3 t c =
    let e = deeper (λ n. mono n c.args.tokens.now) c.args.depth (omega arith) in
    first_of (search rules, grind (arith, common_steps))

pub returns-in_err-expect-5 : goal.returns-in_err-expect-5
unfolding mono
returns-in_err-expect-5 t c =
    let e = deeper (λ n. mono n c.args.tokens.now) c.args.depth (omega arith) in
    first_of (search rules, grind (arith, common_steps))

pub returns : goal.returns
unfolding mono
returns t c =
    let e = deeper (λ n. mono n c.args.tokens.now) c.args.depth (omega arith) in
    first_of (search rules, grind (arith, common_steps))
