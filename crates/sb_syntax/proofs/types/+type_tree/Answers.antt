use Rattle.std.proofs.Common.{rules, arith}
use Rattle.std.proofs.lemmas.Grind.{common_steps}
use Rattle.sb_syntax.specs.Types.{a_type}
use Rattle.sb_syntax.proofs.Turns.{deeper}
use Rattle.sb_syntax.proofs.types.+type_tree.Goals as goal

pub returns-in_err-expect-2 : goal.returns-in_err-expect-2
unfolding a_type
returns-in_err-expect-2 t c =
    let e = deeper (λ n. a_type n c.args.tokens.now) c.args.depth (omega arith) in
    first_of (search rules, grind (arith, common_steps))

pub returns-in_err-type_tree-2 : goal.returns-in_err-type_tree-2
unfolding a_type
returns-in_err-type_tree-2 t c =
    let e = deeper (λ n. a_type n c.args.tokens.now) c.args.depth (omega arith) in
    first_of (search rules, grind (arith, common_steps))

pub returns-in_err-expect-3 : goal.returns-in_err-expect-3
unfolding a_type
returns-in_err-expect-3 t c =
    let e = deeper (λ n. a_type n c.args.tokens.now) c.args.depth (omega arith) in
    first_of (search rules, grind (arith, common_steps))

pub returns-in_err-expect-5 : goal.returns-in_err-expect-5
unfolding a_type
returns-in_err-expect-5 t c =
    let e = deeper (λ n. a_type n c.args.tokens.now) c.args.depth (omega arith) in
    first_of (search rules, grind (arith, common_steps))

pub returns-in_err-expect-7 : goal.returns-in_err-expect-7
unfolding a_type
returns-in_err-expect-7 t c =
    let e = deeper (λ n. a_type n c.args.tokens.now) c.args.depth (omega arith) in
    first_of (search rules, grind (arith, common_steps))

pub returns-in_err-most : goal.returns-in_err-most
unfolding a_type
returns-in_err-most t c =
    let e = deeper (λ n. a_type n c.args.tokens.now) c.args.depth (omega arith) in
    first_of (search rules, grind (arith, common_steps))

pub returns-in_err-expect-8 : goal.returns-in_err-expect-8
unfolding a_type
returns-in_err-expect-8 t c =
    let e = deeper (λ n. a_type n c.args.tokens.now) c.args.depth (omega arith) in
    first_of (search rules, grind (arith, common_steps))

pub returns-then-sees_word : goal.returns-then-sees_word
unfolding a_type
returns-then-sees_word t c =
    let e = deeper (λ n. a_type n c.args.tokens.now) c.args.depth (omega arith) in
    first_of (search rules, grind (arith, common_steps))

pub returns-then-sees_word-3 : goal.returns-then-sees_word-3
unfolding a_type
returns-then-sees_word-3 t c =
    let e = deeper (λ n. a_type n c.args.tokens.now) c.args.depth (omega arith) in
    first_of (search rules, grind (arith, common_steps))

pub returns-in_err-scalar : goal.returns-in_err-scalar
unfolding a_type
returns-in_err-scalar t c =
    let e = deeper (λ n. a_type n c.args.tokens.now) c.args.depth (omega arith) in
    first_of (search rules, grind (arith, common_steps))

pub returns : goal.returns
unfolding a_type
returns t c =
    let e = deeper (λ n. a_type n c.args.tokens.now) c.args.depth (omega arith) in
    first_of (search rules, grind (arith, common_steps))
