use Rattle.std.proofs.Common.{rules, arith}
use Rattle.std.proofs.lemmas.Grind.{common_steps}
use Rattle.sb_syntax.specs.Statements.{head}
use Rattle.sb_syntax.proofs.Turns.{deeper}
use Rattle.sb_syntax.proofs.streams.+head.Goals as goal

pub returns-in_err-stream_behind : goal.returns-in_err-stream_behind
unfolding head
returns-in_err-stream_behind t c =
    let e = deeper (λ n. head n c.args.tokens.now) c.args.depth (omega arith) in
    first_of (search rules, grind (arith, common_steps))

pub returns-in_err-expect-2 : goal.returns-in_err-expect-2
unfolding head
returns-in_err-expect-2 t c =
    let e = deeper (λ n. head n c.args.tokens.now) c.args.depth (omega arith) in
    first_of (search rules, grind (arith, common_steps))

pub returns-in_err-right : goal.returns-in_err-right
unfolding head
returns-in_err-right t c =
    let e = deeper (λ n. head n c.args.tokens.now) c.args.depth (omega arith) in
    first_of (search rules, grind (arith, common_steps))

pub returns-in_err-stream_behind-2 : goal.returns-in_err-stream_behind-2
unfolding head
returns-in_err-stream_behind-2 t c =
    let e = deeper (λ n. head n c.args.tokens.now) c.args.depth (omega arith) in
    first_of (search rules, grind (arith, common_steps))

pub returns-in_err-expect-3 : goal.returns-in_err-expect-3
unfolding head
returns-in_err-expect-3 t c =
    let e = deeper (λ n. head n c.args.tokens.now) c.args.depth (omega arith) in
    first_of (search rules, grind (arith, common_steps))

pub returns : goal.returns
unfolding head
returns t c =
    let e = deeper (λ n. head n c.args.tokens.now) c.args.depth (omega arith) in
    first_of (search rules, grind (arith, common_steps))
