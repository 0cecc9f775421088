use Rattle.std.proofs.Common.{◌≡◌, ◌<◌, ◌∙◌, sym, drop, length, arith}
use Rattle.std.proofs.lemmas.Bool.Decides.{nat_tests}
use Rattle.std.proofs.lemmas.Grind.{common_steps}
use Rattle.sb_types.proofs.Lists.{prefix_first}
use Rattle.sb_types.proofs.order.+compare.Goals as goal

pub compare_lists-returns-then-left-right : goal.compare_lists-returns-then-left-right
compare_lists-returns-then-left-right t c =
    let ended : length (drop c.loop-at.at c.args.left.now) ≡ 0 = grind (arith, common_steps, nat_tests) in
    let some : 0 < length (drop c.loop-at.at c.args.right.now) = grind (arith, common_steps, nat_tests) in
    sym (prefix_first (drop c.loop-at.at c.args.left.now) (drop c.loop-at.at c.args.right.now) ended some) ∙ c.loop-at.invariant.rest
