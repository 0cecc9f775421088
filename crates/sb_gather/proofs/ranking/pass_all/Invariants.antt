use Rattle.std.proofs.Common.{◌≡◌, ◌+◌, ◌≤◌, ◌++◌, length}
use Rattle.std.specs.Vec.{vec_capacity}
use Rattle.sb_gather.specs.Merges.{IsNotBefore}
use Rattle.sb_gather.proofs.ranking.pass_all.Given as goal

abbrev pub invariant-loop : goal.invariant-loop
invariant-loop g l = record {
  list : l.passed.items ++ l.left.items ≡ l.fn.passed.items ++ l.fn.left.items;
  passed : IsNotBefore (g.O.Ordered.order l.order) l.entry l.passed.items;
  room : length l.passed.items + length l.left.items ≤ vec_capacity l.passed;
  capacity : vec_capacity l.passed ≡ vec_capacity l.fn.passed;
}

abbrev pub decreases-loop : goal.decreases-loop
decreases-loop g l = length l.left.items
