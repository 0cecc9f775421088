use Rattle.std.proofs.Common.{◌≡◌}
use Rattle.sb_sketch.specs.Cells.{wrapping_sum}
use Rattle.sb_sketch.proofs.Joining.{joined_to}
use Rattle.sb_sketch.proofs.counts.add_left.Given as goal

abbrev pub invariant-loop-at : goal.invariant-loop-at
invariant-loop-at l = l.right.items ≡ joined_to wrapping_sum l.at l.left l.fn.right.items
