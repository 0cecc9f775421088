use Rattle.std.proofs.Common.{◌≡◌}
use Rattle.std.specs.Prelude.{max}
use Rattle.sb_sketch.proofs.Joining.{joined_to}
use Rattle.sb_sketch.proofs.registers.raise_to_left.Given as goal

abbrev pub invariant-loop-at : goal.invariant-loop-at
invariant-loop-at l = l.right.items ≡ joined_to max l.at l.left l.fn.right.items
