use Rattle.std.proofs.Common.{arith}
use Rattle.std.specs.List.{IsDistinct}
use Rattle.sb_offline.proofs.offline.Offline.new.Goals as goal

pub invariant_of-result : goal.invariant_of-result
unfolding IsDistinct
invariant_of-result g c = rw (c.new.ensures, c.new-2.ensures.items, c.new-3.ensures.items) (record { floor = omega arith; below = tt; apart = tt })
