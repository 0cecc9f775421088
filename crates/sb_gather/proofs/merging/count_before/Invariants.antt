use Rattle.std.proofs.Common.{take}
use Rattle.sb_gather.specs.Merges.{IsAfter}
use Rattle.sb_gather.proofs.merging.count_before.Given as goal

abbrev pub invariant-loop-at : goal.invariant-loop-at
invariant-loop-at g l = IsAfter (g.O.Ordered.order l.order) l.entry (take l.at l.ring.items)
