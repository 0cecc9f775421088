use Rattle.std.proofs.Common.{◌≡◌, ◌++◌, drop}
use Rattle.sb_gather.proofs.map.MapMSemigroup.copy.Given as goal

abbrev pub invariant-loop-entry : goal.invariant-loop-entry
invariant-loop-entry g l = l.entries.items ++ drop l.entry-index l.entry-items ≡ l.a
