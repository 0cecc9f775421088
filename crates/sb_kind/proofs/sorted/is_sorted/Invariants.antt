use Rattle.std.proofs.Common.{◌≡◌, drop}
use Rattle.sb_kind.specs.Read.{is_sorted}
use Rattle.sb_kind.proofs.sorted.is_sorted.Given as goal

abbrev pub invariant-loop-at : goal.invariant-loop-at
invariant-loop-at g l = is_sorted l.ties (g.O.Ordered.order l.order) (drop l.at l.entries) ≡ is_sorted l.ties (g.O.Ordered.order l.order) l.entries
