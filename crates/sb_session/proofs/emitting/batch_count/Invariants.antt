use Rattle.std.proofs.Common.{map}
use Rattle.sb_session.proofs.Emitted.{IsCounted}
use Rattle.sb_session.proofs.emitting.batch_count.Given as goal

abbrev pub invariant-loop-i : goal.invariant-loop-i
invariant-loop-i g l = IsCounted l.i l.count (map (λ r. r.batch) (g.F.Feed.records l.feed))
