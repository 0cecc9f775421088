use Rattle.std.proofs.Common.{◌≡◌, ◌+◌, length}
use Rattle.std.specs.Vec.Iter.{into_iter_items}
use Rattle.sb_feed.specs.Jobs.{meant}
use Rattle.sb_session.specs.Sessions.{job_by}
use Rattle.sb_session.proofs.Moving.{IsMoving}
use Rattle.sb_session.proofs.Places.{AreFrom}
use Rattle.sb_session.proofs.Stands.{AreOwnRows}
use Rattle.sb_session.proofs.session.Session.publish_next.Given as goal

abbrev pub invariant-loop-rows : goal.invariant-loop-rows
invariant-loop-rows g l = record {
  moving : IsMoving g.M.Semigroup.valid g.M.Semigroup.add (job_by (g.F.Family.monoids l.fn.feed) (g.F.Feed.records l.fn.feed) l.fn.self.cut) l.fn.self.worked (l.fn.batch + 1) l.fn.self.floor l.fn.self l.number l.self;
  rows : AreFrom (AreOwnRows (meant g.M.Semigroup.valid g.M.Semigroup.add (g.F.Family.monoids l.fn.feed)) (g.F.Feed.records l.fn.feed) l.fn.self.cut.shards l.fn.batch) l.number (into_iter_items l.rows-iterator);
  count : l.number + length (into_iter_items l.rows-iterator) ≡ length l.fn.self.shards;
}
