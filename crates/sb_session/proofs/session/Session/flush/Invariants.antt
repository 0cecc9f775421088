use Rattle.std.proofs.Common.{◌≡◌, ◌+◌, length}
use Rattle.std.specs.Vec.Iter.{into_iter_items}
use Rattle.sb_session.specs.Sessions.{job_by}
use Rattle.sb_session.specs.Steps.{IsNextParcel}
use Rattle.sb_session.proofs.Moving.{IsMoving}
use Rattle.sb_session.proofs.Places.{AreFrom}
use Rattle.sb_session.proofs.session.Session.flush.Given as goal

abbrev pub invariant-loop-parcel : goal.invariant-loop-parcel
invariant-loop-parcel g l = record {
  moving : IsMoving g.F.M.Semigroup.valid g.F.M.Semigroup.add (job_by (g.F.Family.monoids l.fn.feed) (g.F.Feed.records l.fn.feed) l.fn.self.cut) l.fn.upto l.fn.self.published l.fn.self.floor l.fn.self l.number l.self;
  parcels : AreFrom (IsNextParcel g.F.M.Semigroup.valid g.F.M.Semigroup.add (job_by (g.F.Family.monoids l.fn.feed) (g.F.Feed.records l.fn.feed) l.fn.self.cut) l.fn.self.worked l.fn.upto) l.number (into_iter_items l.parcel-iterator);
  count : l.number + length (into_iter_items l.parcel-iterator) ≡ length l.fn.self.shards;
}
