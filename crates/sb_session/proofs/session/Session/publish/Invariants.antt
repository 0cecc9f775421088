use Rattle.std.proofs.Common.{◌≡◌, ◌≤◌}
use Rattle.std.specs.Prelude.{max}
use Rattle.sb_session.specs.Sessions.{IsOver}
use Rattle.sb_session.proofs.session.Session.publish.Given as goal

abbrev pub invariant-loop-batch : goal.invariant-loop-batch
invariant-loop-batch g l = record {
  over : IsOver g.M.Semigroup.valid g.M.Semigroup.add (g.F.Family.monoids l.fn.feed) (g.F.Feed.records l.fn.feed) l.self;
  next : l.batch ≡ l.self.published;
  within : l.batch ≤ max l.fn.self.published l.end;
  cut : l.self.cut ≡ l.fn.self.cut;
  worked : l.self.worked ≡ l.fn.self.worked;
  batches : l.self.batches ≡ l.fn.self.batches;
  floor : l.self.floor ≡ l.fn.self.floor;
}
