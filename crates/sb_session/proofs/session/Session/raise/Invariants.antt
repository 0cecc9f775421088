use Rattle.std.specs.Prelude.{max}
use Rattle.sb_session.specs.Sessions.{job_by}
use Rattle.sb_session.proofs.Moving.{IsMoving}
use Rattle.sb_session.proofs.session.Session.raise.Given as goal

abbrev pub invariant-loop-number : goal.invariant-loop-number
invariant-loop-number g l =
    IsMoving g.F.M.Semigroup.valid g.F.M.Semigroup.add (job_by (g.F.Family.monoids l.fn.feed) (g.F.Feed.records l.fn.feed) l.fn.self.cut) l.fn.self.worked l.fn.self.published (max l.fn.self.floor l.fn.floor) l.fn.self l.number l.self
