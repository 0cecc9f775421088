use Rattle.std.proofs.Common.{arith}
use Rattle.sb_session.proofs.session.Session.work.Goals as goal

pub chunks_between-requires-clause-limit : goal.chunks_between-requires-clause-limit
chunks_between-requires-clause-limit g c = omega (arith, c.min-upto.ensures, c.chunks.ensures, c.self.invariant.0.chunks)
