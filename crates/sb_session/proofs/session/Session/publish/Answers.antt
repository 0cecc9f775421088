use Rattle.std.proofs.Common.{ap, arith}
use Rattle.sb_session.proofs.session.Session.publish.Goals as goal

pub returns-clause-published : goal.returns-clause-published
returns-clause-published g c =
    omega (arith, c.loop-batch.invariant.next, c.loop-batch.invariant.within, c.loop-batch-test.false, c.loop-batch.auto.batch, c.min-end.ensures, ap (λ s. s.batches) c.self.view_is, ap (λ s. s.published) c.self.view_is)
