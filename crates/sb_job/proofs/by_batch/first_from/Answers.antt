use Rattle.sb_laws.proofs.Tables.{truly}
use Rattle.sb_job.proofs.Placing.{before_place}
use Rattle.sb_job.proofs.by_batch.first_from.Goals as goal

pub returns-else-sums-at-clause-before : goal.returns-else-sums-at-clause-before
returns-else-sums-at-clause-before g c =
    before_place c.args.batch c.args.sums.now c.loop-at.at c.index-sums-at.result (truly _ c.requires) c.loop-at-test.true c.loop-at.invariant.within c.if-sums-at.false
