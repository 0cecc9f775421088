use Rattle.std.proofs.Common.{◌++◌, ◌∙◌, map, ap, arith}
use Rattle.sb_feed.specs.Jobs.{meant}
use Rattle.sb_job.proofs.Emitted.{few_batches}
use Rattle.sb_job.proofs.Positions.{gathered_none, gathered_next, gathered_all}
use Rattle.sb_job.proofs.jobs.positions_between.Goals as goal

pub loop-batch-init : goal.loop-batch-init
loop-batch-init g c = record {
  most = omega arith;
  times = gathered_none c.args.from (map (λ r. r.batch) (g.F.Feed.records c.args.feed.now)) c.new-positions.result.items c.new-positions.ensures.items;
}

pub loop-batch-preserved : goal.loop-batch-preserved
loop-batch-preserved g c = record {
  most = omega (arith, c.loop-batch-test.true);
  times = gathered_next c.args.from c.loop-batch.batch _ (map (λ r. r.batch) (g.F.Feed.records c.args.feed.now)) c.loop-batch.positions.items _ (omega arith) (omega (arith, c.loop-batch.auto.batch)) c.loop-batch.invariant.times
      (c.in_ok-extend_from_slice.ensures.items ∙ ap (λ l. c.loop-batch.positions.items ++ l) c.positions.ensures);
}

pub returns : goal.returns
returns g c =
    let records = g.F.Feed.records c.args.feed.now in
    gathered_all c.args.from c.args.to c.loop-batch.batch (map (λ r. r.batch) records) c.loop-batch.positions.items c.sort_unstable.new.self.items
    (omega (arith, c.loop-batch-test.false, c.loop-batch.auto.batch, c.loop-batch.invariant.most, c.min-batch-end.ensures))
    (few_batches (meant g.F.M.Semigroup.valid g.F.M.Semigroup.add (g.F.Family.monoids c.args.feed.now)) records c.requires) c.loop-batch.invariant.times c.sort_unstable.ensures.permutation c.sort_unstable.ensures.sorted
