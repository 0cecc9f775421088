use Rattle.std.proofs.Common.{map, arith}
use Rattle.std.proofs.lemmas.List.{length-map}
use Rattle.sb_session.proofs.Emitted.{counted_next, counted_all}
use Rattle.sb_session.proofs.emitting.batch_count.Goals as goal

pub loop-i-preserved : goal.loop-i-preserved
loop-i-preserved g c =
    let records = g.F.Feed.records c.args.feed.now in
    counted_next c.loop-i.i _ c.loop-i.count c.batch.result c.greater-count.result (map (λ r. r.batch) records)
    (omega (arith, length-map records (λ r. r.batch), c.loop-i-test.true, c.len-i-end.ensures.len)) (omega arith) c.loop-i.invariant c.batch.ensures.batch c.batch.ensures.limit c.greater-count.ensures

pub returns-clause-count : goal.returns-clause-count
returns-clause-count g c =
    let records = g.F.Feed.records c.args.feed.now in
    counted_all c.loop-i.i c.loop-i.count (map (λ r. r.batch) records) (omega (arith, length-map records (λ r. r.batch), c.loop-i-test.false, c.len-i-end.ensures.len)) c.loop-i.invariant
