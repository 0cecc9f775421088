use Rattle.sb_job.proofs.BatchSums.{gathered}
use Rattle.sb_job.proofs.by_batch.add_asked.Goals as goal

pub loop-part-preserved : goal.loop-part-preserved
loop-part-preserved g c =
    let m = c.args.m.now in
    let i = c.loop-part.invariant in
    let next = gathered (g.M.Semigroup.valid m) (g.M.Semigroup.add m) (g.met.M.Semigroup.keeps_valid m) c.args.key.now c.args.from c.args.upto
    c.loop-part.sums.items c.add_part.new.sums.items c.args.parts.now c.loop-part.part-index c.part-item.result _
    c.loop-part-test.true c.part-item.is (record { rest = i.rest; rising = i.rising; valid = i.valid; later = i.later }) c.in_ok-add_part.ensures in
    record { rest = next.rest; rising = next.rising; valid = next.valid; later = next.later }
