use Rattle.std.proofs.Common.{arith}
use Rattle.sb_sketch.specs.Cells.{wrapping_sum}
use Rattle.sb_sketch.proofs.Joining.{one_more, all_joined}
use Rattle.sb_sketch.proofs.counts.add_left.Goals as goal

pub loop-at-preserved : goal.loop-at-preserved
loop-at-preserved c =
    let here = rw c.as_slice.ensures.value at c.cell_at.ensures in
    one_more wrapping_sum c.args.left.now c.args.right.now.items c.loop-at.right.items c.loop-at.at c.cell_at.result c.loop-at.invariant (omega (arith, c.loop-at-test.true)) here

pub returns : goal.returns
returns c = all_joined wrapping_sum c.args.left.now c.args.right.now.items c.loop-at.right.items c.loop-at.at c.loop-at.invariant c.loop-at-test.false c.loop-at.auto.at-end c.requires
