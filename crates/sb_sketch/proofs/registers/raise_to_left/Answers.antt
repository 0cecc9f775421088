use Rattle.std.proofs.Common.{ap, ◌∙◌, arith}
use Rattle.std.specs.Prelude.{max, slice_set}
use Rattle.sb_sketch.proofs.Joining.{one_more, all_joined}
use Rattle.sb_sketch.proofs.registers.raise_to_left.Goals as goal

pub loop-at-preserved : goal.loop-at-preserved
loop-at-preserved c =
    let here = rw c.as_slice.ensures.value at c.cell_at.ensures in
    ap (slice_set c.loop-at.right.items c.loop-at.at) c.greater-raised.ensures
    ∙ one_more max c.args.left.now c.args.right.now.items c.loop-at.right.items c.loop-at.at c.cell_at.result c.loop-at.invariant (omega (arith, c.loop-at-test.true)) here

pub returns : goal.returns
returns c = all_joined max c.args.left.now c.args.right.now.items c.loop-at.right.items c.loop-at.at c.loop-at.invariant c.loop-at-test.false c.loop-at.auto.at-end c.requires
