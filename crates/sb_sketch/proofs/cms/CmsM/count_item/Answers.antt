use Rattle.std.proofs.Common.{◌*◌, ◌<◌, subst, arith}
use Rattle.std.proofs.lemmas.Nat.{mod_below, row_fits}
use Rattle.sb_sketch.specs.Cms.{cell_of}
use Rattle.sb_sketch.proofs.Rows.{no_row, next_row}
use Rattle.sb_sketch.proofs.cms.CmsM.count_item.Goals as goal

pub loop-row-init : goal.loop-row-init
loop-row-init c =
    let shape = c.args.self.now in
    no_row shape.width (λ row. cell_of shape.width row c.args.item.now) c.args.counts.now.items (shape.rows * shape.width) c.requires

pub loop-row-preserved : goal.loop-row-preserved
loop-row-preserved c =
    let shape = c.args.self.now in
    let w = shape.width in
    let r = c.loop-row.row in
    let here = rw c.as_slice.ensures.value at c.cell_at-count.ensures in
    next_row w (λ row. cell_of w row c.args.item.now) c.args.counts.now.items c.loop-row.counts.items (shape.rows * w) r c.place_of-at.result c.cell_at-count.result
    c.loop-row.invariant c.place_of-at.ensures.place here (mod_below _ w (subst (λ s. 0 < s.width) c.self.view_is c.self.invariant.0)) (row_fits r w shape.rows w (subst (λ s. r < s.rows) c.self.view_is c.loop-row-test.true) (omega arith))
