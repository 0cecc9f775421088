use Rattle.std.proofs.Common.{◌*◌, ◌<◌, ap, subst, ◌∙◌, arith}
use Rattle.std.proofs.lemmas.Nat.{mod_below, row_fits}
use Rattle.sb_sketch.specs.Cells.{zeros}
use Rattle.sb_sketch.specs.Cms.{cell_of}
use Rattle.sb_sketch.specs.Places.{counted_at, counted_up}
use Rattle.sb_sketch.proofs.Counting.{counted_last}
use Rattle.sb_sketch.proofs.Rows.{one_row_more}
use Rattle.sb_sketch.proofs.cms.CmsM.places_of.Goals as goal

pub loop-row-preserved : goal.loop-row-preserved
loop-row-preserved c =
    let shape = c.args.self.now in
    let w = shape.width in
    let r = c.loop-row.row in
    let all = shape.rows * w in
    ap (counted_at (zeros all)) c.in_ok-push.ensures.items
    ∙ (counted_last (zeros all) c.loop-row.places.items c.place_of.result
    ∙ (ap (λ l. counted_up l c.place_of.result) c.loop-row.invariant
    ∙ one_row_more w (λ row. cell_of w row c.args.item.now) all r c.place_of.result c.place_of.ensures.place
    (mod_below _ w (subst (λ s. 0 < s.width) c.self.view_is c.self.invariant.0)) (row_fits r w shape.rows w (subst (λ s. r < s.rows) c.self.view_is c.loop-row-test.true) (omega arith))))
