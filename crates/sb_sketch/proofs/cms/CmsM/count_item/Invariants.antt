use Rattle.std.proofs.Common.{◌≡◌, ◌*◌}
use Rattle.sb_sketch.specs.Cells.{counts_added}
use Rattle.sb_sketch.specs.Cms.{cell_of}
use Rattle.sb_sketch.proofs.Rows.{counted}
use Rattle.sb_sketch.proofs.cms.CmsM.count_item.Given as goal

abbrev pub invariant-loop-row : goal.invariant-loop-row
invariant-loop-row l =
    l.counts.items ≡ counts_added l.fn.counts.items (counted l.self.width (λ row. cell_of l.self.width row l.item) (l.self.rows * l.self.width) l.row)
