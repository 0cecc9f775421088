use Rattle.std.proofs.Common.{◌≡◌, ◌*◌}
use Rattle.sb_sketch.specs.Cells.{zeros}
use Rattle.sb_sketch.specs.Cms.{cell_of}
use Rattle.sb_sketch.specs.Places.{counted_at}
use Rattle.sb_sketch.proofs.Rows.{counted}
use Rattle.sb_sketch.proofs.cms.CmsM.places_of.Given as goal

abbrev pub invariant-loop-row : goal.invariant-loop-row
invariant-loop-row l =
    counted_at (zeros (l.self.rows * l.self.width)) l.places.items ≡ counted l.self.width (λ row. cell_of l.self.width row l.item) (l.self.rows * l.self.width) l.row
