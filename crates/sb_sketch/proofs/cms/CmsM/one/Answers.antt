use Rattle.std.proofs.Common.{sym, subst}
use Rattle.sb_sketch.specs.Cells.{AreCells}
use Rattle.sb_sketch.specs.Cms.{IsCount}
use Rattle.sb_sketch.proofs.Counting.{short_cells}
use Rattle.sb_sketch.proofs.cms.CmsM.one.Goals as goal

pub returns-clause-valid : goal.returns-clause-valid
returns-clause-valid c =
    let places = c.in_ok-places.places.items in
    subst (λ n. AreCells n IsCount c.at_places.result) c.cells.ensures.count (subst (AreCells c.cells.result IsCount) (sym c.at_places.ensures) (short_cells c.cells.result places))
