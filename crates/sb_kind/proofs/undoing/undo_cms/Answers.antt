use Rattle.std.proofs.Common.{◌≡◌, ap, sym, subst, ◌∙◌}
use Rattle.sb_sketch.specs.Undone.{CellsBack}
use Rattle.sb_kind.specs.Elements.{cells_in}
use Rattle.sb_kind.specs.Undoing.{cells_undone}
use Rattle.sb_kind.specs.declared.agg.Agg.{Cms}
use Rattle.sb_kind.proofs.undoing.undo_cms.Goals as goal

pub returns : goal.returns
returns c earlier h =
    let cells : c.into_cells-cells.result ≡ cells_in c.args.a.now = c.into_cells-cells.ensures ∙ ap cells_in c.take.ensures in
    let of_cells = subst (λ l. CellsBack (cells_undone c.args.undone) l (cells_in earlier)) (sym cells) h.1 in
    let back = subst (λ u. CellsBack u c.into_cells-cells.result (cells_in earlier)) (sym c.into_cells_undone.ensures) of_cells in
    c.put.ensures ∙ (ap Cms (c.undo.ensures (cells_in earlier) back) ∙ sym h.0)
