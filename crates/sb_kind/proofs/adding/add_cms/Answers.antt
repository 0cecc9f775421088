use Rattle.std.proofs.Common.{◌≡◌, ap, subst, ◌∙◌}
use Rattle.sb_sketch.specs.Undone.{CellsBack}
use Rattle.sb_kind.specs.Elements.{cells_in}
use Rattle.sb_kind.proofs.Undos.{cms_back}
use Rattle.sb_kind.proofs.adding.add_cms.Goals as goal

pub returns-clause-undone : goal.returns-clause-undone
returns-clause-undone c =
    let before : c.into_cells-cells.result ≡ cells_in c.args.a.now = c.into_cells-cells.ensures ∙ ap cells_in c.take.ensures in
    let undone = c.in_ok-done.field-0 in
    let cells = c.plus_recorded-done.new.a in
    (c.requires.left.0, cms_back undone cells (cells_in c.args.a.now) c.put.new.a c.put.ensures (subst (CellsBack undone cells) before c.in_ok-done.ensures.undo))
