use Rattle.std.proofs.Common.{◌≡◌, []}
use Rattle.sb_text.specs.Lines.{lines_of}
use Rattle.sb_types.specs.TyView.{type_of}
use Rattle.sb_service.specs.Adding.{lines_added}
use Rattle.sb_service.specs.Views.{placed_view}
use Rattle.sb_service.proofs.service.read_service.Given as goal

abbrev pub invariant-loop-line : goal.invariant-loop-line
invariant-loop-line l =
    lines_added (type_of l.key) (type_of l.value) (placed_view l.rows) l.line-iterator
    ≡ lines_added (type_of l.key) (type_of l.value) [] (lines_of l.bytes)
