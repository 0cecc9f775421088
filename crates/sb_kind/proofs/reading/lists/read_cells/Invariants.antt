use Rattle.std.proofs.Common.{◌≡◌, ◌-◌, length}
use Rattle.sb_kind.specs.Read.{cell_front, items_from, items_front}
use Rattle.sb_kind.proofs.ReadLists.{onto}
use Rattle.sb_kind.proofs.reading.lists.read_cells.Given as goal

abbrev pub invariant-loop-at : goal.invariant-loop-at
invariant-loop-at l =
    onto l.cells.items (items_from (cell_front) (length l.fn.bytes - l.at) l.at l.rest) ≡ items_front (cell_front) l.fn.bytes
