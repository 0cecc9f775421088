use Rattle.std.proofs.Common.{◌≡◌, ◌-◌, length}
use Rattle.sb_types.specs.TyView.{type_of}
use Rattle.sb_kind.specs.Read.{val_front, items_from, items_front}
use Rattle.sb_kind.proofs.ReadLists.{onto}
use Rattle.sb_kind.proofs.reading.lists.read_values.Given as goal

abbrev pub invariant-loop-at : goal.invariant-loop-at
invariant-loop-at l =
    onto l.values.items (items_from (val_front (type_of l.of)) (length l.fn.bytes - l.at) l.at l.rest) ≡ items_front (val_front (type_of l.of)) l.fn.bytes
