use Rattle.std.proofs.Common.{◌≡◌, ◌-◌, length}
use Rattle.sb_types.specs.TyView.{type_of}
use Rattle.sb_kind.specs.KindView.{monoid_of}
use Rattle.sb_kind.specs.Read.{val_front, entry_front, element_front, items_from, items_front}
use Rattle.sb_kind.proofs.ReadLists.{onto}
use Rattle.sb_kind.proofs.reading.+read.Given as goal

abbrev pub invariant-read_entries-loop-at : goal.invariant-read_entries-loop-at
invariant-read_entries-loop-at l =
    onto l.entries.items (items_from (entry_front (val_front (type_of l.key)) (element_front (monoid_of l.part) (type_of l.value))) (length l.fn.bytes - l.at) l.at l.rest) ≡ items_front (entry_front (val_front (type_of l.key)) (element_front (monoid_of l.part) (type_of l.value))) l.fn.bytes
