use Rattle.std.proofs.Common.{◌≡◌, ◌++◌, drop}
use Rattle.sb_kind.proofs.copying.copy_items.Given as goal

abbrev pub invariant-loop-item : goal.invariant-loop-item
invariant-loop-item l = l.copied.items ++ drop l.item-index l.item-items ≡ l.items
