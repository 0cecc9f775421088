use Rattle.std.proofs.Common.{◌≡◌, ◌++◌, drop, take, length, map}
use Rattle.sb_kind.specs.ElementText.{joined, item_text}
use Rattle.sb_kind.proofs.Texts.{texts_from}
use Rattle.sb_kind.proofs.writing.push_items.Given as goal

abbrev pub invariant-loop-at : goal.invariant-loop-at
invariant-loop-at l = record {
  written : l.out.items ++ texts_from l.at (map item_text (drop l.at l.items)) ≡ l.initial.out.items ++ joined (map item_text l.items);
  front : take (length l.fn.out.items) l.out.items ≡ l.fn.out.items;
}
