use Rattle.std.proofs.Common.{◌≡◌, ◌++◌, drop, take, length, map}
use Rattle.sb_kind.specs.ElementText.{joined, val_text}
use Rattle.sb_kind.proofs.Texts.{texts_from}
use Rattle.sb_kind.proofs.writing.push_values.Given as goal

abbrev pub invariant-loop-at : goal.invariant-loop-at
invariant-loop-at l = record {
  written : l.out.items ++ texts_from l.at (map val_text (drop l.at l.values)) ≡ l.initial.out.items ++ joined (map val_text l.values);
  front : take (length l.fn.out.items) l.out.items ≡ l.fn.out.items;
}
