use Rattle.std.proofs.Common.{◌≡◌, ◌++◌, drop, take, length, map}
use Rattle.std.specs.Fmt.{decimal}
use Rattle.sb_kind.specs.ElementText.{joined}
use Rattle.sb_kind.proofs.Texts.{texts_from}
use Rattle.sb_kind.proofs.writing.push_cells.Given as goal

abbrev pub invariant-loop-at : goal.invariant-loop-at
invariant-loop-at l = record {
  written : l.out.items ++ texts_from l.at (map decimal (drop l.at l.cells)) ≡ l.initial.out.items ++ joined (map decimal l.cells);
  front : take (length l.fn.out.items) l.out.items ≡ l.fn.out.items;
}
