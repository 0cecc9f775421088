use Rattle.std.proofs.Common.{◌≡◌, ◌++◌, drop, take, length, map}
use Rattle.std.specs.Prelude.{codes}
use Rattle.sb_kind.specs.ElementText.{entry_line, element_text}
use Rattle.sb_kind.proofs.Texts.{texts_from}
use Rattle.sb_kind.proofs.writing.+push_element.Given as goal

abbrev pub invariant-loop-at : goal.invariant-loop-at
invariant-loop-at l = record {
  written : l.out.items ++ texts_from l.at (map entry_line (drop l.at l.entry-items)) ++ codes "}" ≡ l.fn.out.items ++ element_text l.a;
  front : take (length l.fn.out.items) l.out.items ≡ l.fn.out.items;
}
