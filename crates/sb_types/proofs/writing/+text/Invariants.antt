use Rattle.std.proofs.Common.{◌≡◌, ◌++◌, drop, take, length}
use Rattle.sb_types.specs.Text.{parts_text}
use Rattle.sb_types.specs.ValView.{view_values}
use Rattle.sb_types.proofs.Lists.{text_from}
use Rattle.sb_types.proofs.writing.+text.Given as goal

abbrev pub invariant-push_parts-loop-at : goal.invariant-push_parts-loop-at
invariant-push_parts-loop-at l = record {
  written : l.out.items ++ text_from l.at (view_values (drop l.at l.parts)) ≡ l.fn.out.items ++ parts_text (view_values l.parts);
  front : take (length l.fn.out.items) l.out.items ≡ l.fn.out.items;
}
