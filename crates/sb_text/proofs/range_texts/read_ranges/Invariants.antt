use Rattle.std.proofs.Common.{◌≡◌, ◌≤◌, ◌^◌, ◌+◌, ◌++◌}
use Rattle.std.specs.Option.{option_map}
use Rattle.sb_text.specs.Columns.{pieces}
use Rattle.sb_text.specs.RangesRead.{ranges_from, pieces_left}
use Rattle.sb_text.proofs.RangeReads.{room_left}
use Rattle.sb_text.proofs.range_texts.read_ranges.Given as goal

abbrev pub invariant-loop-left : goal.invariant-loop-left
invariant-loop-left l = record {
  read : option_map (λ rest. l.ranges.items ++ rest) (ranges_from l.least (pieces_left l.left)) ≡ ranges_from 0 (pieces 44 l.bytes);
  small : l.least ≤ 2 ^ 32 + 1;
}

abbrev pub decreases-loop-left : goal.decreases-loop-left
decreases-loop-left l = room_left l.left
