use Rattle.std.proofs.Common.{◌≡◌, ◌++◌, drop, take, length}
use Rattle.sb_text.specs.Ranges.{ranges_joined}
use Rattle.sb_text.proofs.RangeReads.{following}
use Rattle.sb_text.proofs.range_texts.push_ranges.Given as goal

abbrev pub invariant-loop-range : goal.invariant-loop-range
invariant-loop-range l = record {
  written : l.out.items ++ following (drop l.range-index l.rest) ≡ l.fn.out.items ++ ranges_joined l.ranges;
  front : take (length l.fn.out.items) l.out.items ≡ l.fn.out.items;
}
