use Rattle.std.proofs.Common.{◌≡◌, ◌+◌, drop, length}
use Rattle.std.specs.List.{AllByRecursion}
use Rattle.sb_text.specs.MaximalRanges.{IsRange, numbers_of}
use Rattle.sb_text.proofs.maximal.count_numbers.Given as goal

abbrev pub invariant-loop-range : goal.invariant-loop-range
invariant-loop-range l = record {
  counted : l.count + length (numbers_of (drop l.range-index l.ranges)) ≡ length (numbers_of l.ranges);
  all : AllByRecursion IsRange (drop l.range-index l.ranges);
}
