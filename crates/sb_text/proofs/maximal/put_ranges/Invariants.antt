use Rattle.std.proofs.Common.{◌≡◌, ℕ, ◌+◌, ◌≤◌, ◌||◌, drop, length}
use Rattle.std.specs.Prelude.{vec_len, vec_capacity}
use Rattle.std.specs.List.{AllByRecursion}
use Rattle.sb_text.specs.MaximalRanges.{IsRange, AreMaximal, is_covered}
use Rattle.sb_text.proofs.maximal.put_ranges.Given as goal

abbrev pub invariant-loop-range : goal.invariant-loop-range
invariant-loop-range l = record {
  room : vec_len l.ranges + length (drop l.range-index l.others) ≤ vec_capacity l.ranges;
  maximal : AreMaximal l.ranges.items;
  others : AllByRecursion IsRange (drop l.range-index l.others);
  covered : (n : ℕ) → (is_covered n l.ranges.items || is_covered n (drop l.range-index l.others)) ≡ (is_covered n l.fn.ranges.items || is_covered n l.others);
}
