use Rattle.std.proofs.Common.{◌≡◌, ℕ, ◌+◌, ◌≤◌, ◌||◌, length}
use Rattle.std.specs.Prelude.{vec_len, vec_capacity}
use Rattle.std.specs.List.{AllByRecursion}
use Rattle.sb_text.specs.MaximalRanges.{IsRange, AreMaximal, is_covered}
use Rattle.sb_text.proofs.maximal.merged.Given as goal

abbrev pub invariant-loop-left : goal.invariant-loop-left
invariant-loop-left l = record {
  room : vec_len l.both + (length l.left + length l.right) ≤ vec_capacity l.both;
  maximal : AreMaximal l.both.items;
  left : AllByRecursion IsRange l.left;
  right : AllByRecursion IsRange l.right;
  covered : (n : ℕ) → (is_covered n l.both.items || (is_covered n l.left || is_covered n l.right)) ≡ (is_covered n l.fn.left || is_covered n l.fn.right);
}

abbrev pub decreases-loop-left : goal.decreases-loop-left
decreases-loop-left l = length l.left + length l.right
