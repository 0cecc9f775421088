use Rattle.std.proofs.Common.{refl, arith}
use Rattle.sb_text.proofs.RangeNumbers.{all_ranges}
use Rattle.sb_text.proofs.maximal.merged.Goals as goal

pub loop-left-init : goal.loop-left-init
loop-left-init c = record {
  room = omega (arith, c.in_ok-both.ensures.len, c.in_ok-both.ensures.capacity);
  maximal = rw c.in_ok-both.ensures.items tt;
  left = all_ranges 0 c.args.left.now c.requires.left;
  right = all_ranges 0 c.args.right.now c.requires.right;
  covered = λ n. rw c.in_ok-both.ensures.items refl;
}
