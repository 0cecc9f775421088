use Rattle.std.proofs.Common.{refl, arith}
use Rattle.sb_sketch.specs.Cells.{zeros}
use Rattle.sb_sketch.specs.Places.{counted_at}
use Rattle.sb_sketch.proofs.Counting.{all_zero, short_length}
use Rattle.sb_sketch.proofs.counts.are_all_zeros.Goals as goal

pub returns : goal.returns
returns c =
    let count = c.args.count in
    let places = c.args.places.now in (
      (λ _. all_zero (counted_at (zeros count) places) count (short_length count places) (λ k p. c.loop-at.invariant k (omega (arith, c.loop-at-test.false, p)))),
      (λ _. refl),
    )
