use Rattle.std.proofs.Common.{◌≡◌, ℕ, List}
use Rattle.std.specs.Vec.{vec_len}
use Rattle.sb_sketch.specs.Cells.{zeros}
use Rattle.sb_sketch.specs.Places.{counted_at, HasRoom}
use Rattle.sb_sketch.proofs.places.take_all_out.Given as goal

abbrev pub invariant-loop-place : goal.invariant-loop-place
invariant-loop-place l =
    (count : ℕ) (earlier : List ℕ) → counted_at (zeros count) l.fn.places.items ≡ counted_at earlier l.fn.more.items → HasRoom earlier l.fn.more.items
    → (counted_at (zeros count) l.places.items ≡ counted_at earlier l.more.items) × HasRoom earlier l.more.items

abbrev pub decreases-loop-place : goal.decreases-loop-place
decreases-loop-place l = vec_len l.more
