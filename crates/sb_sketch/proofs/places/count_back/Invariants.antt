use Rattle.std.proofs.Common.{◌≡◌, ℕ, List}
use Rattle.std.specs.Vec.{vec_len}
use Rattle.sb_sketch.specs.Places.{counted_at, HasRoom}
use Rattle.sb_sketch.proofs.places.count_back.Given as goal

abbrev pub invariant-loop-place : goal.invariant-loop-place
invariant-loop-place l =
    (earlier : List ℕ) → l.fn.cells.items ≡ counted_at earlier l.fn.places.items → HasRoom earlier l.fn.places.items
    → (l.cells.items ≡ counted_at earlier l.places.items) × HasRoom earlier l.places.items

abbrev pub decreases-loop-place : goal.decreases-loop-place
decreases-loop-place l = vec_len l.places
