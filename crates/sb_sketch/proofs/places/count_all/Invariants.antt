use Rattle.std.proofs.Common.{◌≡◌, drop}
use Rattle.sb_sketch.specs.Places.{counted_at}
use Rattle.sb_sketch.proofs.places.count_all.Given as goal

abbrev pub invariant-loop-place : goal.invariant-loop-place
invariant-loop-place l = counted_at l.cells.items (drop l.place-index l.places) ≡ counted_at l.fn.cells.items l.places
