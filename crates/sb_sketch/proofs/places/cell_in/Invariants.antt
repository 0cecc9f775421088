use Rattle.std.proofs.Common.{◌≡◌, drop}
use Rattle.sb_sketch.proofs.Counting.{cell_after}
use Rattle.sb_sketch.proofs.places.cell_in.Given as goal

abbrev pub invariant-loop-place : goal.invariant-loop-place
invariant-loop-place l = cell_after l.cell l.at (drop l.place-index l.places) ≡ cell_after 0 l.at l.places
