use Rattle.std.proofs.Common.{◌<◌, ◌^◌, drop, length}
use Rattle.std.specs.Prelude.{slice_index_or}
use Rattle.std.specs.List.{AllByRecursion}
use Rattle.sb_sketch.proofs.places.are_low.Given as goal

abbrev pub invariant-loop-place : goal.invariant-loop-place
invariant-loop-place l =
    AllByRecursion (λ at. (at < length l.cells) × (slice_index_or l.cells at 0 < 2 ^ 62)) (drop l.place-index l.places)
    → AllByRecursion (λ at. (at < length l.cells) × (slice_index_or l.cells at 0 < 2 ^ 62)) l.places
