use Rattle.std.proofs.Common.{◌≢◌, drop}
use Rattle.std.specs.List.{AllByRecursion}
use Rattle.sb_sketch.proofs.places.find.Given as goal

abbrev pub invariant-loop-at : goal.invariant-loop-at
invariant-loop-at l = AllByRecursion (λ named. named ≢ l.place) (drop l.at l.places) → AllByRecursion (λ named. named ≢ l.place) l.places
