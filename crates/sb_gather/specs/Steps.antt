-- How the steps of an addition are taken back.
use Rattle.std.specs.Prelude.{◌≡◌, ◌<◌, ◌++◌, ℕ, List, [], ◌∷◌, length, remove, slice_get, slice_set, Option, Some, None, option_to_list}

-- A step among sets and maps is the place where it was done, with none for an entry that came in there, and else what takes the join back.
-- It takes the later list back to the earlier one; T says this of two entries.
abbrev pub StepBack : {X U : Type 0} → (U → X → X → Type 0) → ℕ × Option U → List X → List X → Type 0
StepBack T (at, None) later earlier = (at < length later) × (remove later at ≡ earlier)
StepBack {X} T (at, Some u) later earlier = (x : X) × (y : X) × (slice_get later at ≡ Some y) × T u y x × (slice_set later at x ≡ earlier)

-- the step of a top took an entry in at the place, and the last fell out if there were k
abbrev pub TopStepBack : {X : Type 0} → ℕ × Option X → List X → List X → Type 0
TopStepBack (at, out) later earlier = (at < length later) × (remove later at ++ option_to_list out ≡ earlier)

-- the steps, in the order in which they were done, take the later list back to the earlier one; B says this of one step
abbrev pub StepsBack : {S X : Type 0} → (S → List X → List X → Type 0) → List S → List X → List X → Type 0
StepsBack B [] later earlier = later ≡ earlier
StepsBack {S} {X} B (step ∷ steps) later earlier = (between : List X) × StepsBack B steps later between × B step between earlier
