-- Where an entry stands in a list in order, or would go.
use Rattle.std.specs.Prelude.{◌≡◌, ℕ, ◌<◌, ◌≤◌, List, length, take, drop, slice_get, Some, Result, MatchResult}
use Rattle.std.specs.List.{AllByRecursion}
use Rattle.std.specs.declared.cmp.Ordering.{Ordering}
use Rattle.std.specs.declared.cmp.Ordering.TheVariants.{Less, Equal, Greater}

-- the entry at the place ties with x
abbrev pub IsHere : {X : Type 0} → (X → X → Ordering) → X → List X → ℕ → Type 0
IsHere {X} R x xs at = (at < length xs) × ((y : X) → slice_get xs at ≡ Some y → R x y ≡ Equal)

-- x is after all before the place, and before all from it on
abbrev pub IsGap : {X : Type 0} → (X → X → Ordering) → X → List X → ℕ → Type 0
IsGap R x xs at = (at ≤ length xs) × (AllByRecursion (λ y. R x y ≡ Greater) (take at xs) × AllByRecursion (λ y. R x y ≡ Less) (drop at xs))

abbrev pub IsPlace : {X : Type 0} → (X → X → Ordering) → X → List X → Result ℕ ℕ → Type 0
IsPlace R x xs place = MatchResult place (IsHere R x xs) (IsGap R x xs)
