-- A ring of entries that is merged in place: those at its front are left to pass, those behind have passed.
use Rattle.std.specs.Prelude.{◌≡◌, ◌≢◌, ℕ, Bool, true, false, List, [], ◌∷◌, ◌++◌, take, drop}
use Rattle.std.specs.List.{AllByRecursion}
use Rattle.std.specs.declared.cmp.Ordering.{Ordering}
use Rattle.std.specs.declared.cmp.Ordering.TheVariants.{Less, Equal, Greater}

-- the list that the ring stands for: what has passed, then what is left
abbrev pub turned : {X : Type 0} → ℕ → List X → List X
turned left ring = drop left ring ++ take left ring

-- x is after all of these
abbrev pub IsAfter : {X : Type 0} → (X → X → Ordering) → X → List X → Type 0
IsAfter R x ys = AllByRecursion (λ y. R x y ≡ Greater) ys

-- the test says whether the first of these ties with x; if it doesn't, x is before it
abbrev pub IsNext : {X : Type 0} → (X → X → Ordering) → X → Bool → List X → Type 0
IsNext R x true [] = ⊥
IsNext R x true (y ∷ ys) = R x y ≡ Equal
IsNext R x false [] = Unit {0}
IsNext R x false (y ∷ ys) = R x y ≡ Less

-- x isn't before any of these
abbrev pub IsNotBefore : {X : Type 0} → (X → X → Ordering) → X → List X → Type 0
IsNotBefore R x ys = AllByRecursion (λ y. R x y ≢ Less) ys
