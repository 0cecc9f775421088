-- Lists of scored items by falling score, then rising item; doubles stay.
use Rattle.std.specs.Prelude.{◌≢◌, ◌≤◌, ℕ, ℤ, List, [], ◌∷◌, length, take}
use Rattle.std.specs.List.{AllByRecursion}
use Rattle.std.specs.declared.cmp.Ordering.{Ordering}
use Rattle.std.specs.declared.cmp.Ordering.TheVariants.{Less}
use Rattle.std.specs.Ordering.{int_cmp, on, flip_args, then_cmp}
use Rattle.std.specs.FinMap.Entries.{by_order}

-- the higher score first, and at the same score the lesser item
abbrev pub by_rank : {K : Type 0} → (K → K → Ordering) → ℤ × K → ℤ × K → Ordering
by_rank R = then_cmp (flip_args (on (λ x. x.0) int_cmp)) (on (λ x. x.1) R)

-- no entry is after a later one
abbrev pub IsRanked : {X : Type 0} → (X → X → Ordering) → List X → Type 0
IsRanked R [] = Unit {0}
IsRanked R (x ∷ xs) = AllByRecursion (λ y. R y x ≢ Less) xs × IsRanked R xs

-- the list with an entry in its place
abbrev pub placed : {X : Type 0} → (X → X → Ordering) → X → List X → List X
placed R x [] = x ∷ []
placed R x (y ∷ ys) = by_order (R x y) (x ∷ y ∷ ys) (y ∷ placed R x ys) (y ∷ placed R x ys)

-- both lists together
abbrev pub together : {X : Type 0} → (X → X → Ordering) → List X → List X → List X
together R xs [] = xs
together R xs (y ∷ ys) = together R (placed R y xs) ys

-- ranked, and at most k
pub record IsTop {X : Type 0} (R : X → X → Ordering) (k : ℕ) (xs : List X) : Type 0 where
  pub ranked : IsRanked R xs
  pub few : length xs ≤ k

-- the first k of both lists together
abbrev pub first_of_both : {X : Type 0} → (X → X → Ordering) → ℕ → List X → List X → List X
first_of_both R k xs ys = take k (together R xs ys)
