-- Lists of entries in strictly rising order, and what adding does to them.
use Rattle.std.specs.Prelude.{◌≡◌, List, [], ◌∷◌}
use Rattle.std.specs.List.{AllByRecursion}
use Rattle.std.specs.declared.cmp.Ordering.{Ordering}
use Rattle.std.specs.declared.cmp.Ordering.TheVariants.{Less}
use Rattle.std.specs.FinMap.Entries.{by_order}

-- each entry is before all later ones, so that no two tie
abbrev pub IsRising : {X : Type 0} → (X → X → Ordering) → List X → Type 0
IsRising R [] = Unit {0}
IsRising R (x ∷ xs) = AllByRecursion (λ y. R x y ≡ Less) xs × IsRising R xs

-- the list with an entry more: joined to the one that it ties with, or in its place
abbrev pub entry_added : {X : Type 0} → (X → X → Ordering) → (X → X → X) → X → List X → List X
entry_added R join x [] = x ∷ []
entry_added R join x (y ∷ ys) = by_order (R x y) (x ∷ y ∷ ys) (join y x ∷ ys) (y ∷ entry_added R join x ys)

-- the list with each entry of another added
abbrev pub entries_added : {X : Type 0} → (X → X → Ordering) → (X → X → X) → List X → List X → List X
entries_added R join xs [] = xs
entries_added R join xs (y ∷ ys) = entries_added R join (entry_added R join y xs) ys

-- rising, and each entry valid
pub record AreEntries {X : Type 0} (R : X → X → Ordering) (V : X → Type 0) (xs : List X) : Type 0 where
  pub rising : IsRising R xs
  pub valid : AllByRecursion V xs
