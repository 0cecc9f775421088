-- The positions of records by their batches.
use Rattle.std.specs.Prelude.{◌≡◌, ℕ, zero, suc, ◌==◌, Bool, List, [], ◌∷◌, ◌++◌, if◌then◌else◌}

-- the positions of the batches that pass, in rising order, where the first of these batches has position i
abbrev pub positions_from : (ℕ → Bool) → ℕ → List ℕ → List ℕ
positions_from passes i [] = []
positions_from passes i (b ∷ batches) = (if passes b then i ∷ [] else []) ++ positions_from passes (suc i) batches

-- the positions of the records of a batch, of which the list has the batch of each
abbrev pub positions_of : List ℕ → ℕ → List ℕ
positions_of batches batch = positions_from (λ b. b == batch) 0 batches

-- the list at a place; where there is none, nothing
abbrev pub list_at : {X : Type 0} → List (List X) → ℕ → List X
list_at [] at = []
list_at (xs ∷ lists) zero = xs
list_at (xs ∷ lists) (suc at) = list_at lists at

-- the lists, where that at a place has an item more
abbrev pub with_item : {X : Type 0} → ℕ → X → List (List X) → List (List X)
with_item at item [] = []
with_item zero item (xs ∷ lists) = (xs ++ item ∷ []) ∷ lists
with_item (suc at) item (xs ∷ lists) = xs ∷ with_item at item lists

-- at the place of each batch stand its positions, and nothing behind the lists
abbrev pub IsIndex : List ℕ → List (List ℕ) → Type 0
IsIndex batches lists = (batch : ℕ) → list_at lists batch ≡ positions_of batches batch
