-- The values of a key by batch: of parts, and of lists of rows.
use Rattle.std.specs.Prelude.{◌≡◌, ℕ, suc, ◌<◌, ◌≤◌, Bool, ◌&&◌, nat_le, ◌==◌, List, [], ◌∷◌, map, filter, take, drop, length, get_or, Option, Some, None}
use Rattle.std.specs.List.{AllByRecursion}
use Rattle.std.specs.FinMap.{find}
use Rattle.sb_feed.specs.declared.key.KeyBytes.{KeyBytes}
use Rattle.sb_feed.specs.declared.parts.Part.{Part}
use Rattle.sb_feed.specs.Keys.{key_order, same_key}
use Rattle.sb_feed.specs.Stands.{batch_value}

-- the part is of the key and of a batch within bounds
abbrev pub is_asked : {E : Type 0} → KeyBytes → ℕ → ℕ → Part E → Bool
is_asked key from upto part = same_key key part.key && (nat_le from part.batch && nat_le part.batch upto)

-- the values of a key with their batches, of the batches within bounds
abbrev pub asked : {E : Type 0} → KeyBytes → ℕ → ℕ → List (Part E) → List (ℕ × E)
asked key from upto parts = map batch_value (filter (is_asked key from upto) parts)

-- the values of a batch, in their order
abbrev pub at_batch : {E : Type 0} → ℕ → List (ℕ × E) → List E
at_batch j pairs = map (λ pair. pair.1) (filter (λ pair. pair.0 == j) pairs)

-- the value that is there, or none
abbrev pub one_or_none : {E : Type 0} → Option E → List E
one_or_none None = []
one_or_none (Some value) = value ∷ []

-- a number with a value, if there is one, before a list
abbrev pub onto : {E : Type 0} → ℕ → Option E → List (ℕ × E) → List (ℕ × E)
onto j None pairs = pairs
onto j (Some value) pairs = (j, value) ∷ pairs

-- the rows of a key in lists of rows, which have the numbers from j on
abbrev pub rows_from : {E : Type 0} → KeyBytes → ℕ → List (List (KeyBytes × E)) → List (ℕ × E)
rows_from key j [] = []
rows_from key j (rows ∷ lists) = onto j (find key_order key rows) (rows_from key (suc j) lists)

-- the entry at the place has the number, and what stands before it has lesser ones
pub record IsHere {E : Type 0} (k : ℕ) (pairs : List (ℕ × E)) (at : ℕ) : Type 0 where
  pub within : at < length pairs
  pub before : AllByRecursion (λ pair. pair.0 < k) (take at pairs)
  pub same : (d : ℕ × E) → (get_or pairs at d).0 ≡ k

-- what stands before the place has lesser numbers, and what stands from it on has greater ones
pub record IsGap {E : Type 0} (k : ℕ) (pairs : List (ℕ × E)) (at : ℕ) : Type 0 where
  pub within : at ≤ length pairs
  pub before : AllByRecursion (λ pair. pair.0 < k) (take at pairs)
  pub after : AllByRecursion (λ pair. k < pair.0) (drop at pairs)
