-- Tables of sums by key: lists of pairs with rising keys.
use Rattle.std.specs.Prelude.{◌≡◌, IsTrue, List, [], ◌∷◌, map, filter, Option}
use Rattle.std.specs.declared.cmp.Ordering.{Ordering}
use Rattle.std.specs.Ordering.{eq_by_cmp}
use Rattle.std.specs.FinMap.{find, is_sorted}
use Rattle.std.specs.FinMap.Entries.{by_order}
use Rattle.sb_laws.specs.Sums.{sum_of}

-- the values of a key, in their order
abbrev pub values_at : {K E : Type 0} → (K → K → Ordering) → K → List (K × E) → List E
values_at R key parts = map (λ part. part.1) (filter (λ part. eq_by_cmp R key part.0) parts)

-- the sum of a key's values
abbrev pub fold_at : {K E : Type 0} → (K → K → Ordering) → (E → E → E) → K → List (K × E) → Option E
fold_at R add key parts = sum_of add (values_at R key parts)

-- the rising table that has the fold at each key with a part, and no other key
pub record AreFolds {K E : Type 0} (R : K → K → Ordering) (add : E → E → E) (table parts : List (K × E)) : Type 0 where
  pub rising : IsTrue (is_sorted R table)
  pub each : (key : K) → find R key table ≡ fold_at R add key parts

-- the table with a value added at its key
abbrev pub add_to : {K E : Type 0} → (K → K → Ordering) → (E → E → E) → K → E → List (K × E) → List (K × E)
add_to R add key value [] = (key, value) ∷ []
add_to R add key value (row ∷ rows) = by_order (R key row.0) ((key, value) ∷ row ∷ rows) ((row.0, add row.1 value) ∷ rows) (row ∷ add_to R add key value rows)

-- the table with each part added at its key
abbrev pub add_all : {K E : Type 0} → (K → K → Ordering) → (E → E → E) → List (K × E) → List (K × E) → List (K × E)
add_all R add table [] = table
add_all R add table (part ∷ parts) = add_all R add (add_to R add part.0 part.1 table) parts
