-- The columns of a line: what stands between its tabs, or between other separators.
use Rattle.std.specs.Prelude.{ℕ, ◌==◌, ◌≢◌, List, [], ◌∷◌, Option, Some, None, if◌then◌else◌}
use Rattle.std.specs.Borrow.{Bor}
use Rattle.std.specs.List.{AllByRecursion}

-- no separator stands in it
abbrev pub Lacks : ℕ → List ℕ → Type 0
Lacks separator = AllByRecursion (λ byte. byte ≢ separator)

-- a byte in front of the first piece
abbrev pub onto_piece : ℕ → List (List ℕ) → List (List ℕ)
onto_piece byte [] = (byte ∷ []) ∷ []
onto_piece byte (piece ∷ pieces) = (byte ∷ piece) ∷ pieces

-- the pieces between the separators, one more than there are of these
abbrev pub pieces : ℕ → List ℕ → List (List ℕ)
pieces separator [] = [] ∷ []
pieces separator (byte ∷ bytes) = if byte == separator then [] ∷ pieces separator bytes else onto_piece byte (pieces separator bytes)

-- the columns of a line
abbrev pub columns_of : List ℕ → List (List ℕ)
columns_of = pieces 9

-- the columns that are left: those of what follows the last separator, and none after the last column
abbrev pub columns_left : ℕ → Option (Bor (List ℕ)) → List (List ℕ)
columns_left separator None = []
columns_left separator (Some rest) = pieces separator rest.now
