-- Folds over sets of positions. A set is a test on positions.
use Rattle.std.specs.Prelude.{ℕ, Bool, true, false, List, map, filter, Option}
use Rattle.sb_laws.specs.Sums.{sum_of}

-- the values that have positions, in log order, summed over the positions that pass
abbrev pub fold_over : {E : Type 0} → (E → E → E) → List (ℕ × E) → (ℕ → Bool) → Option E
fold_over add values passes = sum_of add (map (λ value. value.1) (filter (λ value. passes value.0) values))

-- the first test is the union of two that share nothing
abbrev pub IsSplit : Bool → Bool → Bool → Type 0
IsSplit true true false = Unit {0}
IsSplit true false true = Unit {0}
IsSplit false false false = Unit {0}
IsSplit union left right = ⊥
