-- The ranges that a set of numbers is kept as.
use Rattle.std.specs.Prelude.{ℕ, ◌+◌, ◌-◌, ◌^◌, ◌<◌, ◌≤◌, ◌&&◌, ◌||◌, nat_le, Bool, false, List, [], ◌∷◌, ◌++◌, length, slice_index_or}
use Rattle.std.specs.List.{range_with_len}
use Rattle.sb_text.specs.Ranges.{Range}

-- a range of numbers that a set may have
abbrev pub IsRange : Range → Type 0
IsRange range = (range.0 ≤ range.1) × (range.1 < 2 ^ 32)

-- rising ranges, of which the first begins at `least` or above, and each further one leaves a number out
abbrev pub AreApart : ℕ → List Range → Type 0
AreApart least [] = Unit {0}
AreApart least (range ∷ ranges) = (least ≤ range.0) × IsRange range × AreApart (range.1 + 2) ranges

-- the maximal ranges of a set
abbrev pub AreMaximal : List Range → Type 0
AreMaximal = AreApart 0

-- the numbers of a range
abbrev pub numbers_in : Range → List ℕ
numbers_in range = range_with_len range.0 (range.1 + 1 - range.0)

-- the numbers of ranges, one range after the other
abbrev pub numbers_of : List Range → List ℕ
numbers_of [] = []
numbers_of (range ∷ ranges) = numbers_in range ++ numbers_of ranges

-- whether a number is in a range
abbrev pub is_within : ℕ → Range → Bool
is_within n range = nat_le range.0 n && nat_le n range.1

-- whether a number is in one of the ranges
abbrev pub is_covered : ℕ → List Range → Bool
is_covered n [] = false
is_covered n (range ∷ ranges) = is_within n range || is_covered n ranges

-- the first and the last number of the range at a place
abbrev pub first_at : List Range → ℕ → ℕ
first_at ranges place = (slice_index_or ranges place (0, 0)).0

abbrev pub last_at : List Range → ℕ → ℕ
last_at ranges place = (slice_index_or ranges place (0, 0)).1

-- Where a range goes among rising ones: it touches or overlaps those from one place on and before another.
pub record IsPlace (ranges : List Range) (range : Range) (from to : ℕ) : Type 0 where
  pub order : from ≤ to
  pub bound : to ≤ length ranges
  pub before : (k : ℕ) → k < from → last_at ranges k + 1 < range.0
  pub ends : (k : ℕ) → from ≤ k → k < length ranges → range.0 ≤ last_at ranges k + 1
  pub begins : (k : ℕ) → from ≤ k → k < to → first_at ranges k ≤ range.1 + 1
  pub after : (k : ℕ) → to ≤ k → k < length ranges → range.1 + 1 < first_at ranges k
