-- Sets of numbers below 2^32: rising lists, their maximal ranges, and the text of these.
use Rattle.std.specs.Prelude.{ℕ, ◌+◌, ◌^◌, ◌<◌, ◌==◌, nat_lt, List, [], ◌∷◌, ◌++◌, codes, decimal, if◌then◌else◌}
use Rattle.std.specs.List.{AllByRecursion}

-- each number is below all that follow it
abbrev pub IsRising : List ℕ → Type 0
IsRising [] = Unit {0}
IsRising (n ∷ numbers) = AllByRecursion (λ m. n < m) numbers × IsRising numbers

-- the numbers of a set
pub record IsSet (numbers : List ℕ) : Type 0 where
  pub rising : IsRising numbers
  pub below : AllByRecursion (λ n. n < 2 ^ 32) numbers

-- a rising list with a number in its place, unless it is there
abbrev pub put : ℕ → List ℕ → List ℕ
put n [] = n ∷ []
put n (m ∷ numbers) = if nat_lt n m then n ∷ m ∷ numbers else (if n == m then m ∷ numbers else m ∷ put n numbers)

-- a rising list with each number of another
abbrev pub union : List ℕ → List ℕ → List ℕ
union numbers [] = numbers
union numbers (n ∷ others) = put n (union numbers others)

-- a range: its first and its last number
abbrev pub Range : Type 0
Range = ℕ × ℕ

-- a number before maximal ranges: it is the first of the first range, where it is next to it
abbrev pub onto_ranges : ℕ → List Range → List Range
onto_ranges n [] = (n, n) ∷ []
onto_ranges n (range ∷ ranges) =
    if range.0 == n + 1 then (n, range.1) ∷ ranges
    else (n, n) ∷ range ∷ ranges

-- the maximal ranges of a rising list
abbrev pub ranges_of : List ℕ → List Range
ranges_of [] = []
ranges_of (n ∷ numbers) = onto_ranges n (ranges_of numbers)

abbrev pub range_text : Range → List ℕ
range_text range = decimal range.0 ++ 45 ∷ decimal range.1

-- the texts of ranges with a comma between each two, and `none` for no range
abbrev pub ranges_joined : List Range → List ℕ
ranges_joined [] = codes "none"
ranges_joined (range ∷ []) = range_text range
ranges_joined (range ∷ next ∷ ranges) = range_text range ++ 44 ∷ ranges_joined (next ∷ ranges)

-- the text of a set
abbrev pub ranges_text : List ℕ → List ℕ
ranges_text numbers = ranges_joined (ranges_of numbers)
