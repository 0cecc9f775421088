-- Monoids as definitions see them: the plain mirror of `Mono` and of `Kind`.
use Rattle.std.specs.Prelude.{◌≡◌, ℕ, ◌*◌, ◌<◌, ◌≤◌, Bool, true, false, ◌&&◌}
use Rattle.sb_gather.specs.Limits.{most_places}
use Rattle.sb_sketch.specs.Limits.{most_rows, most_cells, least_bits, most_bits}
use Rattle.sb_types.specs.declared.types.Mono.{Mono}
use Rattle.sb_types.specs.declared.types.Mono.TheOpen as text
use Rattle.sb_types.specs.declared.types.Mono.TheOpen.{Mono-F}
use Rattle.sb_types.specs.declared.types.Mono.TheFolds.{fold-Mono}

-- the text of a monoid, with its numbers
pub data Monoid : Type 0 where
  sums : Monoid
  least : Monoid
  greatest : Monoid
  firsts : Monoid
  lasts : Monoid
  concats : Monoid
  sets : Monoid
  tops : ℕ → Monoid
  sketches : ℕ → ℕ → Monoid
  registers : ℕ → Monoid
  pairs : Monoid → Monoid → Monoid
  maps : Monoid → Monoid

-- one layer of a text, in which each part is seen already
abbrev pub text_layer : Mono-F Monoid → Monoid
text_layer text.Sum = sums
text_layer text.Min = least
text_layer text.Max = greatest
text_layer text.First = firsts
text_layer text.Last = lasts
text_layer text.Concat = concats
text_layer text.Set = sets
text_layer (text.Top k) = tops k
text_layer (text.Cms d w) = sketches d w
text_layer (text.Hll b) = registers b
text_layer (text.Pair m n) = pairs m n
text_layer (text.Map m) = maps m

abbrev pub monoid_in : Mono → Monoid
monoid_in = fold-Mono Monoid text_layer

-- each number is within its limit
abbrev pub IsWithin : Monoid → Type 0
IsWithin sums = Unit {0}
IsWithin least = Unit {0}
IsWithin greatest = Unit {0}
IsWithin firsts = Unit {0}
IsWithin lasts = Unit {0}
IsWithin concats = Unit {0}
IsWithin sets = Unit {0}
IsWithin (tops k) = (0 < k) × (k ≤ most_places)
IsWithin (sketches d w) = (0 < d) × (d ≤ most_rows) × (0 < w) × (d * w ≤ most_cells)
IsWithin (registers b) = (least_bits ≤ b) × (b ≤ most_bits)
IsWithin (pairs m n) = IsWithin m × IsWithin n
IsWithin (maps m) = IsWithin m

-- whether the order of what is added doesn't matter
abbrev pub commutes : Monoid → Bool
commutes sums = true
commutes least = true
commutes greatest = true
commutes firsts = false
commutes lasts = false
commutes concats = false
commutes sets = true
commutes (tops k) = true
commutes (sketches d w) = true
commutes (registers b) = true
commutes (pairs m n) = commutes m && commutes n
commutes (maps m) = commutes m

-- the parts of a pair
abbrev pub first_part : Monoid → Monoid
first_part (pairs m n) = m
first_part other = other

abbrev pub second_part : Monoid → Monoid
second_part (pairs m n) = n
second_part other = other

abbrev pub IsPair : Monoid → Type 0
IsPair m = m ≡ pairs (first_part m) (second_part m)
