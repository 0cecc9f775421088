-- Cells counted up, place by place.
use Rattle.std.specs.Prelude.{ℕ, ◌+◌, ◌<◌, ◌^◌, List, [], ◌∷◌, length, slice_set, slice_index_or}
use Rattle.sb_sketch.specs.Cells.{wrapping_sum}

-- the cell at a place counted up by one; where no cell is, none
abbrev pub counted_up : List ℕ → ℕ → List ℕ
counted_up cells at = slice_set cells at (wrapping_sum (slice_index_or cells at 0) 1)

-- the cell at each of these places counted up, as often as the place is named
abbrev pub counted_at : List ℕ → List ℕ → List ℕ
counted_at cells [] = cells
counted_at cells (at ∷ places) = counted_at (counted_up cells at) places

-- a cell is at each of these places, and none of them wraps
abbrev pub HasRoom : List ℕ → List ℕ → Type 0
HasRoom cells [] = Unit {0}
HasRoom cells (at ∷ places) = (at < length cells) × (slice_index_or cells at 0 + 1 < 2 ^ 64) × HasRoom (counted_up cells at) places
