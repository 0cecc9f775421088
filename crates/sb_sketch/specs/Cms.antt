-- Count-min sketches (Cormode and Muthukrishnan 2005): rows of cells.
use Rattle.std.specs.Prelude.{ℕ, ◌*◌, ◌%◌, ◌^◌, ◌<◌, List, ◌∷◌}
use Rattle.std.specs.List.{flat_map, range_with_len}
use Rattle.sb_sketch.specs.Cells.{one_cell, AreCells}
use Rattle.sb_sketch.specs.Hash.{first_word}

-- how many rows, and how many cells each has
pub record Shape : Type 0 where
  pub rows : ℕ
  pub width : ℕ

-- a cell holds a u64
abbrev pub IsCount : ℕ → Type 0
IsCount n = n < 2 ^ 64

-- as many cells as the shape has
abbrev pub AreCounts : Shape → List ℕ → Type 0
AreCounts shape cells = AreCells (shape.rows * shape.width) IsCount cells

-- the cell of an item in a row of this width
abbrev pub cell_of : ℕ → ℕ → List ℕ → ℕ
cell_of width row item = first_word (row ∷ item) % width

-- row after row, the item's cell 1 and the others 0
abbrev pub counts_of : Shape → List ℕ → List ℕ
counts_of shape item = flat_map (λ row. one_cell shape.width (cell_of shape.width row item) 1) (range_with_len 0 shape.rows)
