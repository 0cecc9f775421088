-- Lists of cells, added cell by cell.
use Rattle.std.specs.Prelude.{◌≡◌, ◌+◌, ◌%◌, ◌^◌, ℕ, List, [], ◌∷◌, length, max, slice_set, replicate}
use Rattle.std.specs.List.{AllByRecursion}

-- the cells of two lists of one length, each two joined
abbrev pub cell_by_cell : (ℕ → ℕ → ℕ) → List ℕ → List ℕ → List ℕ
cell_by_cell join [] ys = []
cell_by_cell join (x ∷ xs) [] = []
cell_by_cell join (x ∷ xs) (y ∷ ys) = join x y ∷ cell_by_cell join xs ys

-- the sum in u64
abbrev pub wrapping_sum : ℕ → ℕ → ℕ
wrapping_sum x y = (x + y) % 2 ^ 64

-- the sums of the cells
abbrev pub counts_added : List ℕ → List ℕ → List ℕ
counts_added xs ys = cell_by_cell wrapping_sum xs ys

-- the greater of each two registers
abbrev pub greatest_of_both : List ℕ → List ℕ → List ℕ
greatest_of_both xs ys = cell_by_cell max xs ys

-- this many cells, all 0
abbrev pub zeros : ℕ → List ℕ
zeros count = replicate count 0

-- this many cells, all 0 but one
abbrev pub one_cell : ℕ → ℕ → ℕ → List ℕ
one_cell count at value = slice_set (zeros count) at value

-- this many cells, each valid
pub record AreCells (n : ℕ) (V : ℕ → Type 0) (xs : List ℕ) : Type 0 where
  pub count : length xs ≡ n
  pub valid : AllByRecursion V xs
