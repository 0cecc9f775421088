-- The limits of sketches, which clauses and definitions cite by name. The code has its own constants.
use Rattle.std.specs.Prelude.{ℕ}

-- rows of a count-min sketch, and cells in all rows together
abbrev pub most_rows : ℕ
most_rows = 16

abbrev pub most_cells : ℕ
most_cells = 4096

-- 2 to this power are the registers of a HyperLogLog
abbrev pub least_bits : ℕ
least_bits = 4

abbrev pub most_bits : ℕ
most_bits = 12
