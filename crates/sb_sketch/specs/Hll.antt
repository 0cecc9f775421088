-- HyperLogLog (Flajolet and others 2007): 2 ^ b registers.
use Rattle.std.specs.Prelude.{ℕ, ◌+◌, ◌-◌, ◌/◌, ◌%◌, ◌^◌, ◌≤◌, List}
use lib.Count.{count_leading_zeros}
use Rattle.sb_sketch.specs.Cells.{one_cell, AreCells}
use Rattle.sb_sketch.specs.Hash.{first_word}

-- a register holds 0 to 65 - b
abbrev pub IsPosition : ℕ → ℕ → Type 0
IsPosition b n = n ≤ 65 - b

-- 2 ^ b registers
abbrev pub AreRegisters : ℕ → List ℕ → Type 0
AreRegisters b registers = AreCells (2 ^ b) (IsPosition b) registers

-- the number of the item's register: the top b bits
abbrev pub register_of : ℕ → List ℕ → ℕ
register_of b item = first_word item / 2 ^ (64 - b)

-- its position: the place, from 1, of the first one bit among the other 64 - b bits from the top, and 65 - b where all are zero
abbrev pub position_of : ℕ → List ℕ → ℕ
position_of b item = count_leading_zeros (64 - b) (first_word item % 2 ^ (64 - b)) + 1

-- the item's register has its position, and the others 0
abbrev pub registers_of : ℕ → List ℕ → List ℕ
registers_of b item = one_cell (2 ^ b) (register_of b item) (position_of b item)
