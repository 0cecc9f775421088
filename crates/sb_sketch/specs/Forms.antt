-- The cells and the registers that a form stands for.
use Rattle.std.specs.Prelude.{ℕ, List}
use Rattle.sb_sketch.specs.Cells.{zeros, one_cell}
use Rattle.sb_sketch.specs.Places.{counted_at}
use Rattle.sb_sketch.specs.declared.counts.Form.{Form as CellForm}
use Rattle.sb_sketch.specs.declared.counts.Form.TheVariants.{Full as FullCells, Few}
use Rattle.sb_sketch.specs.declared.registers.Form.{Form as RegisterForm}
use Rattle.sb_sketch.specs.declared.registers.Form.TheVariants.{Full as FullRegisters, One}

-- all cells as they are, or zeros counted up at places
abbrev pub cells_of : CellForm → List ℕ
cells_of (FullCells cells) = cells.items
cells_of (Few count places) = counted_at (zeros count) places.items

-- all registers as they are, or zeros but for one
abbrev pub registers_of : RegisterForm → List ℕ
registers_of (FullRegisters registers) = registers.items
registers_of (One count at register) = one_cell count at register
