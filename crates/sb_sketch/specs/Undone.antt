-- What takes a plus of sketches back.
use Rattle.std.specs.Prelude.{◌≡◌, ◌≢◌, ℕ, ◌<◌, List, length, slice_set, slice_index_or}
use Rattle.sb_sketch.specs.Places.{counted_at, HasRoom}
use Rattle.sb_sketch.specs.declared.undone.CellsUndone.{CellsUndone}
use Rattle.sb_sketch.specs.declared.undone.CellsUndone.TheVariants.{Cells, Counted}
use Rattle.sb_sketch.specs.declared.undone.RegistersUndone.{RegistersUndone}
use Rattle.sb_sketch.specs.declared.undone.RegistersUndone.TheVariants.{Registers, Raised, Nothing}

-- it takes the later cells back to the earlier ones: these themselves, or the places that were counted up, where none wrapped
abbrev pub CellsBack : CellsUndone → List ℕ → List ℕ → Type 0
CellsBack (Cells cells) later earlier = cells ≡ earlier
CellsBack (Counted places) later earlier = (later ≡ counted_at earlier places) × HasRoom earlier places

-- it takes the later registers back to the earlier ones: these themselves, or what stood in the one that was raised
abbrev pub RegistersBack : RegistersUndone → List ℕ → List ℕ → Type 0
RegistersBack (Registers registers) later earlier = registers ≡ earlier
RegistersBack (Raised at register) later earlier = (at < length later) × (slice_index_or later at 0 ≢ 0) × (slice_set later at register ≡ earlier)
RegistersBack Nothing later earlier = later ≡ earlier
