-- The counts of faults of the operating system's files.
use Rattle.std.specs.Prelude.{ℕ, List}
use Rattle.sb_io.specs.Memory.{times}
use Rattle.sb_io.specs.declared.system.FsShelf.{FsShelf}

abbrev pub failed_fetches : {A B C : Type 0} → FsShelf A B C → List ℕ → ℕ
failed_fetches shelf = times shelf.failed.items
