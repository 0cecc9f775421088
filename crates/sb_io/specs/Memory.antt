-- What a shelf and a sink in memory tell.
use Rattle.std.specs.Prelude.{◌≡◌, ◌==◌, ℕ, Bool, List, [], ◌∷◌, Result, Err, count_by, if◌then◌else◌}
use Rattle.std.specs.List.{list_any}
use Rattle.std.specs.declared.vec.Vec.{Vec}
use Rattle.std.specs.declared.alloc.Global.{Global}
use Rattle.std.specs.Str.{bytes_eq}
use Rattle.sb_io.specs.Shelf.{Content, Missing, Holds}
use Rattle.sb_io.specs.declared.shelf.Fetched.{Fetched}
use Rattle.sb_io.specs.declared.shelf.ShelfError.{ShelfError}
use Rattle.sb_io.specs.declared.memory.MemFile.{MemFile}
use Rattle.sb_io.specs.declared.memory.MemShelf.{MemShelf}
use Rattle.sb_io.specs.declared.memory.MemSink.{MemSink}

-- the last file of the name, or what was found before these
abbrev pub file_in : Content → List MemFile → List ℕ → Content
file_in found [] name = found
file_in found (file ∷ files) name = file_in (if bytes_eq file.name.items name then Holds file.bytes.items else found) files name

-- what the shelf tells of a name
abbrev pub shelf_content : MemShelf → List ℕ → Content
shelf_content shelf = file_in Missing shelf.files.items

-- how often a name was noted
abbrev pub times : List (Vec ℕ Global) → List ℕ → ℕ
times failed name = count_by (λ noted. bytes_eq noted.items name) failed

abbrev pub shelf_faults : MemShelf → List ℕ → ℕ
shelf_faults shelf = times shelf.failed.items

-- a shelf that differs by the content of one name
pub record Adds (name bytes : List ℕ) (before now : MemShelf) : Type 0 where
  pub content : (any : List ℕ) → shelf_content now any ≡ (if bytes_eq name any then Holds bytes else shelf_content before any)
  pub faults : (any : List ℕ) → shelf_faults now any ≡ shelf_faults before any

-- a shelf that tells the same
pub record TellsSame (before now : MemShelf) : Type 0 where
  pub content : (any : List ℕ) → shelf_content now any ≡ shelf_content before any
  pub faults : (any : List ℕ) → shelf_faults now any ≡ shelf_faults before any

-- the call of this number is to fail
abbrev pub is_due : List ℕ → ℕ → Bool
is_due failing call = list_any (λ at. at == call) failing

abbrev pub sink_bytes : MemSink → List ℕ
sink_bytes sink = sink.bytes.items

abbrev pub sink_faults : MemSink → ℕ
sink_faults sink = sink.faults

-- a fetch that answers this error
abbrev pub refused : ShelfError → Result Fetched ShelfError
refused error = Err error
