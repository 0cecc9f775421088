-- A file that is added is the last of its name.
use Rattle.std.proofs.Common.{◌≡◌, ℕ, List, [], ◌∷◌, ◌++◌, refl}
use Rattle.std.specs.Prelude.{if◌then◌else◌}
use Rattle.std.specs.Str.{bytes_eq}
use Rattle.sb_io.specs.Shelf.{Content, Holds}
use Rattle.sb_io.specs.Memory.{file_in}
use Rattle.sb_io.specs.declared.memory.MemFile.{MemFile}

pub file_in-push : (found : Content) (files : List MemFile) (file : MemFile) (any : List ℕ)
    → file_in found (files ++ file ∷ []) any ≡ (if bytes_eq file.name.items any then Holds file.bytes.items else file_in found files any)
file_in-push found [] file any = refl
file_in-push found (first ∷ files) file any = file_in-push (if bytes_eq first.name.items any then Holds first.bytes.items else found) files file any
