use Rattle.std.proofs.Common.{◌≡◌, MatchOption, drop}
use Rattle.sb_io.specs.Shelf.{Missing, Holds}
use Rattle.sb_io.specs.Memory.{file_in}
use Rattle.sb_io.proofs.memory.find.Given as goal

abbrev pub invariant-loop-file : goal.invariant-loop-file
invariant-loop-file l = MatchOption l.found
    (file_in Missing (drop l.file-index l.files) l.name ≡ file_in Missing l.files l.name)
    (λ bytes. file_in (Holds bytes.now.items) (drop l.file-index l.files) l.name ≡ file_in Missing l.files l.name)
