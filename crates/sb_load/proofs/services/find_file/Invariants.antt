use Rattle.std.proofs.Common.{◌≡◌, drop}
use Rattle.sb_load.specs.Commands.{file_named}
use Rattle.sb_load.proofs.services.find_file.Given as goal

abbrev pub invariant-loop-file : goal.invariant-loop-file
invariant-loop-file l = file_named l.name (drop l.file-index l.files) ≡ file_named l.name l.files
