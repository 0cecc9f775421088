use Rattle.std.proofs.Common.{◌≡◌, drop, map}
use Rattle.sb_check.specs.Declarations.{service_of}
use Rattle.sb_load.specs.Inputs.{has_unknown}
use Rattle.sb_load.proofs.services.has_unknown.Given as goal

abbrev pub invariant-loop-file : goal.invariant-loop-file
invariant-loop-file l = has_unknown (map service_of l.services) (drop l.file-index l.files) ≡ has_unknown (map service_of l.services) l.files
