use Rattle.std.proofs.Common.{◌≡◌, drop, map, is_some}
use Rattle.sb_check.specs.Declarations.{service_of}
use Rattle.sb_check.specs.Names.{found, found_from}
use Rattle.sb_load.proofs.services.is_declared.Given as goal

abbrev pub invariant-loop-service : goal.invariant-loop-service
invariant-loop-service l =
    is_some (found_from (λ s. s.name) l.service-index l.name (map service_of (drop l.service-index l.services))) ≡ is_some (found (λ s. s.name) l.name (map service_of l.services))
