use Rattle.std.proofs.Common.{◌≡◌, drop, map}
use Rattle.sb_check.specs.Declarations.{service_of}
use Rattle.sb_check.specs.Names.{found, found_from}
use Rattle.sb_check.proofs.names.find_service.Given as goal

abbrev pub invariant-loop-at : goal.invariant-loop-at
invariant-loop-at l =
    found_from (λ s. s.name) l.at l.name (map service_of (drop l.at l.services)) ≡ found (λ s. s.name) l.name (map service_of l.services)
