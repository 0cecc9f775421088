use Rattle.std.proofs.Common.{◌≡◌, drop, map}
use Rattle.sb_check.specs.Declarations.{source_of}
use Rattle.sb_check.specs.Names.{found, found_from}
use Rattle.sb_log.proofs.record.find_source.Given as goal

abbrev pub invariant-loop-at : goal.invariant-loop-at
invariant-loop-at l =
    found_from (λ s. s.name) l.at l.name (map source_of (drop l.at l.sources)) ≡ found (λ s. s.name) l.name (map source_of l.sources)
