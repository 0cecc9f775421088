use Rattle.std.proofs.Common.{◌≡◌, drop, map}
use Rattle.sb_check.specs.Declarations.{store_of}
use Rattle.sb_check.specs.Names.{found, found_from}
use Rattle.sb_report.proofs.script.find_store.Given as goal

abbrev pub invariant-loop-at : goal.invariant-loop-at
invariant-loop-at l =
    found_from (λ s. s.name) l.at l.name (map store_of (drop l.at l.stores)) ≡ found (λ s. s.name) l.name (map store_of l.stores)
