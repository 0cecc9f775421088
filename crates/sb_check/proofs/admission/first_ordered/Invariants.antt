use Rattle.std.proofs.Common.{◌≡◌, drop, map}
use Rattle.sb_check.specs.Admission.{first_ordered}
use Rattle.sb_check.specs.Declarations.{store_of}
use Rattle.sb_check.proofs.admission.first_ordered.Given as goal

abbrev pub invariant-loop-at : goal.invariant-loop-at
invariant-loop-at l = first_ordered l.at (map store_of (drop l.at l.stores)) ≡ first_ordered 0 (map store_of l.stores)
