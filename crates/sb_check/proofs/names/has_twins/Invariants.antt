use Rattle.std.proofs.Common.{◌≡◌, drop}
use Rattle.sb_check.specs.Names.{has_twins}
use Rattle.sb_check.specs.Programs.{field_names}
use Rattle.sb_check.proofs.names.has_twins.Given as goal

abbrev pub invariant-loop-at : goal.invariant-loop-at
invariant-loop-at l = has_twins (field_names (drop l.at l.fields)) ≡ has_twins (field_names l.fields)
