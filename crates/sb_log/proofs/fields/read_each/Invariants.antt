use Rattle.std.proofs.Common.{◌≡◌, ◌+◌, drop, map}
use Rattle.sb_check.specs.Log.{fields_from}
use Rattle.sb_types.specs.TyView.{view_fields}
use Rattle.sb_types.specs.ValView.{value_of}
use Rattle.sb_log.specs.Reading.{behind}
use Rattle.sb_log.proofs.fields.read_each.Given as goal

abbrev pub invariant-loop-at : goal.invariant-loop-at
invariant-loop-at l =
    behind (map value_of l.values.items) (fields_from (l.at + 1) (view_fields (drop l.at l.fields)) l.columns)
    ≡ fields_from 1 (view_fields l.fields) l.fn.columns
