use Rattle.std.proofs.Common.{◌≡◌, drop}
use Rattle.std.specs.Prelude.{bytes_eq}
use Rattle.std.specs.List.{list_any}
use Rattle.sb_check.specs.Programs.{field_names}
use Rattle.sb_check.proofs.names.is_field.Given as goal

abbrev pub invariant-loop-field : goal.invariant-loop-field
invariant-loop-field l = list_any (bytes_eq l.name) (field_names (drop l.field-index l.fields)) ≡ list_any (bytes_eq l.name) (field_names l.fields)
