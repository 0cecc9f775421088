use Rattle.std.proofs.Common.{◌≡◌, ◌++◌, drop}
use Rattle.sb_meaning.proofs.parts.copy_fields.Given as goal

abbrev pub invariant-loop-field : goal.invariant-loop-field
invariant-loop-field l = l.values.items ++ drop l.field-index l.field-items ≡ l.fields
