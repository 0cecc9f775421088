use Rattle.std.proofs.Common.{◌≡◌, ◌++◌, drop}
use Rattle.sb_terms.proofs.copying.+copy.Given as goal

abbrev pub invariant-copy_fields-loop-field : goal.invariant-copy_fields-loop-field
invariant-copy_fields-loop-field l = l.copied.items ++ drop l.field-index l.fields ≡ l.fields
