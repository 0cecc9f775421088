use Rattle.std.proofs.Common.{◌≡◌, ◌++◌, drop}
use Rattle.sb_kind.proofs.copying.copy_values.Given as goal

abbrev pub invariant-loop-value : goal.invariant-loop-value
invariant-loop-value l = l.copied.items ++ drop l.value-index l.value-items ≡ l.values
