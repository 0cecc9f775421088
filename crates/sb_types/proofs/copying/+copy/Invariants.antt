use Rattle.std.proofs.Common.{◌≡◌, ◌++◌, drop}
use Rattle.sb_types.proofs.copying.+copy.Given as goal

abbrev pub invariant-copy_all-loop-value : goal.invariant-copy_all-loop-value
invariant-copy_all-loop-value l = l.copied.items ++ drop l.value-index l.values ≡ l.values
