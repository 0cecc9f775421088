use Rattle.std.proofs.Common.{◌≡◌, ◌++◌, drop}
use Rattle.sb_laws.proofs.items.Items.copy.Given as goal

abbrev pub invariant-loop-key : goal.invariant-loop-key
invariant-loop-key g l = l.items.items ++ drop l.key-index l.key-items ≡ l.self
