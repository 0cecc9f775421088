use Rattle.std.proofs.Common.{◌≡◌, ◌++◌, drop}
use Rattle.sb_kind.specs.declared.agg.Agg.{Map}
use Rattle.sb_kind.proofs.copying.+copy.Given as goal

abbrev pub invariant-loop-entry : goal.invariant-loop-entry
invariant-loop-entry l = Map (l.copied.items ++ drop l.entry-index l.entry-items) ≡ l.a
