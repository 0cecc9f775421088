use Rattle.std.proofs.Common.{◌≡◌, ◌++◌, drop}
use Rattle.sb_check.proofs.Rows.{seen, written}
use Rattle.sb_check.proofs.statements.row_of.Given as goal

abbrev pub invariant-loop-tree : goal.invariant-loop-tree
invariant-loop-tree l = seen l.fields.items ++ written (drop l.tree-index l.trees) ≡ written l.trees
