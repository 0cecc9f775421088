use Rattle.std.proofs.Common.{◌≡◌, ◌+◌, drop}
use Rattle.sb_check.specs.Declarations.{declarations_of, nothing}
use Rattle.sb_check.specs.Programs.{statements_check}
use Rattle.sb_check.proofs.checked.statements.Given as goal

abbrev pub invariant-loop-tree : goal.invariant-loop-tree
invariant-loop-tree l =
    statements_check (l.number + 1) (drop l.tree-index l.trees) (declarations_of l.declared) ≡ statements_check 2 l.trees nothing
