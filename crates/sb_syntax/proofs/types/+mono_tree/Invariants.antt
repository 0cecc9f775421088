use Rattle.sb_syntax.proofs.types.+mono_tree.Given as goal

abbrev pub decreases-mono_tree : goal.decreases-mono_tree
decreases-mono_tree l = l.depth
