use Rattle.sb_syntax.proofs.parsing.+statements.Given as goal

abbrev pub decreases-statements : goal.decreases-statements
decreases-statements l = l.turns
