use Rattle.sb_syntax.proofs.rules.Rules.+unary.Given as goal

abbrev pub decreases-unary : goal.decreases-unary
decreases-unary g l = l.turns
