use Rattle.sb_syntax.proofs.rules.Rules.+neg.Given as goal

abbrev pub decreases-neg : goal.decreases-neg
decreases-neg g l = l.turns
