use Rattle.sb_syntax.proofs.rules.Rules.+disj_rests.Given as goal

abbrev pub decreases-disj_rests : goal.decreases-disj_rests
decreases-disj_rests g l = l.turns
