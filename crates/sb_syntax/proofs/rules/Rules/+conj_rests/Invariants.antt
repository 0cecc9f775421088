use Rattle.sb_syntax.proofs.rules.Rules.+conj_rests.Given as goal

abbrev pub decreases-conj_rests : goal.decreases-conj_rests
decreases-conj_rests g l = l.turns
