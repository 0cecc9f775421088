use Rattle.sb_syntax.proofs.rules.Rules.+prod_rests.Given as goal

abbrev pub decreases-prod_rests : goal.decreases-prod_rests
decreases-prod_rests g l = l.turns
