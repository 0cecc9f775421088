use Rattle.sb_syntax.proofs.rules.Rules.+add_rests.Given as goal

abbrev pub decreases-add_rests : goal.decreases-add_rests
decreases-add_rests g l = l.turns
