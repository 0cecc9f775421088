use Rattle.sb_syntax.proofs.rules.Rules.+list_end.Given as goal

abbrev pub decreases-list_end : goal.decreases-list_end
decreases-list_end g l = l.turns
