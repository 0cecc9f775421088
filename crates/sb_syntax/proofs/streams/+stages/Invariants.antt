use Rattle.sb_syntax.proofs.streams.+stages.Given as goal

abbrev pub decreases-stages : goal.decreases-stages
decreases-stages l = l.turns
