use Rattle.sb_syntax.proofs.streams.+store_stages.Given as goal

abbrev pub decreases-store_stages : goal.decreases-store_stages
decreases-store_stages l = l.turns
