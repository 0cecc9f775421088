use Rattle.sb_syntax.proofs.streams.+head.Given as goal

abbrev pub decreases-head : goal.decreases-head
decreases-head l = l.depth
