use Rattle.sb_syntax.proofs.steps.+post_steps.Given as goal

abbrev pub decreases-post_steps : goal.decreases-post_steps
decreases-post_steps l = l.turns
