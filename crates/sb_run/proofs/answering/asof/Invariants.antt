use Rattle.sb_run.proofs.answering.asof.Given as goal

abbrev pub ghost-value_at : goal.ghost-value_at
ghost-value_at g a = g.run
