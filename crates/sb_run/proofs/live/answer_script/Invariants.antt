use Rattle.sb_run.proofs.live.answer_script.Given as goal

abbrev pub ghost-answer_all : goal.ghost-answer_all
ghost-answer_all g a = g.run
