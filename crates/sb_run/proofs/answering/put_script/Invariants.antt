use Rattle.sb_run.proofs.answering.put_script.Given as goal

abbrev pub ghost-put_answers : goal.ghost-put_answers
ghost-put_answers g a = g.run
