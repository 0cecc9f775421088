use Rattle.sb_run.proofs.answering.put_answer.Given as goal

abbrev pub ghost-answer : goal.ghost-answer
ghost-answer g a = g.run
