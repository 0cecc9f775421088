use Rattle.sb_run.proofs.answering.answer.Given as goal

abbrev pub ghost-read : goal.ghost-read
ghost-read g a = g.run

abbrev pub ghost-asof : goal.ghost-asof
ghost-asof g a = g.run

abbrev pub ghost-work : goal.ghost-work
ghost-work g a = g.run

abbrev pub ghost-publish : goal.ghost-publish
ghost-publish g a = g.run
