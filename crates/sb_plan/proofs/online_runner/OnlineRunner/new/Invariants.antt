use Rattle.sb_plan.proofs.online_runner.OnlineRunner.new.Given as goal

abbrev pub ghosts-new_from : goal.ghosts-new_from
ghosts-new_from a = record { name = a.blank.name; parts = a.blank.parts }
