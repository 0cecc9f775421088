use Rattle.std.proofs.Common.{subst}
use Rattle.sb_log.specs.Reading.{GivesLog}
use Rattle.sb_run.specs.Batching.{AreSummed}
use Rattle.sb_run.proofs.PieceSums.{behind_given}
use Rattle.sb_run.proofs.summing.add_behind.Goals as goal

pub returns-in-Ok : goal.returns-in-Ok
returns-in-Ok c = λ p services a b of_first of_second.
    behind_given p services c.args.runner.now a b c.in_ok-sums.sums c.in_ok-more.more c.add_sums.new.self
    (subst (GivesLog (AreSummed p services c.args.runner.now) a) c.in_ok-sums.was of_first)
    (subst (GivesLog (AreSummed p services c.args.runner.now) b) c.in_ok-more.was of_second)
    c.in-Ok.ensures.valid c.in-Ok.ensures.behind
