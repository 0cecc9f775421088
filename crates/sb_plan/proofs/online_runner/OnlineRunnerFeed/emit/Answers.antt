use Rattle.std.proofs.Common.{◌∙◌, ◌++◌, ap}
use Rattle.sb_plan.specs.Entries.{entry_record}
use Rattle.sb_plan.proofs.Runs.{parts_there}
use Rattle.sb_plan.proofs.online_runner.OnlineRunnerFeed.emit.Goals as goal

pub returns-in-Ok-clause-ok : goal.returns-in-Ok-clause-ok
returns-in-Ok-clause-ok c =
    c.in-Ok.ensures.ok ∙ ap (λ parts. c.args.out.now.items ++ parts) (parts_there c.args.self.now.records c.args.i (entry_record c.entry.result.now) c.requires c.entry.ensures.place)
