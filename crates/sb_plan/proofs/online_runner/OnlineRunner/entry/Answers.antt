use Rattle.std.proofs.Common.{◌<◌, length, sym, subst}
use Rattle.sb_feed.specs.Jobs.{meant}
use Rattle.sb_plan.specs.Runners.{online_add, online_valid}
use Rattle.sb_plan.proofs.Runs.{limit_there}
use Rattle.sb_plan.proofs.online_runner.OnlineRunner.entry.Goals as goal

pub returns-clause-limit : goal.returns-clause-limit
returns-clause-limit c =
    limit_there (meant online_valid online_add c.self.inside.stores.monoids) c.self.inside.entries.items c.args.i c.index.result.now
    (subst (λ runner. c.args.i < length runner.records) (sym c.self.view_is) c.requires) c.index.ensures c.self.invariant.valid
