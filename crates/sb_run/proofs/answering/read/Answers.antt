use Rattle.std.proofs.Common.{arith}
use Rattle.sb_session.proofs.Over.{few_batches}
use Rattle.sb_plan.specs.Runners.{online_add, online_valid}
use Rattle.sb_run.proofs.answering.read.Goals as goal

pub value_at-requires : goal.value_at-requires
value_at-requires g c =
    let runner = c.args.feed.now in
    let over = c.requires.1.0 in
    let few = few_batches online_valid online_add runner.stores.monoids runner.records c.args.session.now over in
    (c.requires.0, (over, (c.requires.1.1, omega (arith, over.published.0, over.published.1, few))))
