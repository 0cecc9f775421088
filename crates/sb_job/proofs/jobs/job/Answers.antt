use Rattle.std.proofs.Common.{◌∙◌}
use Rattle.sb_feed.specs.Jobs.{meant}
use Rattle.sb_job.proofs.Emitted.{key_sum_where}
use Rattle.sb_job.proofs.jobs.job.Goals as goal

pub returns-clause-rows : goal.returns-clause-rows
returns-clause-rows g c =
    let d = meant g.M.Semigroup.valid g.M.Semigroup.add (g.F.Family.monoids c.args.feed.now) in
    let records = g.F.Feed.records c.args.feed.now in
    record { valid = c.in_ok-rows.ensures.valid; folds = λ key. c.in_ok-rows.ensures.sums key ∙ key_sum_where d records _ key }
