use Rattle.std.proofs.Common.{◌∙◌}
use Rattle.sb_feed.specs.Jobs.{meant}
use Rattle.sb_job.proofs.Growing.{permuted_valid}
use Rattle.sb_job.proofs.jobs.rows_at.Goals as goal

pub returns : goal.returns
returns g c =
    let d = meant g.M.Semigroup.valid g.M.Semigroup.add (g.F.Family.monoids c.args.feed.now) in
    record {
      valid = permuted_valid d _ _ c.in_ok-rows.ensures.same c.in_ok-sums.ensures.valid;
      sums = λ key. c.in_ok-rows.ensures.found key ∙ c.in_ok-sums.ensures.sums key;
    }
