use Rattle.std.proofs.Common.{◌∙◌}
use Rattle.sb_feed.specs.Jobs.{meaning_of}
use Rattle.sb_job.proofs.Growing.{permuted_valid}
use Rattle.sb_shard.proofs.Outcomes.{if_both}
use Rattle.sb_shard.proofs.shard.Shard.into_rows.Goals as goal

-- sums that are only put in order
pub returns : goal.returns
returns g c =
    if_both c.into_rows.result c.into_rows.ensures.same c.into_rows.ensures.found (λ rows same found job shard family commuting stands.
    let drained = c.in_ok-sums.ensures job shard family commuting stands in
    record {
      elements = permuted_valid (meaning_of g.F.M.Semigroup.valid g.F.M.Semigroup.add job) _ _ same drained.elements;
      sums = λ key known. found key ∙ drained.sums key known;
    })
