use Rattle.std.proofs.Common.{subst}
use Rattle.sb_feed.specs.Jobs.{meant, meaning_of, AreValid}
use Rattle.sb_shard.specs.Shards.{kept_by}
use Rattle.sb_shard.specs.Events.{IsFlushed}
use Rattle.sb_shard.proofs.Events.{stands_flushed}
use Rattle.sb_shard.proofs.Outcomes.{both_ok}
use Rattle.sb_shard.proofs.shard.Shard.flush.Goals as goal

pub returns-clause-stands : goal.returns-clause-stands
returns-clause-stands g c =
    let V = g.F.M.Semigroup.valid in
    let A = g.F.M.Semigroup.add in
    let before = c.args.self.now in
    let after = c.put.new.self in
    both_ok c.put.result c.put.ensures.ok c.put.ensures.valid (λ flushed valid job shard same commuting of stands.
    stands_flushed (meaning_of V A job) c.args.parcel before after (subst (λ ms. IsFlushed (meant V A ms).add c.args.parcel before after) same flushed)
    job.log shard commuting.commute commuting.records of c.requires.fresh stands (subst (λ ms. AreValid (meant V A ms) (kept_by after)) same valid))
