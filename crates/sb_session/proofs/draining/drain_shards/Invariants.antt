use Rattle.std.proofs.Common.{◌≡◌, ◌++◌, length}
use Rattle.std.specs.Vec.Iter.{into_iter_items}
use Rattle.sb_feed.specs.Jobs.{AreValid, meant}
use Rattle.sb_session.proofs.Merged.{AreMerged}
use Rattle.sb_session.proofs.draining.drain_shards.Given as goal

abbrev pub invariant-loop-shard : goal.invariant-loop-shard
invariant-loop-shard g l = record {
  merged : AreMerged g.F.M.Semigroup.valid g.F.M.Semigroup.add (g.F.Family.monoids l.fn.feed) (g.F.Feed.records l.fn.feed) l.fn.cut (length l.yielded) l.all;
  valid : AreValid (meant g.F.M.Semigroup.valid g.F.M.Semigroup.add (g.F.Family.monoids l.fn.feed)) l.all;
  split : l.yielded ++ into_iter_items l.shard-iterator ≡ l.fn.shards.items;
}
