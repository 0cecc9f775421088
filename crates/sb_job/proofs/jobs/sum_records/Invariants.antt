use Rattle.std.proofs.Common.{◌≡◌, ◌<◌, [], take, drop, length}
use Rattle.std.specs.List.{AllByRecursion, flat_map}
use Rattle.sb_feed.specs.Feeds.{parts_at}
use Rattle.sb_feed.specs.Jobs.{AreValid, meant}
use Rattle.sb_feed.specs.Stands.{keyed_values}
use Rattle.sb_job.specs.Sums.{HasKeySums}
use Rattle.sb_job.proofs.jobs.sum_records.Given as goal

abbrev pub invariant-loop-i : goal.invariant-loop-i
invariant-loop-i g l =
    let d = meant g.F.M.Semigroup.valid g.F.M.Semigroup.add (g.F.Family.monoids l.feed) in
    let records = g.F.Feed.records l.feed in
    record {
      none : l.parts.items ≡ [];
      later : AllByRecursion (λ i. i < length records) (drop l.i-index l.positions);
      valid : AreValid d l.sums;
      sums : HasKeySums d (keyed_values (flat_map (parts_at records) (take l.i-index l.positions))) l.sums;
    }
