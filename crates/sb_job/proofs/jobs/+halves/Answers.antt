use Rattle.std.proofs.Common.{subst}
use Rattle.std.specs.List.{flat_map}
use Rattle.std.specs.Result.{IfOk}
use Rattle.std.proofs.lemmas.Result.{IfOk-weaker}
use Rattle.sb_feed.specs.Feeds.{parts_at}
use Rattle.sb_feed.specs.Jobs.{meant}
use Rattle.sb_feed.specs.Stands.{keyed_values}
use Rattle.sb_job.specs.Sums.{AreKeySums}
use Rattle.sb_job.proofs.Emitted.{parts_behind, positions_valid}
use Rattle.sb_job.proofs.jobs.+halves.Goals as goal

pub add_behind-requires-clause-first : goal.add_behind-requires-clause-first
add_behind-requires-clause-first g t c = IfOk-weaker c.join-first.result.0 _ _ (λ _ are. are.valid) c.join-first.ensures.first

pub add_behind-requires-clause-second : goal.add_behind-requires-clause-second
add_behind-requires-clause-second g t c = IfOk-weaker c.join-first.result.1 _ _ (λ _ are. are.valid) c.join-first.ensures.second

pub returns : goal.returns
returns g t c =
    let d = meant g.M.Semigroup.valid g.M.Semigroup.add (g.F.Family.monoids c.args.feed.now) in
    let records = g.F.Feed.records c.args.feed.now in
    let first = c.split_at.result.0.now in
    let second = c.split_at.result.1.now in
    subst (λ values. IfOk c.add_behind.result (AreKeySums d values))
    (parts_behind (parts_at records) first second c.args.positions.now c.split_at.ensures.by_index.0)
    (c.add_behind.ensures (keyed_values (flat_map (parts_at records) first)) (keyed_values (flat_map (parts_at records) second))
    (positions_valid d records c.requires.records first) (positions_valid d records c.requires.records second)
    c.join-first.ensures.first c.join-first.ensures.second)
