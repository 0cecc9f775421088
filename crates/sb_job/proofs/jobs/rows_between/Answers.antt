use Rattle.std.proofs.Common.{◌∙◌, map, length, ap, sym, subst, arith}
use Rattle.std.proofs.lemmas.List.{length-map}
use Rattle.std.specs.Result.{IfOk}
use Rattle.std.specs.List.{AllByRecursion, flat_map}
use Rattle.std.specs.Prelude.{◌<◌}
use Rattle.sb_feed.specs.Feeds.{parts_at}
use Rattle.sb_feed.specs.Jobs.{meant}
use Rattle.sb_feed.specs.Stands.{keyed_values}
use Rattle.sb_job.specs.Emitted.{is_between}
use Rattle.sb_job.specs.Sums.{AreKeySums}
use Rattle.sb_job.proofs.Emitted.{parts_at_batches}
use Rattle.sb_job.proofs.Positions.{within, one_batch}
use Rattle.sb_job.proofs.jobs.rows_between.Goals as goal

pub rows_at-requires-clause-positions : goal.rows_at-requires-clause-positions
rows_at-requires-clause-positions g c =
    let records = g.F.Feed.records c.args.feed.now in
    λ lifetimes outlive. subst (AllByRecursion (λ i. i < length records)) (sym c.positions.ensures) (within _ 0 (length records) (map (λ r. r.batch) records) (omega (arith, length-map records (λ r. r.batch))))

pub returns-then-to-from-eq1 : goal.returns-then-to-from-eq1
returns-then-to-from-eq1 g c =
    let d = meant g.M.Semigroup.valid g.M.Semigroup.add (g.F.Family.monoids c.args.feed.now) in
    let records = g.F.Feed.records c.args.feed.now in
    subst (λ parts. IfOk c.rows_at.result (AreKeySums d (keyed_values parts)))
    (ap (flat_map (parts_at records)) (c.positions.ensures ∙ one_batch c.args.from c.args.to 0 (map (λ r. r.batch) records) (omega (arith, c.if-from-to.true, c.if-to-from-eq1.true)))
    ∙ parts_at_batches (is_between c.args.from c.args.to) records)
    c.rows_at.ensures

pub rows_at-requires-2-clause-positions : goal.rows_at-requires-2-clause-positions
rows_at-requires-2-clause-positions g c =
    let records = g.F.Feed.records c.args.feed.now in
    λ lifetimes outlive. subst (AllByRecursion (λ i. i < length records)) (sym (c.as_slice.ensures.value ∙ c.in_ok-positions.ensures)) (within _ 0 (length records) (map (λ r. r.batch) records) (omega (arith, length-map records (λ r. r.batch))))

pub returns : goal.returns
returns g c =
    let d = meant g.M.Semigroup.valid g.M.Semigroup.add (g.F.Family.monoids c.args.feed.now) in
    let records = g.F.Feed.records c.args.feed.now in
    subst (λ parts. IfOk c.rows_at-2.result (AreKeySums d (keyed_values parts)))
    (ap (flat_map (parts_at records)) (c.as_slice.ensures.value ∙ c.in_ok-positions.ensures) ∙ parts_at_batches (is_between c.args.from c.args.to) records)
    c.rows_at-2.ensures
