use Rattle.std.proofs.Common.{◌<◌, ◌++◌, ◌∙◌, take, length, ap, sym, subst, arith}
use Rattle.std.specs.Prelude.{slice_index_or}
use Rattle.std.specs.List.{AllByRecursion, flat_map}
use Rattle.std.proofs.lemmas.List.{drop_more, take_all}
use Rattle.sb_feed.specs.Feeds.{parts_at}
use Rattle.sb_feed.specs.Jobs.{AreValid, meant}
use Rattle.sb_feed.specs.Stands.{keyed_values}
use Rattle.sb_job.specs.Sums.{key_sum, HasKeySums}
use Rattle.sb_job.proofs.Emitted.{alone, at_valid, parts_next}
use Rattle.sb_job.proofs.jobs.sum_records.Goals as goal

pub drain_parts-requires-clause-parts : goal.drain_parts-requires-clause-parts
drain_parts-requires-clause-parts g c =
    let d = meant g.F.M.Semigroup.valid g.F.M.Semigroup.add (g.F.Family.monoids c.args.feed.now) in
    let records = g.F.Feed.records c.args.feed.now in
    let i = slice_index_or c.args.positions.now c.loop-i.i-index 0 in
    let is = alone c.loop-i.parts.items (parts_at records i) c.emit.new.out.items c.loop-i.invariant.none c.in_ok-emit.ensures.ok in
    subst (λ parts. AreValid d (keyed_values parts)) (sym is) (at_valid d i records c.requires.records)

pub loop-i-preserved : goal.loop-i-preserved
loop-i-preserved g c =
    let d = meant g.F.M.Semigroup.valid g.F.M.Semigroup.add (g.F.Family.monoids c.args.feed.now) in
    let records = g.F.Feed.records c.args.feed.now in
    let positions = c.args.positions.now in
    let at = c.loop-i.i-index in
    let i = slice_index_or positions at 0 in
    let is = alone c.loop-i.parts.items (parts_at records i) c.emit.new.out.items c.loop-i.invariant.none c.in_ok-emit.ensures.ok in
    record {
      none = c.in_ok-drain_parts.ensures.none;
      later = (subst (AllByRecursion (λ i. i < length records)) (drop_more positions at 0 c.loop-i-test.true) c.loop-i.invariant.later).1;
      valid = c.drain_parts.ensures.valid;
      sums = subst (λ l. HasKeySums d l c.drain_parts.new.self)
          (ap (λ l. keyed_values (flat_map (parts_at records) (take at positions)) ++ keyed_values l) is
          ∙ sym (parts_next (parts_at records) at 0 positions c.loop-i-test.true))
          (c.in_ok-drain_parts.ensures.sums (keyed_values (flat_map (parts_at records) (take at positions))) c.loop-i.invariant.sums);
    }

pub returns : goal.returns
returns g c =
    let d = meant g.F.M.Semigroup.valid g.F.M.Semigroup.add (g.F.Family.monoids c.args.feed.now) in
    let records = g.F.Feed.records c.args.feed.now in
    record {
      valid = c.loop-i.invariant.valid;
      sums = λ key. c.loop-i.invariant.sums key ∙ ap (λ l. key_sum d key (keyed_values (flat_map (parts_at records) l))) (take_all c.loop-i.i-index c.args.positions.now (omega (arith, c.loop-i-test.false)));
    }
