use Rattle.std.proofs.Common.{◌∙◌, ◌+◌, length, map, ap, sym, subst, refl, arith}
use Rattle.std.specs.List.{range_with_len}
use Rattle.std.proofs.lemmas.List.FromFn.{length-map-range_with_len}
use Rattle.sb_feed.proofs.Indexed.{on_err_of}
use Rattle.sb_feed.specs.Jobs.{meant}
use Rattle.sb_job.specs.Batches.{shard_rows}
use Rattle.sb_session.specs.Sessions.{StandEach}
use Rattle.sb_session.proofs.Moving.{starts, next_over, moves_on, over_closed, still_stands}
use Rattle.sb_session.proofs.Over.{few_batches}
use Rattle.sb_session.proofs.Places.{AreFrom, from_made}
use Rattle.sb_session.proofs.Stands.{AreOwnRows, installs_on}
use Rattle.sb_session.proofs.session.Session.publish_next.Goals as goal

pub overflow_add-batch : goal.overflow_add-batch
overflow_add-batch g c =
    let few = few_batches g.M.Semigroup.valid g.M.Semigroup.add (g.F.Family.monoids c.args.feed.now) (g.F.Feed.records c.args.feed.now) c.args.self.now c.requires.over in
    omega (arith, few, c.requires.some)

pub loop-rows-init : goal.loop-rows-init
loop-rows-init g c =
    let V = g.M.Semigroup.valid in
    let A = g.M.Semigroup.add in
    let monoids = g.F.Family.monoids c.args.feed.now in
    let records = g.F.Feed.records c.args.feed.now in
    let before = c.args.self.now in
    let rows = c.in_ok-rows.rows in
    let cuts = ap (λ s. s.cut.shards) c.self.view_is in
    let P = AreOwnRows (meant V A monoids) records before.cut.shards c.args.batch in
    let made = c.in_ok-rows-items.ensures ∙ ap (λ n. map (shard_rows n rows) (range_with_len 0 n)) cuts in
    let gives = c.into_iter-rows-iterator.ensures.into_iter_gives.0 ∙ made in
    record {
      moving = starts V A monoids records before.worked (c.args.batch + 1) before.floor before c.requires.over;
      rows = subst (AreFrom P 0) (sym gives) (from_made P (shard_rows before.cut.shards rows) 0 before.cut.shards (λ k.
          record { all = rows; made = c.in_ok-rows.ensures.rows; own = refl; from = c.in_ok-rows.ensures.batches.0; to = c.in_ok-rows.ensures.batches.1 }));
      count = omega (arith, ap length gives, length-map-range_with_len (shard_rows before.cut.shards rows) 0 before.cut.shards, c.requires.over.number);
    }

pub returns-in_err-install_in-clause-err : goal.returns-in_err-install_in-clause-err
returns-in_err-install_in-clause-err g c =
    let V = g.M.Semigroup.valid in
    let A = g.M.Semigroup.add in
    let monoids = g.F.Family.monoids c.args.feed.now in
    let records = g.F.Feed.records c.args.feed.now in
    let before = c.args.self.now in
    on_err_of c.from_residual-in_err-install_in.result (subst (StandEach V A monoids records) (sym c.in_err-install_in.ensures.err) (still_stands V A monoids records before.worked (c.args.batch + 1) before.floor before c.loop-rows.number c.loop-rows.self c.loop-rows.invariant.moving))

pub loop-rows-preserved : goal.loop-rows-preserved
loop-rows-preserved g c =
    let V = g.M.Semigroup.valid in
    let A = g.M.Semigroup.add in
    let monoids = g.F.Family.monoids c.args.feed.now in
    let records = g.F.Feed.records c.args.feed.now in
    let before = c.args.self.now in
    let moving = c.loop-rows.invariant.moving in
    let P = AreOwnRows (meant V A monoids) records before.cut.shards c.args.batch in
    let rows = subst (AreFrom P c.loop-rows.number) c.in-Some.ensures.steps.0 c.loop-rows.invariant.rows in
    let now = c.loop-rows.self in
    record {
      moving = moves_on V A monoids records before.worked (c.args.batch + 1) before.floor before c.loop-rows.number now c.install_in.new.self _ _ _ moving
          (installs_on V A monoids records now c.install_in.new.self c.loop-rows.number c.args.batch before.batches c.in-Some.rows
          (subst (λ n. AreOwnRows (meant V A monoids) records n c.args.batch c.loop-rows.number c.in-Some.rows) (sym (ap (λ s. s.cut.shards) moving.same)) rows.0)
          (next_over V A monoids records before.worked (c.args.batch + 1) before.floor before c.loop-rows.number now moving) c.requires.over.batches (omega (arith, ap (λ s. s.published) moving.same, c.requires.next, c.requires.some)) c.in_ok-install_in.ensures.ok)
          (ap (λ s. s.worked) moving.same) refl (ap (λ s. s.floor) moving.same);
      rows = rows.1;
      count = omega (arith, ap length c.in-Some.ensures.steps.0, c.loop-rows.invariant.count);
    }

pub returns-clause-over : goal.returns-clause-over
returns-clause-over g c =
    let V = g.M.Semigroup.valid in
    let A = g.M.Semigroup.add in
    let monoids = g.F.Family.monoids c.args.feed.now in
    let records = g.F.Feed.records c.args.feed.now in
    let before = c.args.self.now in
    let moving = c.loop-rows.invariant.moving in
    over_closed V A monoids records before.worked (c.args.batch + 1) before.floor before c.loop-rows.number c.loop-rows.self _ _ _ (c.args.batch + 1) _ c.requires.over moving (omega (arith, c.in-None.ensures.steps.0, c.loop-rows.rows-iterator.rest.ok, c.loop-rows.invariant.count)) c.self-2.view_is
    refl (ap (λ s. s.worked) (c.self-2.view_is ∙ moving.same)) refl (ap (λ s. s.floor) (c.self-2.view_is ∙ moving.same)) c.requires.over.worked
    (omega (arith, c.requires.over.published.0, c.requires.next)) (omega (arith, c.requires.some))
