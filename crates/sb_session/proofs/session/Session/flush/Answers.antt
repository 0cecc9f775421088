use Rattle.std.proofs.Common.{◌∙◌, length, ap, sym, subst, refl, arith}
use Rattle.sb_feed.proofs.Indexed.{on_err_of}
use Rattle.sb_session.specs.Sessions.{StandEach, job_by}
use Rattle.sb_session.specs.Steps.{IsNextParcel}
use Rattle.sb_session.proofs.Moving.{starts, next_over, moves_on, over_closed, still_stands}
use Rattle.sb_session.proofs.Places.{AreFrom, from_start}
use Rattle.sb_session.proofs.Stands.{next_now}
use Rattle.sb_session.proofs.session.Session.flush.Goals as goal

pub loop-parcel-init : goal.loop-parcel-init
loop-parcel-init g c =
    let V = g.F.M.Semigroup.valid in
    let A = g.F.M.Semigroup.add in
    let monoids = g.F.Family.monoids c.args.feed.now in
    let records = g.F.Feed.records c.args.feed.now in
    let before = c.args.self.now in
    let P = IsNextParcel V A (job_by monoids records before.cut) before.worked c.args.upto in
    let gives = c.into_iter-parcel-iterator.ensures.into_iter_gives.0 in
    record {
      moving = starts V A monoids records c.args.upto before.published before.floor before c.requires.over;
      parcels = subst (AreFrom P 0) (sym gives) (from_start P c.in_ok-parcel-items.parcel-items.items c.in_ok-parcel-items.ensures.each);
      count = omega (arith, ap length gives, c.in_ok-parcel-items.ensures.number, c.requires.over.number);
    }

pub flush_shard-requires-clause-over : goal.flush_shard-requires-clause-over
flush_shard-requires-clause-over g c =
    let V = g.F.M.Semigroup.valid in
    let A = g.F.M.Semigroup.add in
    let monoids = g.F.Family.monoids c.args.feed.now in
    let records = g.F.Feed.records c.args.feed.now in
    let before = c.args.self.now in
    next_over V A monoids records c.args.upto before.published before.floor before c.loop-parcel.number c.loop-parcel.self c.loop-parcel.invariant.moving

pub flush_shard-requires-clause-parcel : goal.flush_shard-requires-clause-parcel
flush_shard-requires-clause-parcel g c =
    let V = g.F.M.Semigroup.valid in
    let A = g.F.M.Semigroup.add in
    let monoids = g.F.Family.monoids c.args.feed.now in
    let records = g.F.Feed.records c.args.feed.now in
    let before = c.args.self.now in
    let P = IsNextParcel V A (job_by monoids records before.cut) before.worked c.args.upto in
    let parcels = subst (AreFrom P c.loop-parcel.number) c.in-Some.ensures.steps.0 c.loop-parcel.invariant.parcels in
    (next_now V A monoids records before c.loop-parcel.self c.args.upto c.loop-parcel.number c.in-Some.parcel c.loop-parcel.invariant.moving.same c.requires.some parcels.0).0

pub returns-in_err-flush_shard-clause-err : goal.returns-in_err-flush_shard-clause-err
returns-in_err-flush_shard-clause-err g c =
    let V = g.F.M.Semigroup.valid in
    let A = g.F.M.Semigroup.add in
    let monoids = g.F.Family.monoids c.args.feed.now in
    let records = g.F.Feed.records c.args.feed.now in
    let before = c.args.self.now in
    on_err_of c.from_residual-in_err-flush_shard.result (subst (StandEach V A monoids records) (sym c.in_err-flush_shard.ensures.err) (still_stands V A monoids records c.args.upto before.published before.floor before c.loop-parcel.number c.loop-parcel.self c.loop-parcel.invariant.moving))

pub loop-parcel-preserved : goal.loop-parcel-preserved
loop-parcel-preserved g c =
    let V = g.F.M.Semigroup.valid in
    let A = g.F.M.Semigroup.add in
    let monoids = g.F.Family.monoids c.args.feed.now in
    let records = g.F.Feed.records c.args.feed.now in
    let before = c.args.self.now in
    let P = IsNextParcel V A (job_by monoids records before.cut) before.worked c.args.upto in
    let moving = c.loop-parcel.invariant.moving in
    let parcels = subst (AreFrom P c.loop-parcel.number) c.in-Some.ensures.steps.0 c.loop-parcel.invariant.parcels in
    let next = next_now V A monoids records before c.loop-parcel.self c.args.upto c.loop-parcel.number c.in-Some.parcel moving.same c.requires.some parcels.0 in
    record {
      moving = moves_on V A monoids records c.args.upto before.published before.floor before c.loop-parcel.number c.loop-parcel.self c.flush_shard.new.self _ _ _ moving c.in_ok-flush_shard.ensures.ok next.1 (ap (λ s. s.published) moving.same) (ap (λ s. s.floor) moving.same);
      parcels = parcels.1;
      count = omega (arith, ap length c.in-Some.ensures.steps.0, c.loop-parcel.invariant.count);
    }

pub returns-clause-over : goal.returns-clause-over
returns-clause-over g c =
    let V = g.F.M.Semigroup.valid in
    let A = g.F.M.Semigroup.add in
    let monoids = g.F.Family.monoids c.args.feed.now in
    let records = g.F.Feed.records c.args.feed.now in
    let before = c.args.self.now in
    let moving = c.loop-parcel.invariant.moving in
    over_closed V A monoids records c.args.upto before.published before.floor before c.loop-parcel.number c.loop-parcel.self _ _ c.args.upto _ _ c.requires.over moving (omega (arith, c.in-None.ensures.steps.0, c.loop-parcel.parcel-iterator.rest.ok, c.loop-parcel.invariant.count)) c.self-2.view_is
    refl refl (ap (λ s. s.published) (c.self-2.view_is ∙ moving.same)) (ap (λ s. s.floor) (c.self-2.view_is ∙ moving.same)) c.requires.chunks c.requires.over.published.0 c.requires.over.published.1
