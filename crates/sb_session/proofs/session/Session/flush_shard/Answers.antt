use Rattle.std.proofs.Common.{◌≡◌, ◌<◌, length, Some, refl, sym, subst}
use Rattle.std.specs.Prelude.{slice_get}
use Rattle.std.proofs.lemmas.Option.{slice_get_read}
use Rattle.std.proofs.lemmas.Result.{on_err_weaker}
use Rattle.sb_feed.proofs.Meant.{stores_commute}
use Rattle.sb_session.proofs.Stands.{flush_moves, next_fresh, unmoved}
use Rattle.sb_session.proofs.Outcomes.{three_ok}
use Rattle.sb_session.proofs.session.Session.flush_shard.Goals as goal

pub flush-requires-clause-fresh : goal.flush-requires-clause-fresh
flush-requires-clause-fresh g c =
    let V = g.F.M.Semigroup.valid in
    let A = g.F.M.Semigroup.add in
    let monoids = g.F.Family.monoids c.args.feed.now in
    let records = g.F.Feed.records c.args.feed.now in
    let there = slice_get_read c.self.inside.shards.items _ c.args.number c.index_mut-shard.result.now refl (subst (λ s. c.args.number < length s.shards) (sym c.self.view_is) c.requires.there) c.index_mut-shard.ensures.value in
    next_fresh V A monoids records c.args.self.now.cut c.args.self.now.worked c.args.self.now.published c.args.self.now.floor c.args.number _ c.index_mut-shard.result.now c.args.parcel
    (c.requires.over c.index_mut-shard.result.now (subst (λ s. slice_get s.shards c.args.number ≡ Some c.index_mut-shard.result.now) c.self.view_is there)) c.requires.parcel

pub flush-requires-clause-kept : goal.flush-requires-clause-kept
flush-requires-clause-kept g c =
    let there = slice_get_read c.self.inside.shards.items _ c.args.number c.index_mut-shard.result.now refl (subst (λ s. c.args.number < length s.shards) (sym c.self.view_is) c.requires.there) c.index_mut-shard.ensures.value in
    (c.requires.over c.index_mut-shard.result.now (subst (λ s. slice_get s.shards c.args.number ≡ Some c.index_mut-shard.result.now) c.self.view_is there)).stands.valid

pub returns-clause-ok : goal.returns-clause-ok
returns-clause-ok g c =
    let V = g.F.M.Semigroup.valid in
    let A = g.F.M.Semigroup.add in
    let monoids = g.F.Family.monoids c.args.feed.now in
    let records = g.F.Feed.records c.args.feed.now in
    let commute = stores_commute V A (λ m. record {
      semigroup = record { keeps_valid = g.met.F.M.Semigroup.keeps_valid m; associates = g.met.F.M.Semigroup.associates m };
      commutes = g.met.F.M.Commuting.commutes m;
    }) monoids in
    let there = slice_get_read c.self.inside.shards.items _ c.args.number c.index_mut-shard.result.now refl (subst (λ s. c.args.number < length s.shards) (sym c.self.view_is) c.requires.there) c.index_mut-shard.ensures.value in
    three_ok c.flush.result c.flush.ensures.cover c.flush.ensures.numbers c.flush.ensures.stands
    (flush_moves V A monoids records _ c.args.self.now _ c.args.number c.index_mut-shard.result.now c.flush.new.self c.self.view_is there refl c.args.parcel commute c.requires.log c.requires.over c.requires.parcel)

pub returns-clause-err : goal.returns-clause-err
returns-clause-err g c =
    let there = slice_get_read c.self.inside.shards.items _ c.args.number c.index_mut-shard.result.now refl (subst (λ s. c.args.number < length s.shards) (sym c.self.view_is) c.requires.there) c.index_mut-shard.ensures.value in
    on_err_weaker c.flush.result (unmoved _ c.args.self.now _ c.args.number c.index_mut-shard.result.now c.flush.new.self c.self.view_is there refl) c.flush.ensures.err
