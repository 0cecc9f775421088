use Rattle.std.proofs.Common.{◌<◌, length, refl, sym, subst}
use Rattle.std.proofs.lemmas.Option.{slice_get_read}
use Rattle.sb_feed.proofs.Meant.{stores_commute}
use Rattle.sb_session.proofs.Stands.{raise_moves}
use Rattle.sb_session.proofs.session.Session.raise_shard.Goals as goal

pub returns-clause-ok : goal.returns-clause-ok
returns-clause-ok g c =
    let V = g.F.M.Semigroup.valid in
    let A = g.F.M.Semigroup.add in
    let monoids = g.F.Family.monoids c.args.feed.now in
    let records = g.F.Feed.records c.args.feed.now in
    let commute = stores_commute V A (λ m. record {
      semigroup = record { keeps_valid = g.met.F.M.Semigroup.keeps_valid m; associates = g.met.F.M.Semigroup.associates m };
      commutes = g.met.F.M.Commuting.commutes m;
    }) monoids in
    let there = slice_get_read c.self.inside.shards.items _ c.args.number c.index_mut-shard.result.now refl (subst (λ s. c.args.number < length s.shards) (sym c.self.view_is) c.requires.there) c.index_mut-shard.ensures.value in
    raise_moves V A monoids records _ c.args.self.now _ c.args.number c.index_mut-shard.result.now c.expire.new.self c.self.view_is there refl c.args.floor commute c.requires.log c.requires.over c.in-Ok.ensures.stands c.in-Ok.ensures.cover c.in-Ok.ensures.numbers
