use Rattle.std.proofs.Common.{◌≡◌, ◌∙◌, sym, subst, ap, arith}
use Rattle.std.specs.List.{range_with_len}
use Rattle.sb_feed.specs.Cuts.{chunk_count}
use Rattle.sb_session.specs.Sessions.{IsOver}
use Rattle.sb_session.proofs.session.Session.drain.Goals as goal

-- all chunks are worked
pub drain_shards-requires-clause-shards : goal.drain_shards-requires-clause-shards
drain_shards-requires-clause-shards g c =
    let V = g.F.M.Semigroup.valid in
    let A = g.F.M.Semigroup.add in
    let monoids = g.F.Family.monoids c.args.feed.now in
    let records = g.F.Feed.records c.args.feed.now in
    let over = subst (IsOver V A monoids records) (sym c.self.view_is) c.in_ok-work.ensures.over in
    let cuts = ap (λ s. s.cut) c.self.view_is ∙ c.in_ok-work.ensures.others.0 in
    let all : c.self.inside.worked ≡ chunk_count c.self.inside.cut = omega (arith, ap (λ s. s.worked) c.self.view_is, c.in_ok-work.ensures.worked, ap chunk_count cuts, c.self.invariant.0.chunks) in
    λ number shard there.
    let at = over.shards number shard there in
    record { stands = at.stands; cover = at.cover ∙ ap (range_with_len 0) all }
