use Rattle.std.proofs.Common.{◌≡◌, ◌≤◌, ◌<◌, ◌+◌, ◌-◌, ◌*◌, ◌∙◌, ap, sym, subst, length, map, arith}
use Rattle.std.specs.Prelude.{min}
use Rattle.std.specs.List.{range_with_len}
use Rattle.std.proofs.lemmas.List.FromFn.{length-map-range_with_len}
use Rattle.std.proofs.lemmas.Result.{IfOk-weaker}
use Rattle.sb_feed.specs.Cuts.{chunk_count}
use Rattle.sb_job.specs.Parcels.{shard_parcel}
use Rattle.sb_session.specs.Sessions.{IsEach, job_by}
use Rattle.sb_session.specs.Steps.{IsNextParcel}
use Rattle.sb_session.proofs.Places.{each_of, from_made}
use Rattle.sb_session.proofs.Stands.{next_parcel}
use Rattle.sb_session.proofs.session.Session.parcels.Goals as goal

pub chunks_between-requires-clause-limit : goal.chunks_between-requires-clause-limit
chunks_between-requires-clause-limit g c =
    let chunks : c.args.upto ≤ chunk_count c.self.inside.cut = subst (λ s. c.args.upto ≤ chunk_count s.cut) (sym c.self.view_is) c.requires.chunks in
    omega (arith, chunks, c.self.invariant.0.chunks)

pub returns-clause-number : goal.returns-clause-number
returns-clause-number g c =
    IfOk-weaker c.split_parcel.result _ _ (λ parcels made.
    ap length made ∙ (length-map-range_with_len (shard_parcel c.self.inside.cut.shards _) 0 c.self.inside.cut.shards ∙ ap (λ s. s.cut.shards) c.self.view_is)) c.split_parcel.ensures

pub returns-clause-each : goal.returns-clause-each
returns-clause-each g c =
    let V = g.F.M.Semigroup.valid in
    let A = g.F.M.Semigroup.add in
    let monoids = g.F.Family.monoids c.args.feed.now in
    let records = g.F.Feed.records c.args.feed.now in
    let some : c.self.inside.worked < c.args.upto = subst (λ s. s.worked < c.args.upto) (sym c.self.view_is) c.requires.some in
    let whole = subst (λ s. s.cut.records ≡ length records) (sym c.self.view_is) c.requires.over.length in
    let last : c.args.upto - 1 + 1 ≡ c.args.upto = omega (arith, some) in
    let P = IsNextParcel V A (job_by monoids records c.self.inside.cut) c.self.inside.worked c.args.upto in
    IfOk-weaker c.split_parcel.result _ _ (λ parcels made.
    subst (λ s. IsEach (IsNextParcel V A (job_by monoids records s.cut) s.worked c.args.upto) parcels.items) c.self.view_is
    (subst (IsEach P) (sym made) (each_of P (map (shard_parcel c.self.inside.cut.shards _) (range_with_len 0 c.self.inside.cut.shards)) (from_made P (shard_parcel c.self.inside.cut.shards _) 0 c.self.inside.cut.shards (λ number.
    next_parcel V A monoids records c.self.inside.cut c.self.inside.worked c.args.upto _ _ number _ _ (omega (arith, c.self.invariant.0.chunk.0)) whole some c.requires.over.job
    (ap (λ bounds. bounds.0) c.bounds-from.ensures.bounds)
    (ap (λ bounds. bounds.1) c.bounds-to.ensures.bounds ∙ ap (λ n. min (n * c.self.inside.cut.chunk) c.self.inside.cut.records) last)
    c.in_ok-chunks.ensures (c.from_vec.ensures ∙ c.in_ok-parts.ensures)))))) c.split_parcel.ensures
