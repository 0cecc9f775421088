use Rattle.std.proofs.Common.{◌≡◌, ◌++◌, sym, subst, ap, ◌∙◌, rules}
use Rattle.std.specs.Prelude.{nat_le}
use Rattle.std.proofs.lemmas.Result.{on_ok_weaker}
use Rattle.sb_text.specs.Ranges.{union}
use Rattle.sb_laws.proofs.Sums.{valid_append, valid_left, valid_right}
use Rattle.sb_feed.specs.Jobs.{meant, AreValid}
use Rattle.sb_feed.specs.Stands.{sum_at}
use Rattle.sb_feed.proofs.PartSums.{keyed_filter}
use Rattle.sb_offline.specs.Offlines as offline
use Rattle.sb_online.specs.Onlines as online
use Rattle.sb_online.specs.Onlines.{parts_of, parts_from}
use Rattle.sb_shard.specs.Shards.{kept_by, published_to}
use Rattle.sb_shard.proofs.Outcomes.{both_ok}
use Rattle.sb_shard.proofs.shard.Shard.put.Goals as goal

pub apply-requires-clause-kept : goal.apply-requires-clause-kept
apply-requires-clause-kept g c =
    let d = meant g.F.M.Semigroup.valid g.F.M.Semigroup.add (g.F.Family.monoids c.args.family.now) in
    let kept : AreValid d (offline.kept_by c.self.inside.offline ++ online.kept_by c.self.inside.online) = subst (λ held. AreValid d (kept_by held)) (sym c.self.view_is) c.requires.kept in
    valid_right _ (offline.kept_by c.self.inside.offline) (online.kept_by c.self.inside.online) kept

pub apply-requires-clause-parts : goal.apply-requires-clause-parts
apply-requires-clause-parts g c =
    let d = meant g.F.M.Semigroup.valid g.F.M.Semigroup.add (g.F.Family.monoids c.args.family.now) in
    let is : c.from_vec-parts.result ≡ parts_from c.published.result c.args.parcel.parts = c.from_vec-parts.ensures ∙ (c.keep_from.ensures ∙ ap (parts_from c.published.result) c.into_vec-parts.ensures) in
    rw is (keyed_filter d (λ part. nat_le c.published.result part.batch) c.args.parcel.parts c.requires.parts)

pub returns-clause-ok : goal.returns-clause-ok
returns-clause-ok g c =
    let d = meant g.F.M.Semigroup.valid g.F.M.Semigroup.add (g.F.Family.monoids c.args.family.now) in
    let h = c.self.inside in
    let parts = c.args.parcel.parts in
    let count : c.published.result ≡ published_to c.args.self.now = search rules in
    let is : c.from_vec-parts.result ≡ parts_from (published_to c.args.self.now) parts = c.from_vec-parts.ensures ∙ (c.keep_from.ensures ∙ (ap (parts_from c.published.result) c.into_vec-parts.ensures ∙ ap (λ n. parts_from n parts) count)) in
    both_ok c.apply.result c.apply.ensures.cover c.apply.ensures.sums (λ cover sums. record {
      offline = ap (λ held. held.offline) c.self.view_is;
      cover = cover ∙ ap (λ held. union held.online.cover c.args.parcel.chunks) c.self.view_is;
      sums = λ key j.
          sums key j
          ∙ (ap (λ l. sum_at d.add key j (parts_of h.online ++ l)) is
          ∙ ap (λ held. sum_at d.add key j (parts_of held.online ++ parts_from (published_to c.args.self.now) parts)) c.self.view_is);
    })

pub returns-clause-valid : goal.returns-clause-valid
returns-clause-valid g c =
    let d = meant g.F.M.Semigroup.valid g.F.M.Semigroup.add (g.F.Family.monoids c.args.family.now) in
    let kept : AreValid d (offline.kept_by c.self.inside.offline ++ online.kept_by c.self.inside.online) = subst (λ held. AreValid d (kept_by held)) (sym c.self.view_is) c.requires.kept in
    let h = c.self.inside in
    on_ok_weaker c.apply.result (λ _. valid_append _ (offline.kept_by h.offline) (online.kept_by c.apply.new.self) (valid_left _ (offline.kept_by h.offline) (online.kept_by h.online) kept) c.apply.ensures.valid) c.apply.ensures.cover
