use Rattle.std.proofs.Common.{◌≡◌, ◌++◌, sym, subst, ap, ◌∙◌, rules}
use Rattle.sb_laws.proofs.Sums.{valid_left, valid_right}
use Rattle.sb_offline.specs.Offlines as offline
use Rattle.sb_online.specs.Onlines as online
use Rattle.sb_feed.specs.Jobs.{meant, AreValid}
use Rattle.sb_feed.specs.Stands.{HasSums}
use Rattle.sb_shard.specs.Shards.{kept_by, published_to}
use Rattle.sb_shard.proofs.shard.Shard.answer.Goals as goal

pub look-requires-clause-kept : goal.look-requires-clause-kept
look-requires-clause-kept g c =
    let d = meant g.F.M.Semigroup.valid g.F.M.Semigroup.add (g.F.Family.monoids c.args.family.now) in
    let kept : AreValid d (offline.kept_by c.self.inside.offline ++ online.kept_by c.self.inside.online) = subst (λ held. AreValid d (kept_by held)) (sym c.self.view_is) c.requires.kept in
    valid_left _ (offline.kept_by c.self.inside.offline) (online.kept_by c.self.inside.online) kept

pub look-requires-2-clause-kept : goal.look-requires-2-clause-kept
look-requires-2-clause-kept g c =
    let d = meant g.F.M.Semigroup.valid g.F.M.Semigroup.add (g.F.Family.monoids c.args.family.now) in
    let kept : AreValid d (offline.kept_by c.self.inside.offline ++ online.kept_by c.self.inside.online) = subst (λ held. AreValid d (kept_by held)) (sym c.self.view_is) c.requires.kept in
    valid_right _ (offline.kept_by c.self.inside.offline) (online.kept_by c.self.inside.online) kept

pub returns-clause-sums : goal.returns-clause-sums
returns-clause-sums g c =
    let d = meant g.F.M.Semigroup.valid g.F.M.Semigroup.add (g.F.Family.monoids c.args.family.now) in
    let h = c.self.inside in
    let key = c.args.key.now in
    let V = d.valid key.store in
    let p = published_to c.args.self.now in
    let count : c.published.result ≡ p = search rules in
    record {
      base = c.in_ok-base.ensures.base ∙ ap (λ held. offline.base_sum d.add held.offline key) c.self.view_is;
      published = subst (λ held. HasSums V c.args.upto (offline.published_sum held.offline key) c.in_ok-base.field-0.published) c.self.view_is c.in_ok-base.ensures.published;
      online = subst (λ held. HasSums V c.args.upto (online.sum_from d.add held.online p key) c.in_ok-online.online) c.self.view_is
          (subst (λ n. HasSums V c.args.upto (online.sum_from d.add h.online n key) c.in_ok-online.online) count c.in_ok-online.ensures.sums);
      cover = c.in_ok-cover.ensures ∙ c.cover.ensures;
      published_to = search rules;
      floor = search rules;
    }
