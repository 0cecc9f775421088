use Rattle.std.proofs.Common.{◌≤◌, ◌++◌, sym, subst, ap}
use Rattle.sb_laws.proofs.Sums.{valid_append, valid_left, valid_right}
use Rattle.sb_feed.specs.Jobs.{meant, meaning_of, AreValid}
use Rattle.sb_offline.specs.Offlines as offline
use Rattle.sb_offline.specs.Expiries.{IsExpired}
use Rattle.sb_online.specs.Onlines as online
use Rattle.sb_shard.specs.Shards.{ShardValue, kept_by, published_to}
use Rattle.sb_shard.proofs.Expired.{stands_expired}
use Rattle.sb_shard.proofs.Outcomes.{both_ok, within_ok}
use Rattle.sb_shard.proofs.shard.Shard.expire.Goals as goal

pub expire-requires : goal.expire-requires
expire-requires g c =
    let d = meant g.F.M.Semigroup.valid g.F.M.Semigroup.add (g.F.Family.monoids c.args.family.now) in
    let kept : AreValid d (offline.kept_by c.self.inside.offline ++ online.kept_by c.self.inside.online) = subst (λ held. AreValid d (kept_by held)) (sym c.self.view_is) c.requires.kept in
    record { kept = valid_left _ (offline.kept_by c.self.inside.offline) (online.kept_by c.self.inside.online) kept }

pub returns-clause-valid : goal.returns-clause-valid
returns-clause-valid g c =
    let d = meant g.F.M.Semigroup.valid g.F.M.Semigroup.add (g.F.Family.monoids c.args.family.now) in
    let kept : AreValid d (offline.kept_by c.self.inside.offline ++ online.kept_by c.self.inside.online) = subst (λ held. AreValid d (kept_by held)) (sym c.self.view_is) c.requires.kept in
    let h = c.self.inside in
    valid_append _ (offline.kept_by c.expire.new.self) (online.kept_by h.online) c.expire.ensures.valid (valid_right _ (offline.kept_by h.offline) (online.kept_by h.online) kept)

pub returns-clause-stands : goal.returns-clause-stands
returns-clause-stands g c =
    let d = meant g.F.M.Semigroup.valid g.F.M.Semigroup.add (g.F.Family.monoids c.args.family.now) in
    let kept : AreValid d (offline.kept_by c.self.inside.offline ++ online.kept_by c.self.inside.online) = subst (λ held. AreValid d (kept_by held)) (sym c.self.view_is) c.requires.kept in
    let V = g.F.M.Semigroup.valid in
    let A = g.F.M.Semigroup.add in
    let h = c.self.inside in
    let before = c.args.self.now in
    let after : ShardValue g.row.E.Denot = record { offline = c.expire.new.self; online = h.online } in
    let valid = valid_append _ (offline.kept_by c.expire.new.self) (online.kept_by h.online) c.expire.ensures.valid (valid_right _ (offline.kept_by h.offline) (online.kept_by h.online) kept) in
    both_ok c.expire.result c.expire.ensures.ok (within_ok c.expire.result _ (offline.published_to h.offline) c.args.floor c.expire.ensures.not_published) (λ expired within job shard same commuting may stands.
    stands_expired (meaning_of V A job) c.args.floor before after
    (record {
      within = subst (λ held. c.args.floor ≤ published_to held) c.self.view_is within;
      offline = subst (λ held. IsExpired (meaning_of V A job).add c.args.floor held.offline after.offline) c.self.view_is (subst (λ ms. IsExpired (meant V A ms).add c.args.floor h.offline after.offline) same expired);
      online = ap (λ held. held.online) c.self.view_is;
    })
    job.log shard commuting.commute commuting.records may stands (subst (λ ms. AreValid (meant V A ms) (kept_by after)) same valid))
