use Rattle.std.proofs.Common.{◌≡◌, ◌++◌, sym, subst, ◌∙◌, rules}
use Rattle.sb_laws.proofs.Sums.{valid_left, valid_right}
use Rattle.sb_offline.specs.Offlines as offline
use Rattle.sb_online.specs.Onlines as online
use Rattle.sb_feed.specs.Jobs.{meant, AreValid}
use Rattle.sb_feed.specs.Stands.{keyed_values}
use Rattle.sb_job.specs.Sums.{HasKeySums}
use Rattle.sb_online.specs.Onlines.{parts_of, parts_from}
use Rattle.sb_shard.specs.Shards.{ShardValue, kept_by}
use Rattle.sb_shard.specs.Asks.{Drains}
use Rattle.sb_shard.proofs.Drained.{drained}
use Rattle.sb_shard.proofs.shard.Shard.into_sums.Goals as goal

pub into_sums-requires : goal.into_sums-requires
into_sums-requires g c =
    let d = meant g.F.M.Semigroup.valid g.F.M.Semigroup.add (g.F.Family.monoids c.args.family.now) in
    let kept : AreValid d (offline.kept_by c.self.inside.offline ++ online.kept_by c.self.inside.online) = subst (λ held. AreValid d (kept_by held)) (sym c.self.view_is) c.requires.kept in
    record { kept = valid_left _ (offline.kept_by c.self.inside.offline) (online.kept_by c.self.inside.online) kept }

pub add_to-requires-clause-kept : goal.add_to-requires-clause-kept
add_to-requires-clause-kept g c =
    let d = meant g.F.M.Semigroup.valid g.F.M.Semigroup.add (g.F.Family.monoids c.args.family.now) in
    let kept : AreValid d (offline.kept_by c.self.inside.offline ++ online.kept_by c.self.inside.online) = subst (λ held. AreValid d (kept_by held)) (sym c.self.view_is) c.requires.kept in
    valid_right _ (offline.kept_by c.self.inside.offline) (online.kept_by c.self.inside.online) kept

pub returns : goal.returns
returns g c =
    let d = meant g.F.M.Semigroup.valid g.F.M.Semigroup.add (g.F.Family.monoids c.args.family.now) in
    let V = g.F.M.Semigroup.valid in
    let A = g.F.M.Semigroup.add in
    let ms = g.F.Family.monoids c.args.family.now in
    let h = c.self.inside in
    let held : ShardValue g.row.E.Denot = record { offline = h.offline; online = h.online } in
    let kept : AreValid d (kept_by held) = subst (λ held. AreValid d (kept_by held)) (sym c.self.view_is) c.requires.kept in
    let count : c.published-from.result ≡ offline.published_to h.offline = search rules in
    let summed = subst (λ n. HasKeySums d (offline.kept_by h.offline ++ keyed_values (parts_from n (parts_of h.online))) c.add_to.new.sums) count (c.in_ok-add_to.ensures.sums (offline.kept_by h.offline) c.in_ok-sums.ensures.sums) in
    subst (λ held. Drains V A ms held c.add_to.new.sums) c.self.view_is
    (drained V A ms held c.add_to.new.sums kept c.in_ok-sums.ensures.rising c.in_ok-add_to.ensures.valid summed)
