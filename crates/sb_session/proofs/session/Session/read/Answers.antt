use Rattle.std.proofs.Common.{◌≡◌, Err, sym, subst, ap, ◌∙◌}
use Rattle.std.specs.List.{AllByRecursion}
use Rattle.std.proofs.lemmas.Result.{IfOk-weaker}
use Rattle.sb_feed.specs.Jobs.{valid_by, add_by}
use Rattle.sb_feed.proofs.Meant.{stores_add, stores_commute}
use Rattle.sb_laws.specs.Sums.{sum_of}
use Rattle.sb_shard.specs.Asks.{values_of}
use Rattle.sb_session.proofs.Over.{answered_valid, not_expired, read_is_fold, read_there}
use Rattle.sb_session.proofs.session.Session.read.Goals as goal

pub ask-requires-clause-kept : goal.ask-requires-clause-kept
ask-requires-clause-kept g c =
    let V = g.F.M.Semigroup.valid in
    let A = g.F.M.Semigroup.add in
    let monoids = g.F.Family.monoids c.args.feed.now in
    let records = g.F.Feed.records c.args.feed.now in
    let shard = c.index-shard.result.now in
    let session = c.args.self.now in
    let there = read_there V A monoids records _ session c.shard_of.result shard c.args.key.now c.self.view_is c.requires.over c.shard_of.ensures.shard c.shard_of.ensures.there c.index-shard.ensures in
    let at = c.requires.over.shards c.shard_of.result shard there.0 in
    at.stands.valid

pub merge-requires : goal.merge-requires
merge-requires g c =
    let V = g.F.M.Semigroup.valid in
    let A = g.F.M.Semigroup.add in
    let monoids = g.F.Family.monoids c.args.feed.now in
    let records = g.F.Feed.records c.args.feed.now in
    let shard = c.index-shard.result.now in
    let session = c.args.self.now in
    let there = read_there V A monoids records _ session c.shard_of.result shard c.args.key.now c.self.view_is c.requires.over c.shard_of.ensures.shard c.shard_of.ensures.there c.index-shard.ensures in
    let at = c.requires.over.shards c.shard_of.result shard there.0 in
    let laws = stores_add V A (λ m. record { keeps_valid = g.met.F.M.Semigroup.keeps_valid m; associates = g.met.F.M.Semigroup.associates m }) monoids c.args.key.now.store c.requires.store in
    subst (λ o. AllByRecursion (valid_by V o) (values_of c.in-Ok.answer)) c.monoid.ensures
    (answered_valid V A monoids records session.cut c.shard_of.result shard c.args.key.now c.args.upto c.in-Ok.answer c.requires.over.job at.stands c.requires.store laws c.in-Ok.ensures.sums)

pub unreachable-requires : goal.unreachable-requires
unreachable-requires g c =
    let V = g.F.M.Semigroup.valid in
    let A = g.F.M.Semigroup.add in
    let monoids = g.F.Family.monoids c.args.feed.now in
    let records = g.F.Feed.records c.args.feed.now in
    let shard = c.index-shard.result.now in
    let session = c.args.self.now in
    let there = read_there V A monoids records _ session c.shard_of.result shard c.args.key.now c.self.view_is c.requires.over c.shard_of.ensures.shard c.shard_of.ensures.there c.index-shard.ensures in
    let at = c.requires.over.shards c.shard_of.result shard there.0 in
    not_expired c.in-Err-Expired.field-0 _ _ c.args.upto _ session.floor c.in-Err-Expired.field-0-is c.in-Err-Expired.ensures.refused (λ e. c.in-Err-Expired.ensures.expired.0 (ap Err e)) at.floor c.requires.open

pub returns-in-Ok-clause-value : goal.returns-in-Ok-clause-value
returns-in-Ok-clause-value g c =
    let V = g.F.M.Semigroup.valid in
    let A = g.F.M.Semigroup.add in
    let monoids = g.F.Family.monoids c.args.feed.now in
    let records = g.F.Feed.records c.args.feed.now in
    let commute = stores_commute V A (λ m. record {
      semigroup = record { keeps_valid = g.met.F.M.Semigroup.keeps_valid m; associates = g.met.F.M.Semigroup.associates m };
      commutes = g.met.F.M.Commuting.commutes m;
    }) monoids in
    let shard = c.index-shard.result.now in
    let session = c.args.self.now in
    let there = read_there V A monoids records _ session c.shard_of.result shard c.args.key.now c.self.view_is c.requires.over c.shard_of.ensures.shard c.shard_of.ensures.there c.index-shard.ensures in
    let at = c.requires.over.shards c.shard_of.result shard there.0 in
    IfOk-weaker c.merge.result _ _ (λ reading is.
    read_is_fold V A monoids records session c.shard_of.result shard c.args.key.now c.args.upto (values_of c.in-Ok.answer) reading.value commute c.requires.over there.0 there.1 c.in-Ok.ensures.named
    (subst (λ o. reading.value ≡ sum_of (add_by A o) (values_of c.in-Ok.answer)) (sym c.monoid.ensures) is)) c.merge.ensures.value

pub returns-in-Ok-clause-numbers : goal.returns-in-Ok-clause-numbers
returns-in-Ok-clause-numbers g c =
    let V = g.F.M.Semigroup.valid in
    let A = g.F.M.Semigroup.add in
    let monoids = g.F.Family.monoids c.args.feed.now in
    let records = g.F.Feed.records c.args.feed.now in
    let shard = c.index-shard.result.now in
    let session = c.args.self.now in
    let there = read_there V A monoids records _ session c.shard_of.result shard c.args.key.now c.self.view_is c.requires.over c.shard_of.ensures.shard c.shard_of.ensures.there c.index-shard.ensures in
    let at = c.requires.over.shards c.shard_of.result shard there.0 in
    IfOk-weaker c.merge.result _ _ (λ reading numbers.
    (numbers.0 ∙ (c.in-Ok.ensures.sums.published_to ∙ at.published), numbers.1 ∙ (c.in-Ok.ensures.sums.cover ∙ at.cover))) c.merge.ensures.numbers
