use Rattle.std.proofs.Common.{◌++◌, sym, subst}
use Rattle.std.specs.List.{flat_map}
use Rattle.sb_laws.proofs.Sums.{valid_left, valid_right}
use Rattle.sb_feed.specs.Jobs.{AreValid, meant}
use Rattle.sb_job.specs.Sums.{HasKeySums}
use Rattle.sb_job.proofs.Listed.{own_sums}
use Rattle.sb_offline.specs.Offlines.{kept_by}
use Rattle.sb_offline.proofs.offline.Offline.into_sums.Goals as goal

pub add_values-requires-clause-values : goal.add_values-requires-clause-values
add_values-requires-clause-values g c =
    let d = meant g.F.M.Semigroup.valid g.F.M.Semigroup.add (g.F.Family.monoids c.args.family.now) in
    let h = c.self.inside in
    let kept : AreValid d ((h.base ++ h.waiting.items) ++ flat_map (λ rows. rows) h.rows.items) = subst (λ held. AreValid d (kept_by held)) (sym c.self.view_is) c.requires.kept in
    valid_right _ h.base h.waiting.items (valid_left _ (h.base ++ h.waiting.items) (flat_map (λ rows. rows) h.rows.items) kept)

pub add_values-requires-clause-sums : goal.add_values-requires-clause-sums
add_values-requires-clause-sums g c =
    let d = meant g.F.M.Semigroup.valid g.F.M.Semigroup.add (g.F.Family.monoids c.args.family.now) in
    let h = c.self.inside in
    let kept : AreValid d ((h.base ++ h.waiting.items) ++ flat_map (λ rows. rows) h.rows.items) = subst (λ held. AreValid d (kept_by held)) (sym c.self.view_is) c.requires.kept in
    valid_left _ h.base h.waiting.items (valid_left _ (h.base ++ h.waiting.items) (flat_map (λ rows. rows) h.rows.items) kept)

pub add_lists-requires-clause-lists : goal.add_lists-requires-clause-lists
add_lists-requires-clause-lists g c =
    let d = meant g.F.M.Semigroup.valid g.F.M.Semigroup.add (g.F.Family.monoids c.args.family.now) in
    let h = c.self.inside in
    let kept : AreValid d ((h.base ++ h.waiting.items) ++ flat_map (λ rows. rows) h.rows.items) = subst (λ held. AreValid d (kept_by held)) (sym c.self.view_is) c.requires.kept in
    valid_right _ (h.base ++ h.waiting.items) (flat_map (λ rows. rows) h.rows.items) kept

pub returns-clause-sums : goal.returns-clause-sums
returns-clause-sums g c =
    let d = meant g.F.M.Semigroup.valid g.F.M.Semigroup.add (g.F.Family.monoids c.args.family.now) in
    let h = c.self.inside in
    subst (λ held. HasKeySums d (kept_by held) c.add_lists.new.sums) c.self.view_is
    (c.in_ok-add_lists.ensures.sums (h.base ++ h.waiting.items) (c.in_ok-add_values.ensures.sums h.base (own_sums d h.base c.self.invariant.apart)))
