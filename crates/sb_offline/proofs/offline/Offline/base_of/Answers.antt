use Rattle.std.proofs.Common.{◌≡◌, ◌++◌, sym, subst, ap, ◌∙◌}
use Rattle.std.specs.List.{AllByRecursion, flat_map}
use Rattle.std.specs.FinMap.{find}
use Rattle.std.proofs.lemmas.Result.{IfOk-weaker}
use Rattle.sb_laws.specs.Sums.{IsValid, sum_of}
use Rattle.sb_laws.specs.Tables.{values_at}
use Rattle.sb_laws.proofs.Sums.{valid_left, valid_right}
use Rattle.sb_feed.specs.Jobs.{AreValid, meant, valid_by, add_by}
use Rattle.sb_feed.specs.Keys.{key_order}
use Rattle.sb_job.specs.ByBatch.{one_or_none}
use Rattle.sb_job.proofs.Growing.{found_is}
use Rattle.sb_job.proofs.Listed.{found_valid, all_valid}
use Rattle.sb_offline.specs.Offlines.{base_sum, kept_by}
use Rattle.sb_offline.proofs.Settled.{base_found}
use Rattle.sb_offline.proofs.offline.Offline.base_of.Goals as goal

pub with_values-requires-clause-sum : goal.with_values-requires-clause-sum
with_values-requires-clause-sum g c =
    let d = meant g.F.M.Semigroup.valid g.F.M.Semigroup.add (g.F.Family.monoids c.args.family.now) in
    let V = g.F.M.Semigroup.valid in
    let key = c.args.key.now in
    let h = c.self.inside in
    let kept : AreValid d ((h.base ++ h.waiting.items) ++ flat_map (λ rows. rows) h.rows.items) = subst (λ held. AreValid d (kept_by held)) (sym c.self.view_is) c.requires.kept in
    let base = valid_left _ h.base h.waiting.items (valid_left _ (h.base ++ h.waiting.items) (flat_map (λ rows. rows) h.rows.items) kept) in
    let is : c.in_ok-sum.sum ≡ find key_order key h.base = c.in_ok-sum.ensures ∙ found_is c.get.result (find key_order key h.base) c.get.ensures in
    subst (λ o. IsValid (valid_by V o) c.in_ok-sum.sum) c.monoid-m.ensures (subst (IsValid (d.valid key.store)) (sym is) (found_valid d key h.base base))

pub with_values-requires-clause-values : goal.with_values-requires-clause-values
with_values-requires-clause-values g c =
    let d = meant g.F.M.Semigroup.valid g.F.M.Semigroup.add (g.F.Family.monoids c.args.family.now) in
    let V = g.F.M.Semigroup.valid in
    let key = c.args.key.now in
    let h = c.self.inside in
    let kept : AreValid d ((h.base ++ h.waiting.items) ++ flat_map (λ rows. rows) h.rows.items) = subst (λ held. AreValid d (kept_by held)) (sym c.self.view_is) c.requires.kept in
    let waiting = valid_right _ h.base h.waiting.items (valid_left _ (h.base ++ h.waiting.items) (flat_map (λ rows. rows) h.rows.items) kept) in
    rw c.as_slice.ensures.value (subst (λ o. AllByRecursion (valid_by V o) (values_at key_order key h.waiting.items)) c.monoid-m.ensures (all_valid d key h.waiting.items waiting))

pub returns : goal.returns
returns g c =
    let d = meant g.F.M.Semigroup.valid g.F.M.Semigroup.add (g.F.Family.monoids c.args.family.now) in
    let A = g.F.M.Semigroup.add in
    let key = c.args.key.now in
    let h = c.self.inside in
    let is : c.in_ok-sum.sum ≡ find key_order key h.base = c.in_ok-sum.ensures ∙ found_is c.get.result (find key_order key h.base) c.get.ensures in
    IfOk-weaker c.with_values.result _ _ (λ base e.
    subst (λ o. base ≡ sum_of (add_by A o) (one_or_none c.in_ok-sum.sum ++ values_at key_order key c.as_slice.result.now)) (sym c.monoid-m.ensures) e
    ∙ (ap (λ l. sum_of (d.add key.store) (one_or_none c.in_ok-sum.sum ++ values_at key_order key l)) c.as_slice.ensures.value
    ∙ (base_found d key h.base h.waiting.items c.in_ok-sum.sum c.self.invariant.apart is
    ∙ ap (λ held. base_sum d.add held key) c.self.view_is))) c.with_values.ensures
