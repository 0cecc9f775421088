use Rattle.std.proofs.Common.{◌++◌, take, sym, subst, ap, ◌∙◌}
use Rattle.std.specs.List.{flat_map}
use Rattle.sb_laws.specs.Sums.{sum_of}
use Rattle.sb_laws.specs.Tables.{values_at}
use Rattle.sb_laws.proofs.Sums.{valid_left, valid_right}
use Rattle.sb_feed.specs.Keys.{key_order}
use Rattle.sb_feed.specs.Jobs.{AreValid, meant}
use Rattle.sb_job.specs.Sums.{HasKeySums}
use Rattle.sb_job.proofs.Listed.{own_sums}
use Rattle.sb_offline.specs.Offlines.{base_sum, kept_by}
use Rattle.sb_offline.proofs.Settled.{base_same, settled_valid}
use Rattle.sb_offline.proofs.offline.Offline.settle.Goals as goal

pub add_copies-added-requires-clause-values : goal.add_copies-added-requires-clause-values
add_copies-added-requires-clause-values g c =
    let d = meant g.F.M.Semigroup.valid g.F.M.Semigroup.add (g.F.Family.monoids c.args.family.now) in
    let h = c.self.inside in
    let kept : AreValid d ((h.base ++ h.waiting.items) ++ flat_map (λ rows. rows) h.rows.items) = subst (λ held. AreValid d (kept_by held)) (sym c.self.view_is) c.requires.kept in
    rw c.as_slice.ensures.value (valid_right _ h.base h.waiting.items (valid_left _ (h.base ++ h.waiting.items) (flat_map (λ rows. rows) h.rows.items) kept))

pub add_copies-added-requires-clause-sums : goal.add_copies-added-requires-clause-sums
add_copies-added-requires-clause-sums g c =
    let d = meant g.F.M.Semigroup.valid g.F.M.Semigroup.add (g.F.Family.monoids c.args.family.now) in
    let h = c.self.inside in
    let kept : AreValid d ((h.base ++ h.waiting.items) ++ flat_map (λ rows. rows) h.rows.items) = subst (λ held. AreValid d (kept_by held)) (sym c.self.view_is) c.requires.kept in
    valid_left _ h.base h.waiting.items (valid_left _ (h.base ++ h.waiting.items) (flat_map (λ rows. rows) h.rows.items) kept)

pub returns-clause-settled : goal.returns-clause-settled
returns-clause-settled g c =
    let d = meant g.F.M.Semigroup.valid g.F.M.Semigroup.add (g.F.Family.monoids c.args.family.now) in
    let h = c.self.inside in
    let new = c.add_copies-added.new.sums in
    let n = c.add_copies-added.result in
    let has : HasKeySums d (h.base ++ take n h.waiting.items) new =
    subst (λ w. HasKeySums d (h.base ++ take n w) new) c.as_slice.ensures.value (c.add_copies-added.ensures.sums h.base (own_sums d h.base c.self.invariant.apart)) in
    record {
      sums = λ key.
          ap (λ w. sum_of (d.add key.store) (values_at key_order key (new ++ w))) c.drop_first.ensures
          ∙ (base_same d key h.base new h.waiting.items n c.add_copies-added.ensures.apart has
          ∙ ap (λ held. base_sum d.add held key) c.self.view_is);
      rows = ap (λ held. held.rows) c.self.view_is;
      floor = ap (λ held. held.floor) c.self.view_is;
    }

pub returns-clause-valid : goal.returns-clause-valid
returns-clause-valid g c =
    let d = meant g.F.M.Semigroup.valid g.F.M.Semigroup.add (g.F.Family.monoids c.args.family.now) in
    let h = c.self.inside in
    settled_valid d (record { base = h.base; waiting = h.waiting.items; rows = h.rows.items; floor = h.floor }) c.add_copies-added.new.sums c.drop_first.new.list.items c.add_copies-added.result
    (subst (λ held. AreValid d (kept_by held)) (sym c.self.view_is) c.requires.kept) c.add_copies-added.ensures.valid c.drop_first.ensures
