use Rattle.std.proofs.Common.{◌≡◌, ◌∙◌, Some, None, ap, sym, subst, refl, rules}
use Rattle.std.specs.HashMap.Entry.{entry_value, map_with_value}
use Rattle.std.specs.List.{IsDistinct}
use Rattle.std.specs.Map.{lookup, keys_of}
use Rattle.std.proofs.lemmas.Result.{on_ok_weaker, on_err_weaker}
use Rattle.sb_feed.specs.Jobs.{meant, valid_by, AreValid}
use Rattle.sb_job.specs.Sums.{HasKeySums}
use Rattle.sb_feed.specs.Keys.{same_key}
use Rattle.sb_job.proofs.Growing.{apart, equals, found_valid, put_valid, put_same, sums_with, written_valid}
use Rattle.sb_job.proofs.key_sums.KeySums.add.Goals as goal
use Rattle.sb_job.proofs.key_sums.KeySums.add.Goals.{in-Occupied, in-Vacant}

pub plus-requires-clause-left : goal.plus-requires-clause-left
plus-requires-clause-left g c =
    let d = meant g.F.M.Semigroup.valid g.F.M.Semigroup.add (g.F.Family.monoids c.args.family.now) in
    let found : lookup (equals c.args.key) c.self.inside.sums.entries ≡ Some c.into_mut.result.now = sym c.in_ok-sum.ensures.value ∙ (ap entry_value c.in-Occupied.is ∙ c.into_mut.ensures.value) in
    subst (λ o. valid_by g.F.M.Semigroup.valid o c.into_mut.result.now) c.monoid.ensures
    (found_valid d c.args.key c.self.inside.sums.entries c.into_mut.result.now found (subst (AreValid d) (sym c.self.view_is) c.requires.sums))

pub plus-requires-clause-right : goal.plus-requires-clause-right
plus-requires-clause-right g c = subst (λ o. valid_by g.F.M.Semigroup.valid o c.args.value) c.monoid.ensures c.requires.value

pub returns-clause-valid : goal.returns-clause-valid
returns-clause-valid g c =
    let V = g.F.M.Semigroup.valid in
    let d = meant V g.F.M.Semigroup.add (g.F.Family.monoids c.args.family.now) in
    let before = c.self.inside.sums.entries in
    let valid = subst (AreValid d) (sym c.self.view_is) c.requires.sums in
    elim c.match-branch-2.branch [
      | in-Occupied w ↦
          let is : c.match-branch-2.self-inside.sums ≡ map_with_value c.in_ok-sum.field-0 w.plus.new.a = search rules in
          let found : lookup (equals c.args.key) before ≡ Some w.into_mut.result.now = sym c.in_ok-sum.ensures.value ∙ (ap entry_value w.in-Occupied.is ∙ w.into_mut.ensures.value) in
          let m = w.monoid.result.now in
          let old = subst (λ o. valid_by V o w.into_mut.result.now) w.monoid.ensures (found_valid d c.args.key before w.into_mut.result.now found valid) in
          let right = subst (λ o. valid_by V o c.args.value) w.monoid.ensures c.requires.value in
          let sum = written_valid d (V m) w.plus.result w.plus.new.a _ w.into_mut.result.now w.plus.ensures.ok w.plus.ensures.err
          (g.met.F.M.Semigroup.keeps_valid m w.into_mut.result.now c.args.value old right) old in
          rw is (put_valid d c.args.key w.plus.new.a before (map_with_value c.in_ok-sum.field-0 w.plus.new.a).entries _ (c.in_ok-sum.ensures.update.1 w.plus.new.a) valid
          (c.requires.store, subst (λ o. valid_by V o w.plus.new.a) (sym w.monoid.ensures) sum))
      | in-Vacant w ↦
          let is : c.match-branch-2.self-inside.sums ≡ map_with_value c.in_ok-sum.field-0 c.args.value = search rules in
          rw is (put_valid d c.args.key c.args.value before (map_with_value c.in_ok-sum.field-0 c.args.value).entries _ (c.in_ok-sum.ensures.update.1 c.args.value) valid (c.requires.store, c.requires.value))
    ]

pub returns-clause-sums : goal.returns-clause-sums
returns-clause-sums g c =
    let d = meant g.F.M.Semigroup.valid g.F.M.Semigroup.add (g.F.Family.monoids c.args.family.now) in
    let before = c.self.inside.sums.entries in
    elim c.match-branch-2.branch [
      | in-Occupied w ↦
          let is : c.match-branch-2.self-inside.sums ≡ map_with_value c.in_ok-sum.field-0 w.plus.new.a = search rules in
          let found : lookup (equals c.args.key) before ≡ Some w.into_mut.result.now = sym c.in_ok-sum.ensures.value ∙ (ap entry_value w.in-Occupied.is ∙ w.into_mut.ensures.value) in
          rw (w.result-is, is) (on_ok_weaker w.plus.result (λ e values has. sums_with d c.args.key c.args.value w.plus.new.a before (map_with_value c.in_ok-sum.field-0 w.plus.new.a).entries
          (c.in_ok-sum.ensures.update.0 w.plus.new.a).0 (rw (found, w.monoid.ensures) (ap Some e)) values (subst (HasKeySums d values) (sym c.self.view_is) has)) w.plus.ensures.ok)
      | in-Vacant w ↦
          let is : c.match-branch-2.self-inside.sums ≡ map_with_value c.in_ok-sum.field-0 c.args.value = search rules in
          let none : lookup (equals c.args.key) before ≡ None = rw w.in-Vacant.is at c.in_ok-sum.ensures.found in
          rw (w.result-is, is) (λ values has. sums_with d c.args.key c.args.value c.args.value before (map_with_value c.in_ok-sum.field-0 c.args.value).entries
          (c.in_ok-sum.ensures.update.0 c.args.value).0 (rw none refl) values (subst (HasKeySums d values) (sym c.self.view_is) has))
    ]

pub returns-clause-err : goal.returns-clause-err
returns-clause-err g c =
    let d = meant g.F.M.Semigroup.valid g.F.M.Semigroup.add (g.F.Family.monoids c.args.family.now) in
    let before = c.self.inside.sums.entries in
    elim c.match-branch-2.branch [
      | in-Occupied w ↦
          let is : c.match-branch-2.self-inside.sums ≡ map_with_value c.in_ok-sum.field-0 w.plus.new.a = search rules in
          let found : lookup (equals c.args.key) before ≡ Some w.into_mut.result.now = sym c.in_ok-sum.ensures.value ∙ (ap entry_value w.in-Occupied.is ∙ w.into_mut.ensures.value) in
          rw (w.result-is, is) (on_err_weaker w.plus.result (λ e. put_same d c.args.key w.plus.new.a before (map_with_value c.in_ok-sum.field-0 w.plus.new.a).entries _ (found ∙ ap Some (sym e)) refl
          (c.in_ok-sum.ensures.update.1 w.plus.new.a) ∙ c.self.view_is) w.plus.ensures.err)
      | in-Vacant w ↦ rw w.result-is tt
    ]

pub returns-in_err-sum-clause-apart : goal.returns-in_err-sum-clause-apart
returns-in_err-sum-clause-apart g c =
    let same : c.entry.follows.lender-at-none.entries ≡ c.self.inside.sums.entries = search rules in
    subst (λ es. IsDistinct same_key (keys_of es)) (sym same) (apart _ c.entry.ensures.unique)

pub returns-clause-apart : goal.returns-clause-apart
returns-clause-apart g c =
    elim c.match-branch-2.branch [
      | in-Occupied w ↦
          let is : c.match-branch-2.self-inside.sums ≡ map_with_value c.in_ok-sum.field-0 w.plus.new.a = search rules in
          rw is (apart _ (c.in_ok-sum.ensures.update.2 w.plus.new.a))
      | in-Vacant w ↦
          let is : c.match-branch-2.self-inside.sums ≡ map_with_value c.in_ok-sum.field-0 c.args.value = search rules in
          rw is (apart _ (c.in_ok-sum.ensures.update.2 c.args.value))
    ]
