use Rattle.std.proofs.Common.{◌≡◌, ◌∙◌, Some, ap, sym, subst, refl, rules}
use Rattle.std.specs.Map.{lookup, set_value}
use Rattle.std.specs.Prelude.{is_some}
use Rattle.std.proofs.lemmas.Map.Steps.{set_value_same}
use Rattle.sb_feed.specs.Jobs.{meant, valid_by, AreValid}
use Rattle.sb_job.specs.Sums.{HasKeySums}
use Rattle.sb_job.proofs.Growing.{apart, equals, found_valid, put_valid, sums_with, whatever}
use Rattle.sb_job.proofs.key_sums.KeySums.add_there.Goals as goal
use Rattle.sb_job.proofs.key_sums.KeySums.add_there.Goals.{in-Some+in_ok-plus-in-Some, in-None}

pub plus-requires-clause-left : goal.plus-requires-clause-left
plus-requires-clause-left g c =
    let V = g.F.M.Semigroup.valid in
    let d = meant V g.F.M.Semigroup.add (g.F.Family.monoids c.args.family.now) in
    let key = c.args.key.now in
    let before = c.self.inside.sums.entries in
    let valid = subst (AreValid d) (sym c.self.view_is) c.requires.sums in
    let found : lookup (equals key) before ≡ Some c.in-Some.sum.now = sym c.in-Some.ensures.value in
    subst (λ o. valid_by V o c.in-Some.sum.now) c.monoid.ensures (found_valid d key before c.in-Some.sum.now found valid)

pub returns-in_err-plus-in-Some-clause-valid : goal.returns-in_err-plus-in-Some-clause-valid
returns-in_err-plus-in-Some-clause-valid g c =
    let V = g.F.M.Semigroup.valid in
    let d = meant V g.F.M.Semigroup.add (g.F.Family.monoids c.args.family.now) in
    let key = c.args.key.now in
    let before = c.self.inside.sums.entries in
    let valid = subst (AreValid d) (sym c.self.view_is) c.requires.sums in
    let found : lookup (equals key) before ≡ Some c.in-Some.sum.now = sym c.in-Some.ensures.value in
    let same : (c.get_mut.follows.lender c.plus.new.a).entries ≡ before =
    (c.get_mut.follows.holds c.plus.new.a).0 ∙ (ap (set_value (equals key) before) c.in_err-plus-in-Some.ensures.err ∙ set_value_same (equals key) before c.in-Some.sum.now found) in
    subst (AreValid d) (sym same) valid

pub returns-in_err-plus-in-Some-clause-err : goal.returns-in_err-plus-in-Some-clause-err
returns-in_err-plus-in-Some-clause-err g c =
    let key = c.args.key.now in
    let before = c.self.inside.sums.entries in
    let found : lookup (equals key) before ≡ Some c.in-Some.sum.now = sym c.in-Some.ensures.value in
    let same : (c.get_mut.follows.lender c.plus.new.a).entries ≡ before =
    (c.get_mut.follows.holds c.plus.new.a).0 ∙ (ap (set_value (equals key) before) c.in_err-plus-in-Some.ensures.err ∙ set_value_same (equals key) before c.in-Some.sum.now found) in
    whatever c.from_residual.result (same ∙ c.self.view_is)

pub returns-clause-valid : goal.returns-clause-valid
returns-clause-valid g c =
    let V = g.F.M.Semigroup.valid in
    let d = meant V g.F.M.Semigroup.add (g.F.Family.monoids c.args.family.now) in
    let key = c.args.key.now in
    let before = c.self.inside.sums.entries in
    let valid = subst (AreValid d) (sym c.self.view_is) c.requires.sums in
    elim c.match-get_mut.branch [
      | in-Some+in_ok-plus-in-Some w ↦
          let is : c.match-get_mut.self-inside.sums ≡ c.get_mut.follows.lender w.plus.new.a = search rules in
          let found : lookup (equals key) before ≡ Some w.in-Some.sum.now = sym w.in-Some.ensures.value in
          let m = w.monoid.result.now in
          let old = subst (λ o. valid_by V o w.in-Some.sum.now) w.monoid.ensures (found_valid d key before w.in-Some.sum.now found valid) in
          let right = subst (λ o. valid_by V o c.args.value) w.monoid.ensures c.requires.value in
          let sum = subst (V m) (sym w.in_ok-plus-in-Some.ensures.ok) (g.met.F.M.Semigroup.keeps_valid m w.in-Some.sum.now c.args.value old right) in
          rw is (put_valid d key w.plus.new.a before (c.get_mut.follows.lender w.plus.new.a).entries (Some w.in-Some.sum.now) (c.get_mut.follows.holds w.plus.new.a).0 valid
          (c.requires.store, subst (λ o. valid_by V o w.plus.new.a) (sym w.monoid.ensures) sum))
      | in-None w ↦
          let same : c.match-get_mut.self-inside.sums.entries ≡ before = search rules in
          subst (AreValid d) (sym same) valid
    ]

pub returns-clause-ok : goal.returns-clause-ok
returns-clause-ok g c =
    let V = g.F.M.Semigroup.valid in
    let d = meant V g.F.M.Semigroup.add (g.F.Family.monoids c.args.family.now) in
    let key = c.args.key.now in
    let before = c.self.inside.sums.entries in
    elim c.match-get_mut.branch [
      | in-Some+in_ok-plus-in-Some w ↦
          let is : c.match-get_mut.self-inside.sums ≡ c.get_mut.follows.lender w.plus.new.a = search rules in
          let found : lookup (equals key) before ≡ Some w.in-Some.sum.now = sym w.in-Some.ensures.value in
          let holds = c.get_mut.follows.holds w.plus.new.a in
          rw (w.result-is, is) (record {
            sums = λ values has. sums_with d key c.args.value w.plus.new.a before (c.get_mut.follows.lender w.plus.new.a).entries (holds.3 (ap is_some found)).0
                (rw (found, w.monoid.ensures) (ap Some w.in_ok-plus-in-Some.ensures.ok)) values (subst (HasKeySums d values) (sym c.self.view_is) has);
            apart = apart _ holds.4;
          })
      | in-None w ↦
          let same : c.match-get_mut.self-inside.sums.entries ≡ before = search rules in
          rw w.result-is (refl, same ∙ c.self.view_is)
    ]
