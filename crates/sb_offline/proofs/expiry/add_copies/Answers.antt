use Rattle.std.proofs.Common.{◌≡◌, ◌++◌, ◌∷◌, [], false, take, ap, sym, subst, ◌∙◌, append_assoc, arith}
use Rattle.std.specs.Prelude.{is_err}
use Rattle.std.proofs.lemmas.List.{drop_more, take_more}
use Rattle.sb_feed.specs.Jobs.{AreValid, meant}
use Rattle.sb_job.specs.Sums.{HasKeySums}
use Rattle.sb_offline.proofs.Settled.{holds}
use Rattle.sb_offline.proofs.expiry.add_copies.Goals as goal

pub loop-key-preserved : goal.loop-key-preserved
loop-key-preserved g c =
    let d = meant g.F.M.Semigroup.valid g.F.M.Semigroup.add (g.F.Family.monoids c.args.family.now) in
    let i = c.loop-key.key-index in
    let values = c.args.values.now in
    let item = c.loop-key-item.result in
    let ok : is_err c.add_copy.result ≡ false = sym c.is_err.ensures.value ∙ c.if-is_err.false in
    record {
      added = omega (arith, c.loop-key.invariant.added);
      valid = c.add_copy.ensures.valid;
      apart = holds c.add_copy.result ok c.add_copy.ensures.apart;
      later = (subst (AreValid d) (drop_more values i item c.loop-key-test.true) c.loop-key.invariant.later).1;
      sums = λ before has.
          subst (λ l. HasKeySums d l c.add_copy.new.self)
          (append_assoc before (take i values) (item ∷ []) ∙ ap (λ l. before ++ l) (ap (λ x. take i values ++ x ∷ []) c.loop-key-item.is ∙ sym (take_more values i item c.loop-key-test.true)))
          (holds c.add_copy.result ok c.add_copy.ensures.sums (before ++ take i values) (c.loop-key.invariant.sums before has));
    }
