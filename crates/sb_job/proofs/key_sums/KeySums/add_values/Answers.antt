use Rattle.std.proofs.Common.{◌++◌, ◌∷◌, [], subst, append_assoc}
use Rattle.sb_feed.specs.Jobs.{AreValid, meant}
use Rattle.sb_job.specs.Sums.{HasKeySums}
use Rattle.sb_job.proofs.key_sums.KeySums.add_values.Goals as goal

pub loop-key-preserved : goal.loop-key-preserved
loop-key-preserved g c =
    let d = meant g.F.M.Semigroup.valid g.F.M.Semigroup.add (g.F.Family.monoids c.args.family.now) in
    let before = c.loop-key.yielded in
    record {
      valid = c.add.ensures.valid;
      later = (subst (AreValid d) c.in-Some.ensures.steps.0 c.loop-key.invariant.later).1;
      sums = λ values has.
          subst (λ l. HasKeySums d l c.add.new.self) (append_assoc values before ((c.in-Some.key, c.in-Some.value) ∷ []))
          (c.in_ok-add.ensures.sums (values ++ before) (c.loop-key.invariant.sums values has));
    }
