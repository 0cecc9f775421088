use Rattle.std.proofs.Common.{◌++◌, ◌∷◌, [], ap, sym, subst, ◌∙◌, append_assoc}
use Rattle.std.specs.Vec.Iter.{drain_items}
use Rattle.sb_feed.specs.Jobs.{AreValid, meant}
use Rattle.sb_feed.specs.Stands.{keyed_values}
use Rattle.sb_job.specs.Sums.{HasKeySums}
use Rattle.sb_job.proofs.Growing.{keyed_last}
use Rattle.sb_job.proofs.key_sums.KeySums.drain_parts.Goals as goal

pub loop-part-preserved : goal.loop-part-preserved
loop-part-preserved g c =
    let d = meant g.F.M.Semigroup.valid g.F.M.Semigroup.add (g.F.Family.monoids c.args.family.now) in
    let part = c.in-Some.part in
    let before = c.loop-part.yielded in
    let step = c.in-Some.ensures.steps.2 in
    let kept = c.loop-part.invariant.keeps in
    record {
      next = tt;
      finite = tt;
      keeps = (step.0 ∙ kept.0, step.1 ∙ kept.1, step.2 ∙ kept.2);
      valid = c.add.ensures.valid;
      later = (subst (λ parts. AreValid d (keyed_values parts)) c.in-Some.ensures.steps.0 c.loop-part.invariant.later).1;
      split = append_assoc before (part ∷ []) (drain_items c.next.new.self) ∙ (ap (λ l. before ++ l) (sym c.in-Some.ensures.steps.0) ∙ c.loop-part.invariant.split);
      sums = λ values has.
          subst (λ l. HasKeySums d l c.add.new.self)
          (append_assoc values (keyed_values before) ((part.key, part.value) ∷ []) ∙ ap (λ l. values ++ l) (sym (keyed_last before part)))
          (c.in_ok-add.ensures.sums (values ++ keyed_values before) (c.loop-part.invariant.sums values has));
    }
