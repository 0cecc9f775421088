use Rattle.std.proofs.Common.{◌++◌, ◌∷◌, [], map, ap, sym, subst, ◌∙◌, append_assoc}
use Rattle.std.specs.List.{AllByRecursion}
use Rattle.std.specs.Vec.Iter.{drain_items}
use Rattle.sb_job.specs.Sums.{HasKeySums}
use Rattle.sb_run.specs.Batching.{IsFedTo, keyed, stores}
use Rattle.sb_run.proofs.Lists.{map-last}
use Rattle.sb_run.proofs.summing.add_fed.Goals as goal

pub loop-one-preserved : goal.loop-one-preserved
loop-one-preserved c =
    let one = c.in-Some.one in
    let before = c.loop-one.yielded in
    let key = keyed c.args.store in
    let step = c.in-Some.ensures.steps.2 in
    let kept = c.loop-one.invariant.keeps in
    record {
      next = tt;
      finite = tt;
      keeps = (step.0 ∙ kept.0, step.1 ∙ kept.1, step.2 ∙ kept.2);
      valid = c.add.ensures.valid;
      later = (subst (AllByRecursion (IsFedTo c.args.runner.now c.args.store)) c.in-Some.ensures.steps.0 c.loop-one.invariant.later).1;
      split = append_assoc before (one ∷ []) (drain_items c.next.new.self) ∙ (ap (λ l. before ++ l) (sym c.in-Some.ensures.steps.0) ∙ c.loop-one.invariant.split);
      sums = λ values has.
          subst (λ l. HasKeySums (stores c.args.runner.now) l c.add.new.self)
          (append_assoc values (map key before) (key one ∷ []) ∙ ap (λ l. values ++ l) (sym (map-last key before one)))
          (c.in_ok-add.ensures.sums (values ++ map key before) (c.loop-one.invariant.sums values has));
    }
