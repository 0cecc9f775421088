use Rattle.std.proofs.Common.{◌≡◌, ◌+◌, ◌++◌, ◌∙◌, List, add-one, append_assoc, ap, sym, subst, map, length, arith}
use Rattle.std.specs.Prelude.{slice_get}
use Rattle.std.specs.List.{sum_by}
use Rattle.std.proofs.lemmas.List.{length-map, take_all}
use Rattle.sb_check.specs.CheckedView.{checked_of}
use Rattle.sb_check.specs.Log.{logged_of}
use Rattle.sb_feed.specs.Jobs.{AreValid}
use Rattle.sb_job.specs.Sums.{HasKeySums}
use Rattle.sb_plan.specs.Given.{fed_at, feeding_of, planned}
use Rattle.sb_plan.specs.PathSteps.{plan_costs}
use Rattle.sb_plan.specs.Steps.{Steps, steps_by}
use Rattle.sb_plan.proofs.RecordSteps.{many_stores, record_counted, store_counted}
use Rattle.sb_service.specs.Views.{view_service}
use Rattle.sb_types.specs.ValView.{value_of}
use Rattle.sb_run.specs.Batching.{keyed, stores, values_below}
use Rattle.sb_run.proofs.Batches.{many_planned}
use Rattle.sb_run.proofs.Summed.{both_valid}
use Rattle.sb_run.proofs.summing.add_record.Goals as goal

pub loop-store-preserved : goal.loop-store-preserved
loop-store-preserved g c =
    let p = planned (checked_of c.args.c.now) in
    let services = map view_service c.args.services.now in
    let r = logged_of c.args.logged.now in
    let store = c.loop-store.store in
    record {
      none = c.in_ok-add_store.ensures.none;
      within = omega (arith, c.loop-store-test.true, c.stores-store-end.ensures);
      valid = c.in_ok-add_store.ensures.valid;
      fed = subst (λ n. AreValid (stores c.args.runner.now) (values_below p services r n)) (sym (add-one store))
          (both_valid (stores c.args.runner.now) (values_below p services r store) (map (keyed store) (fed_at p services store r)) c.loop-store.invariant.fed c.in_ok-add_store.ensures.fed);
      sums = λ values has.
          subst (λ l. HasKeySums (stores c.args.runner.now) l c.add_store.new.sums)
          (append_assoc values (values_below p services r store) (map (keyed store) (fed_at p services store r)) ∙ ap (λ n. values ++ values_below p services r n) (sym (add-one store)))
          (c.in_ok-add_store.ensures.sums (values ++ values_below p services r store) (c.loop-store.invariant.sums values has));
      counted = store_counted r services (map (λ l. map value_of l.items) c.in_ok-lets.lets.items) (plan_costs c.args.plan.now).stores store _ _ _ c.loop-store.invariant.counted
          (subst (λ lets. c.add_store.new.steps ≡ c.loop-store.steps + steps_by (slice_get (plan_costs c.args.plan.now).stores store) r services (map (λ l. map value_of l.items) lets)) c.deref.ensures.value
          c.in_ok-add_store.ensures.counted);
    }

pub returns-clause-sums : goal.returns-clause-sums
returns-clause-sums g c =
    let p = planned (checked_of c.args.c.now) in
    let services = map view_service c.args.services.now in
    let r = logged_of c.args.logged.now in
    let count = many_planned (checked_of c.args.c.now) c.args.runner.now c.requires.stores in
    let all : c.loop-store.store ≡ length p.stores = omega (arith, c.loop-store-test.false, c.loop-store.invariant.within, c.stores-store-end.ensures, count) in
    λ values has. subst (λ n. HasKeySums (stores c.args.runner.now) (values ++ values_below p services r n) c.loop-store.sums) all (c.loop-store.invariant.sums values has)

pub returns-clause-fed : goal.returns-clause-fed
returns-clause-fed g c =
    let p = planned (checked_of c.args.c.now) in
    let services = map view_service c.args.services.now in
    let r = logged_of c.args.logged.now in
    let count = many_planned (checked_of c.args.c.now) c.args.runner.now c.requires.stores in
    let all : c.loop-store.store ≡ length p.stores = omega (arith, c.loop-store-test.false, c.loop-store.invariant.within, c.stores-store-end.ensures, count) in
    subst (λ n. AreValid (stores c.args.runner.now) (values_below p services r n)) all c.loop-store.invariant.fed

pub returns-clause-counted : goal.returns-clause-counted
returns-clause-counted g c =
    let p = checked_of c.args.c.now in
    let services = map view_service c.args.services.now in
    let r = logged_of c.args.logged.now in
    let lets = map (λ l. map value_of l.items) c.in_ok-lets.lets.items in
    let stores = (plan_costs c.args.plan.now).stores in
    let count = many_planned p c.args.runner.now c.requires.stores in
    let all = take_all c.loop-store.store stores (omega (arith, c.loop-store-test.false, c.stores-store-end.ensures, count, length-map p.declared.stores feeding_of, many_stores p c.args.plan.now c.requires.plan)) in
    record_counted c.args.plan.now services r lets c.args.steps.now c.let_values.new.steps c.loop-store.steps c.in_ok-lets.ensures.values c.in_ok-lets.ensures.steps
    (c.loop-store.invariant.counted ∙ ap (λ (stores : List Steps). c.let_values.new.steps + sum_by (λ store. store r services lets) stores) all)
