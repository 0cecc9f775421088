use Rattle.std.proofs.Common.{◌∙◌, ℕ, ◌+◌, List, ap, add-one, sym, subst, map, arith}
use Rattle.std.specs.Prelude.{IsTrue}
use Rattle.std.specs.FinMap.{is_sorted}
use Rattle.std.specs.List.{AllByRecursion, sum_by}
use Rattle.std.proofs.lemmas.List.{take_all}
use Rattle.sb_check.specs.Log.{logged_of}
use Rattle.sb_check.specs.OnlineView.{online_of}
use Rattle.sb_feed.specs.Keys.{key_order}
use Rattle.sb_plan.specs.Given.{fed_at, planned}
use Rattle.sb_plan.specs.Parts.{parts_below, with_fed}
use Rattle.sb_plan.specs.PathSteps.{plan_costs}
use Rattle.sb_plan.specs.Runners.{plus_at, valid_at}
use Rattle.sb_plan.specs.Steps.{Steps}
use Rattle.sb_service.specs.Views.{view_service}
use Rattle.sb_types.specs.ValView.{value_of}
use Rattle.sb_plan.proofs.Found.{rising_below}
use Rattle.sb_plan.proofs.RecordSteps.{many_stores, store_counted}
use Rattle.sb_plan.proofs.Runs.{more_hold, same_count}
use Rattle.sb_plan.proofs.emitting.add_stores.Goals as goal

pub add_store-requires-clause-rising : goal.add_store-requires-clause-rising
add_store-requires-clause-rising g c =
    let p = online_of c.args.o.now in
    let fed = λ (store : ℕ). fed_at (planned p) (map view_service c.args.services.now) store (logged_of c.args.logged.now) in
    subst (λ parts. IsTrue (is_sorted key_order parts)) (sym c.loop-store.invariant.value) (rising_below (plus_at p) fed c.loop-store.store)

pub loop-store-preserved : goal.loop-store-preserved
loop-store-preserved g c =
    let p = online_of c.args.o.now in
    let fed = λ (store : ℕ). fed_at (planned p) (map view_service c.args.services.now) store (logged_of c.args.logged.now) in
    let store = c.loop-store.store in
    record {
      within = omega (arith, c.loop-store-test.true);
      value = c.in_ok-add_store.ensures.value ∙ (ap (with_fed (plus_at p store) store (fed store)) c.loop-store.invariant.value ∙ ap (parts_below (plus_at p) fed) (sym (add-one store)));
      fed = more_hold (λ (s : ℕ). AllByRecursion (λ x. valid_at p s x.1) (fed s)) store c.loop-store.invariant.fed c.in_ok-add_store.ensures.fed;
      valid = c.in_ok-add_store.ensures.valid;
      steps = store_counted (logged_of c.args.logged.now) (map view_service c.args.services.now) (map (λ l. map value_of l.items) c.args.lets.now) (plan_costs c.args.plan.now).stores store _ _ _ c.loop-store.invariant.steps
          c.in_ok-add_store.ensures.steps;
    }

pub returns-clause-steps : goal.returns-clause-steps
returns-clause-steps g c =
    let p = online_of c.args.o.now in
    let stores = (plan_costs c.args.plan.now).stores in
    let lets = map (λ l. map value_of l.items) c.args.lets.now in
    let all = take_all c.loop-store.store stores (omega (arith, c.loop-store-test.false, same_count p c.args.stores.now c.requires.stores, many_stores p c.args.plan.now c.requires.plan)) in
    c.loop-store.invariant.steps ∙ ap (λ (stores : List Steps). c.args.steps.now + sum_by (λ store. store (logged_of c.args.logged.now) (map view_service c.args.services.now) lets) stores) all
