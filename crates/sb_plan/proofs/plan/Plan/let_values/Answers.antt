use Rattle.std.proofs.Common.{◌≡◌, ◌∙◌, ◌+◌, ◌∷◌, ◌++◌, [], ap, sym, drop, map, arith}
use Rattle.std.proofs.lemmas.List.{drop_more, map-append}
use Rattle.sb_check.specs.Log.{logged_of}
use Rattle.sb_plan.specs.Given.{lets_given}
use Rattle.sb_plan.specs.PathSteps.{paths_cost, steps_behind}
use Rattle.sb_plan.specs.Paths.{gives}
use Rattle.sb_plan.specs.Steps.{lets_steps}
use Rattle.sb_service.specs.Views.{view_service}
use Rattle.sb_types.specs.ValView.{value_of, val_of}
use Rattle.sb_laws.proofs.Positions.{ap_both}
use Rattle.sb_plan.proofs.Gives.{values_back}
use Rattle.sb_plan.proofs.plan.Plan.let_values.Goals as goal

pub loop-plan-preserved : goal.loop-plan-preserved
loop-plan-preserved g c =
    let r = logged_of c.args.logged.now in
    let services = map view_service c.args.services.now in
    let done = map (λ b. map value_of b.items) c.loop-plan.lets.items in
    let at = c.loop-plan.plan-index in
    let plan = c.plan-item.result in
    let plans = c.as_slice-plan-items.result.now in
    let rest = drop (at + 1) plans in
    let next : map (λ b. map value_of b.items) c.push.new.self.items ≡ done ++ gives plan.items r services done ∷ [] =
    ap (map (λ b. map value_of b.items)) c.in_ok-push.ensures.items
    ∙ (map-append (λ b. map value_of b.items) c.loop-plan.lets.items (c.run_paths.new.out ∷ [])
    ∙ ap (λ values. done ++ values ∷ []) (ap (map value_of) (c.in_ok-run_paths.ensures.made ∙ ap_both (λ paths lets. c.new-values.result.items ++ map val_of (gives paths r services (map (λ b. map value_of b.items) lets))) c.deref.ensures.value c.deref-in-loop-plan.ensures.value ∙ ap (λ l. l ++ map val_of (gives plan.items r services done)) c.new-values.ensures.items) ∙ values_back (gives plan.items r services done))) in
    let taken : c.run_paths.new.steps ≡ c.loop-plan.steps + steps_behind 0 (paths_cost plan.items) r services done =
    c.in_ok-run_paths.ensures.steps
    ∙ ap_both (λ paths lets. c.loop-plan.steps + steps_behind 0 (paths_cost paths) r services (map (λ b. map value_of b.items) lets)) c.deref.ensures.value c.deref-in-loop-plan.ensures.value in
    record {
      values = ap (λ lets. lets_given r services lets (map (λ ps. gives ps.items) rest)) next
          ∙ (ap (λ plans. lets_given r services done (map (λ ps. gives ps.items) plans)) (ap (λ x. x ∷ rest) c.plan-item.is ∙ sym (drop_more plans at plan c.loop-plan-test.true)) ∙ c.loop-plan.invariant.values);
      steps = omega (
        arith,
        c.loop-plan.invariant.steps,
        taken,
        ap (λ lets. lets_steps r services lets (map (λ ps. paths_cost ps.items) rest)) next,
        ap (λ plans. lets_steps r services done (map (λ ps. paths_cost ps.items) plans)) (ap (λ x. x ∷ rest) c.plan-item.is ∙ sym (drop_more plans at plan c.loop-plan-test.true)),
      );
    }
