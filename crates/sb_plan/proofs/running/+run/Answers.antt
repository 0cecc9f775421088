use Rattle.std.proofs.Common.{◌≡◌, ◌∷◌, ◌+◌, ◌++◌, ◌∙◌, ap, sym, subst, map}
use Rattle.std.specs.Prelude.{OnOk}
use Rattle.std.proofs.lemmas.Result.{on_ok_weaker}
use Rattle.std.specs.List.{flat_map, sum_by}
use Rattle.sb_meaning.specs.Expression.{ev}
use Rattle.sb_meaning.specs.Its.{it_value}
use Rattle.sb_meaning.specs.Operations.{elements_in}
use Rattle.sb_plan.specs.Paths.{chain_gives}
use Rattle.sb_plan.specs.PathSteps.{run_steps}
use Rattle.sb_plan.specs.declared.paths.Stage.TheVariants as stage
use Rattle.sb_service.specs.Views.{view_service}
use Rattle.sb_plan.proofs.Gives.{ev_parts}
use Rattle.sb_plan.proofs.RunSteps.{elements_counted}
use Rattle.sb_plan.proofs.running.+run.Goals as goal

pub run_elements-returns-in-List-clause-made : goal.run_elements-returns-in-List-clause-made
run_elements-returns-in-List-clause-made g t c =
    let v = it_value c.args.it in
    subst
    (λ vs. OnOk c.run_parts.result (c.run_parts.new.out.items ≡ c.args.out.now.items ++ map (g.M.Maker.made c.args.maker.now) (flat_map (chain_gives (map view_service c.args.services.now) c.args.stages.now) vs)))
    (ap (map (λ e. ev e v)) c.as_slice.ensures ∙ sym (ap (λ e. elements_in (ev e v)) c.in-List.is ∙ ev_parts c.in-List.parts v)) c.run_parts.ensures.made

pub run_elements-returns-in-List-clause-steps : goal.run_elements-returns-in-List-clause-steps
run_elements-returns-in-List-clause-steps g t c =
    let v = it_value c.args.it in
    subst
    (λ vs. OnOk c.run_parts.result (c.run_parts.new.steps ≡ c.args.steps.now + sum_by (run_steps (g.M.Maker.takes c.args.maker.now) (map view_service c.args.services.now) c.args.stages.now) vs))
    (ap (map (λ e. ev e v)) c.as_slice.ensures ∙ sym (ap (λ e. elements_in (ev e v)) c.in-List.is ∙ ev_parts c.in-List.parts v)) c.run_parts.ensures.steps

pub run-returns-in-FlatMap-clause-steps : goal.run-returns-in-FlatMap-clause-steps
run-returns-in-FlatMap-clause-steps g t c =
    let v = it_value c.args.it in
    let is : c.args.stages.now ≡ c.in-Some.stage.now ∷ c.in-Some.rest.now = c.in-Some.ensures.cases.0 in
    let by : c.in-Some.stage.now ≡ stage.FlatMap c.in-FlatMap.by = c.in-FlatMap.is in
    on_ok_weaker c.run_elements.result
    (λ e. elements_counted (g.M.Maker.takes c.args.maker.now) (map view_service c.args.services.now) c.args.stages.now c.in-Some.rest.now c.in-FlatMap.by v c.args.steps.now c.tick-in-FlatMap.new.self c.run_elements.new.steps (is ∙ ap (λ s. s ∷ c.in-Some.rest.now) by) c.tick-in-FlatMap.ensures e)
    c.run_elements.ensures.steps
