use Rattle.std.proofs.Common.{◌≡◌, ◌++◌, ap, sym, ◌∙◌}
use Rattle.std.proofs.lemmas.Result.{IfOk-weaker}
use Rattle.sb_terms.specs.declared.flow.Flow.TheVariants as flow
use Rattle.sb_plan.specs.Given.{given}
use Rattle.sb_plan.specs.PathSteps.{paths_cost, paths_steps, steps_behind}
use Rattle.sb_plan.specs.Paths.{gives}
use Rattle.sb_plan.specs.Steps.{flow_steps}
use Rattle.sb_plan.proofs.Gives.{flat_by, given_flat_map}
use Rattle.sb_plan.proofs.PathCosts.{behind_flow, flow-Filter, flow-FlatMap, flow-Map, merged_flow}
use Rattle.sb_plan.proofs.paths.+paths.Goals as goal

pub returns-in_ok-paths-in-FlatMap-clause-values : goal.returns-in_ok-paths-in-FlatMap-clause-values
returns-in_ok-paths-in-FlatMap-clause-values t c =
    let by = c.in-FlatMap.by in
    let before = c.in-FlatMap.before in
    IfOk-weaker c.flat_mapped.result (λ paths. gives paths.items ≡ flat_by by (gives c.in_ok-paths-in-FlatMap.field-0.items)) _ (λ paths is.
    is ∙ (ap (flat_by by) (c.in_ok-paths-in-FlatMap.ensures.values ∙ ap given c.get-in-FlatMap.ensures) ∙ (sym (given_flat_map before by) ∙ ap given (sym c.in-FlatMap.is)))) c.flat_mapped.ensures.values

pub returns-in_ok-paths-in-Map-clause-steps : goal.returns-in_ok-paths-in-Map-clause-steps
returns-in_ok-paths-in-Map-clause-steps t c =
    let by = c.in-Map.by in
    let before = c.in-Map.before in
    let ps = c.in_ok-paths-in-Map.field-0.items in
    IfOk-weaker c.mapped.result (λ paths. paths_steps paths.items ≡ steps_behind 1 (paths_cost ps)) _ (λ paths is.
    is ∙ (behind_flow 1 ps c.get-in-Map.result.now before (flow.Map before by) c.in_ok-paths-in-Map.ensures.values c.in_ok-paths-in-Map.ensures.steps c.get-in-Map.ensures (flow-Map before by)
    ∙ ap flow_steps (sym c.in-Map.is))) c.mapped.ensures.steps

pub returns-in_ok-paths-in-Filter-clause-steps : goal.returns-in_ok-paths-in-Filter-clause-steps
returns-in_ok-paths-in-Filter-clause-steps t c =
    let by = c.in-Filter.by in
    let before = c.in-Filter.before in
    let ps = c.in_ok-paths-in-Filter.field-0.items in
    IfOk-weaker c.filtered.result (λ paths. paths_steps paths.items ≡ steps_behind 1 (paths_cost ps)) _ (λ paths is.
    is ∙ (behind_flow 1 ps c.get-in-Filter.result.now before (flow.Filter before by) c.in_ok-paths-in-Filter.ensures.values c.in_ok-paths-in-Filter.ensures.steps c.get-in-Filter.ensures (flow-Filter before by)
    ∙ ap flow_steps (sym c.in-Filter.is))) c.filtered.ensures.steps

pub returns-in_ok-paths-in-FlatMap-clause-steps : goal.returns-in_ok-paths-in-FlatMap-clause-steps
returns-in_ok-paths-in-FlatMap-clause-steps t c =
    let by = c.in-FlatMap.by in
    let before = c.in-FlatMap.before in
    let ps = c.in_ok-paths-in-FlatMap.field-0.items in
    IfOk-weaker c.flat_mapped.result (λ paths. paths_steps paths.items ≡ steps_behind 1 (paths_cost ps)) _ (λ paths is.
    is ∙ (behind_flow 1 ps c.get-in-FlatMap.result.now before (flow.FlatMap before by) c.in_ok-paths-in-FlatMap.ensures.values c.in_ok-paths-in-FlatMap.ensures.steps c.get-in-FlatMap.ensures (flow-FlatMap before by)
    ∙ ap flow_steps (sym c.in-FlatMap.is))) c.flat_mapped.ensures.steps

pub returns-in_ok-right-in-Merge-clause-steps : goal.returns-in_ok-right-in-Merge-clause-steps
returns-in_ok-right-in-Merge-clause-steps t c =
    let a = c.in_ok-left-in-Merge.left.items in
    let b = c.in_ok-right-in-Merge.right.items in
    IfOk-weaker c.both.result (λ paths. paths.items ≡ a ++ b) _ (λ paths is.
    ap paths_steps is
    ∙ (merged_flow a b c.get.result.now c.get-in-Merge.result.now c.in-Merge.left c.in-Merge.right c.in_ok-left-in-Merge.ensures.steps c.get.ensures c.in_ok-right-in-Merge.ensures.steps c.get-in-Merge.ensures
    ∙ ap flow_steps (sym c.in-Merge.is))) c.both.ensures
