-- What a record costs: one step is the value of the expression of one `map`, `filter` or `flatMap` for one value.
use Rattle.std.specs.Prelude.{ℕ, ◌+◌, List, [], ◌∷◌, ◌++◌, length, map, Option, Some, None}
use Rattle.std.specs.List.{sum_by}
use Rattle.sb_types.specs.Value.{Value}
use Rattle.sb_terms.specs.declared.flow.Flow.{Flow}
use Rattle.sb_terms.specs.declared.flow.Flow.TheOpen as layer
use Rattle.sb_terms.specs.declared.flow.Flow.TheOpen.{Flow-F}
use Rattle.sb_terms.specs.declared.flow.Flow.TheFolds.{fold-Flow, map-Flow}
use Rattle.sb_service.specs.Rows.{Rows}
use Rattle.sb_check.specs.Programs.{CheckedProgram}
use Rattle.sb_plan.specs.Given.{OfRecord, given, given_layer, lets_given}
use Rattle.sb_check.specs.Log.{Logged}

-- how many steps a stream takes for a record, by the rows of each service and by what each let before it gives
abbrev pub Steps : Type 0
Steps = Logged → List Rows → List (List Value) → ℕ

-- what a stream gives, and its steps
abbrev pub Cost : Type 0
Cost = OfRecord × Steps

-- one layer: a stage takes a step for each value before it, and a join none
abbrev pub steps_layer : Flow-F Cost → Steps
steps_layer (layer.Source n) r services lets = 0
steps_layer (layer.Let n) r services lets = 0
steps_layer (layer.Merge a b) r services lets = a.1 r services lets + b.1 r services lets
steps_layer (layer.Map a e) r services lets = a.1 r services lets + length (a.0 r services lets)
steps_layer (layer.Filter a e) r services lets = a.1 r services lets + length (a.0 r services lets)
steps_layer (layer.FlatMap a e) r services lets = a.1 r services lets + length (a.0 r services lets)
steps_layer (layer.Join a n) r services lets = a.1 r services lets

abbrev pub cost_layer : Flow-F Cost → Cost
cost_layer l = (given_layer (map-Flow Cost OfRecord (λ a. a.0) l), steps_layer l)

abbrev pub flow_steps : Flow → Steps
flow_steps f = (fold-Flow Cost cost_layer f).1

-- what a stream gives, and its steps
abbrev pub flow_cost : Flow → Cost
flow_cost f = (given f, flow_steps f)

-- the steps of lets, each once and by those before it
abbrev pub lets_steps : Logged → List Rows → List (List Value) → List Cost → ℕ
lets_steps r services done [] = 0
lets_steps r services done (l ∷ ls) = l.1 r services done + lets_steps r services (done ++ l.0 r services done ∷ []) ls

-- what each let costs, and the steps of each store
pub record Costs : Type 0 where
  pub lets : List Cost
  pub stores : List Steps

-- those of a store, where it is there
abbrev pub steps_by : Option Steps → Steps
steps_by None r services lets = 0
steps_by (Some steps) r services lets = steps r services lets

-- the steps of a record: those of each let once, and those of each store
abbrev pub record_steps : Costs → List Rows → Logged → ℕ
record_steps c services r =
    lets_steps r services [] c.lets + sum_by (λ steps. steps r services (lets_given r services [] (map (λ l. l.0) c.lets))) c.stores

-- those of a program
abbrev pub costs_of : CheckedProgram → Costs
costs_of c = record {
  lets = map (λ l. flow_cost l.stream.flow) c.declared.lets;
  stores = map (λ s. flow_steps s.flow) c.declared.stores;
}
