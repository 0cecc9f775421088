-- The steps of paths and of plans.
use Rattle.std.specs.Prelude.{ℕ, ◌+◌, ◌*◌, List, [], ◌∷◌, length, map}
use Rattle.std.specs.List.{sum_by}
use Rattle.sb_types.specs.Value.{Value}
use Rattle.sb_service.specs.Rows.{Rows}
use Rattle.sb_plan.specs.Paths.{stage_gives, root_gives, gives}
use Rattle.sb_plan.specs.Steps.{Steps, Cost, Costs}
use Rattle.sb_plan.specs.declared.making.Ending.{Ending}
use Rattle.sb_plan.specs.declared.making.Ending.TheVariants as ending
use Rattle.sb_plan.specs.declared.paths.Path.{Path}
use Rattle.sb_plan.specs.declared.paths.Stage.{Stage}
use Rattle.sb_plan.specs.declared.paths.Stage.TheVariants as stage
use Rattle.sb_plan.specs.declared.plan.Plan.{Plan}
use Rattle.sb_plan.specs.declared.plan.StorePlan.{StorePlan}

-- a stage takes a step for a value, and a join none
abbrev pub stage_steps : Stage → ℕ
stage_steps (stage.Map e) = 1
stage_steps (stage.Filter e) = 1
stage_steps (stage.FlatMap e) = 1
stage_steps (stage.Join n) = 0

-- the steps of a value on its way through stages
abbrev pub chain_steps : List Rows → List Stage → Value → ℕ
chain_steps services [] v = 0
chain_steps services (s ∷ stages) v = stage_steps s + sum_by (chain_steps services stages) (stage_gives services s v)

-- and with so many more for each value that comes out, which what is made of it takes
abbrev pub run_steps : ℕ → List Rows → List Stage → Value → ℕ
run_steps n services [] v = n
run_steps n services (s ∷ stages) v = stage_steps s + sum_by (run_steps n services stages) (stage_gives services s v)

abbrev pub path_steps : Path → Steps
path_steps path r services lets = sum_by (chain_steps services path.stages.items) (root_gives r lets path.root)

-- the steps of paths, one after the other
abbrev pub paths_steps : List Path → Steps
paths_steps paths r services lets = sum_by (λ path. path_steps path r services lets) paths

-- a last stage that makes a pair takes a step for a value, whoever makes its parts
abbrev pub ending_steps : Ending → ℕ
ending_steps ending.Pair = 0
ending_steps (ending.Split key value) = 1

abbrev pub paths_cost : List Path → Cost
paths_cost paths = (gives paths, paths_steps paths)

-- the steps of what stands before some steps more for each value
abbrev pub steps_behind : ℕ → Cost → Steps
steps_behind n before r services lets = before.1 r services lets + n * length (before.0 r services lets)

abbrev pub store_steps : StorePlan → Steps
store_steps p = steps_behind (ending_steps p.feeder.ending) (paths_cost p.paths.items)

-- what each let of a plan costs, and the steps of each store
abbrev pub plan_costs : Plan → Costs
plan_costs p = record { lets = map (λ ps. paths_cost ps.items) p.lets.items; stores = map store_steps p.stores.items }
