-- The steps of values on their way through stages, with what is made of each that comes out.
use Rattle.std.proofs.Common.{◌≡◌, ◌∙◌, ℕ, ◌+◌, ◌*◌, List, [], ◌∷◌, length, ap, arith}
use Rattle.std.specs.Borrow.{Bor}
use Rattle.std.specs.List.{sum_by}
use Rattle.sb_meaning.specs.Expression.{ev}
use Rattle.sb_meaning.specs.Operations.{elements_in}
use Rattle.sb_terms.specs.declared.term.Term.{Term}
use Rattle.sb_types.specs.Value.{Value}
use Rattle.sb_check.specs.Log.{Logged}
use Rattle.sb_service.specs.Rows.{Rows}
use Rattle.sb_plan.specs.Paths.{stage_gives, chain_gives, root_gives, path_gives}
use Rattle.sb_plan.specs.PathSteps.{chain_steps, run_steps, path_steps, paths_cost, steps_behind}
use Rattle.sb_plan.specs.declared.paths.Path.{Path}
use Rattle.sb_plan.specs.declared.paths.Stage.{Stage}
use Rattle.sb_plan.specs.declared.paths.Stage.TheVariants as stage
use Rattle.sb_plan.proofs.PathCosts.{sum_same, sum_behind}

-- so many more for each value that comes out
run_behind : (n : ℕ) (services : List Rows) (stages : List Stage) (v : Value) → run_steps n services stages v ≡ chain_steps services stages v + n * length (chain_gives services stages v)
run_behind n services [] v = omega arith
run_behind n services (s ∷ stages) v =
    let inner = stage_gives services s v in
    let each = sum_same (run_steps n services stages) (λ w. chain_steps services stages w + n * length (chain_gives services stages w)) inner (run_behind n services stages) in
    omega (arith, each, sum_behind (chain_steps services stages) (chain_gives services stages) n inner)

-- a `flatMap` ticks, and then come the steps of the elements
pub elements_counted : (n : ℕ) (services : List Rows) (all rest : List Stage) (by : Bor Term) (v : Value) (before ticked after : ℕ) → all ≡ stage.FlatMap by ∷ rest → ticked ≡ before + 1
    → after ≡ ticked + sum_by (run_steps n services rest) (elements_in (ev by.now v)) → after ≡ before + run_steps n services all v
elements_counted n services all rest by v before ticked after is tick h = omega (arith, tick, h, ap (λ ss. run_steps n services ss v) is)

module _ (n : ℕ) (r : Logged) (services : List Rows) (lets : List (List Value)) where
  -- the steps of a record on a path, as they are taken
  abbrev pub path_runs : Path → ℕ
  path_runs path = sum_by (run_steps n services path.stages.items) (root_gives r lets path.root)

  path_behind : (path : Path) → path_runs path ≡ path_steps path r services lets + n * length (path_gives r services lets path)
  path_behind path =
      sum_same (run_steps n services path.stages.items) (λ w. chain_steps services path.stages.items w + n * length (chain_gives services path.stages.items w)) (root_gives r lets path.root) (run_behind n services path.stages.items)
      ∙ sum_behind (chain_steps services path.stages.items) (chain_gives services path.stages.items) n (root_gives r lets path.root)

  pub paths_behind : (paths : List Path) → sum_by path_runs paths ≡ steps_behind n (paths_cost paths) r services lets
  paths_behind paths =
      sum_same path_runs (λ path. path_steps path r services lets + n * length (path_gives r services lets path)) paths path_behind
      ∙ sum_behind (λ (path : Path). path_steps path r services lets) (path_gives r services lets) n paths
