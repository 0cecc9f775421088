use Rattle.std.proofs.Common.{◌≡◌, ◌+◌, ◌++◌, drop, map}
use Rattle.std.specs.List.{AllByRecursion, sum_by}
use Rattle.sb_check.specs.Log.{logged_of}
use Rattle.sb_plan.specs.Paths.{gives}
use Rattle.sb_service.specs.Views.{view_service}
use Rattle.sb_types.specs.ValView.{value_of}
use Rattle.sb_plan.proofs.RunSteps.{path_runs}
use Rattle.sb_plan.proofs.running.run_paths.Given as goal

abbrev pub invariant-loop-path : goal.invariant-loop-path
invariant-loop-path g l = record {
  made : l.out.items ++ map (g.M.Maker.made l.maker) (gives (drop l.path-index l.paths) (logged_of l.logged) (map view_service l.services) (map (λ b. map value_of b.items) l.lets))
      ≡ l.fn.out.items ++ map (g.M.Maker.made l.maker) (gives l.paths (logged_of l.logged) (map view_service l.services) (map (λ b. map value_of b.items) l.lets));
  good : AllByRecursion (g.M.Maker.good l.maker) l.fn.out.items → AllByRecursion (g.M.Maker.good l.maker) l.out.items;
  steps : l.steps + sum_by (path_runs (g.M.Maker.takes l.maker) (logged_of l.logged) (map view_service l.services) (map (λ b. map value_of b.items) l.lets)) (drop l.path-index l.paths)
      ≡ l.fn.steps + sum_by (path_runs (g.M.Maker.takes l.maker) (logged_of l.logged) (map view_service l.services) (map (λ b. map value_of b.items) l.lets)) l.paths;
}
