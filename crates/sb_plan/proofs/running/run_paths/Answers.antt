use Rattle.std.proofs.Common.{◌+◌, ◌∷◌, ◌++◌, ap, sym, ◌∙◌, drop, map, arith}
use Rattle.std.specs.List.{sum_by}
use Rattle.std.proofs.lemmas.List.{at_drop_all, drop_more}
use Rattle.std.proofs.lemmas.List.Sums.{sum_by-drop_more}
use Rattle.sb_check.specs.Log.{logged_of}
use Rattle.sb_plan.specs.Paths.{gives, path_gives}
use Rattle.sb_service.specs.Views.{view_service}
use Rattle.sb_types.specs.ValView.{value_of}
use Rattle.sb_plan.proofs.Gives.{one_through}
use Rattle.sb_plan.proofs.RunSteps.{path_runs, paths_behind}
use Rattle.sb_plan.proofs.running.run_paths.Goals as goal

pub loop-path-preserved : goal.loop-path-preserved
loop-path-preserved g c =
    let made = g.M.Maker.made c.args.maker.now in
    let r = logged_of c.args.logged.now in
    let services = map view_service c.args.services.now in
    let lets = map (λ l. map value_of l.items) c.args.lets.now in
    let at = c.loop-path.path-index in
    let path = c.path-item.result in
    let runs = path_runs (g.M.Maker.takes c.args.maker.now) r services lets in
    record {
      made = one_through made (path_gives r services lets) c.run_path.new.out.items c.loop-path.out.items path (drop (at + 1) c.args.paths.now) c.in_ok-run_path.ensures.made
          ∙ (ap (λ paths. c.loop-path.out.items ++ map made (gives paths r services lets)) (ap (λ x. x ∷ drop (at + 1) c.args.paths.now) c.path-item.is ∙ sym (drop_more c.args.paths.now at path c.loop-path-test.true)) ∙ c.loop-path.invariant.made);
      good = λ h. c.in_ok-run_path.ensures.good (c.loop-path.invariant.good h);
      steps = omega (arith, c.in_ok-run_path.ensures.steps, c.loop-path.invariant.steps, sum_by-drop_more runs c.args.paths.now at path c.loop-path-test.true, ap runs c.path-item.is);
    }

pub returns-clause-steps : goal.returns-clause-steps
returns-clause-steps g c =
    let n = g.M.Maker.takes c.args.maker.now in
    let r = logged_of c.args.logged.now in
    let services = map view_service c.args.services.now in
    let lets = map (λ l. map value_of l.items) c.args.lets.now in
    let paths = c.args.paths.now in
    omega (arith, c.loop-path.invariant.steps, at_drop_all (sum_by (path_runs n r services lets)) paths c.loop-path.path-index c.loop-path-test.false, paths_behind n r services lets paths)
