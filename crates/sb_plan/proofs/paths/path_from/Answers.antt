use Rattle.std.proofs.Common.{◌++◌, ◌∷◌, [], ap, ◌∙◌, refl}
use Rattle.sb_plan.specs.PathSteps.{paths_steps}
use Rattle.sb_plan.specs.Paths.{gives}
use Rattle.sb_plan.specs.declared.paths.Path.{Path}
use Rattle.sb_plan.proofs.Gives.{gives_root}
use Rattle.sb_plan.proofs.PathCosts.{steps_root}
use Rattle.sb_plan.proofs.paths.path_from.Goals as goal

pub returns-clause-values : goal.returns-clause-values
returns-clause-values c =
    let path : Path = record { root = c.args.root; stages = c.new.result } in
    ap gives (c.in_ok-push.ensures.items ∙ ap (λ paths. paths ++ path ∷ []) c.in_ok-paths.ensures.items) ∙ gives_root c.args.root path refl c.new.ensures.items

pub returns-clause-steps : goal.returns-clause-steps
returns-clause-steps c =
    let path : Path = record { root = c.args.root; stages = c.new.result } in
    ap paths_steps (c.in_ok-push.ensures.items ∙ ap (λ paths. paths ++ path ∷ []) c.in_ok-paths.ensures.items) ∙ steps_root c.args.root path refl c.new.ensures.items
