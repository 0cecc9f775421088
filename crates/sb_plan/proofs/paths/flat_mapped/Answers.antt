use Rattle.std.proofs.Common.{◌≡◌, ◌∙◌}
use Rattle.std.proofs.lemmas.Result.{IfOk-weaker}
use Rattle.sb_plan.specs.Paths.{gives, staged}
use Rattle.sb_plan.specs.declared.paths.Stage.TheVariants as stage
use Rattle.sb_plan.proofs.Gives.{flat_map_staged}
use Rattle.sb_plan.proofs.paths.flat_mapped.Goals as goal

pub returns-clause-values : goal.returns-clause-values
returns-clause-values c = IfOk-weaker c.staged.result (λ paths. gives paths.items ≡ staged (stage.FlatMap c.args.by) (gives c.args.before.items)) _ (λ paths is. is ∙ flat_map_staged c.args.by (gives c.args.before.items)) c.staged.ensures.values

pub returns-clause-steps : goal.returns-clause-steps
returns-clause-steps c = c.staged.ensures.steps
