use Rattle.std.proofs.Common.{ap, sym, ◌∙◌}
use Rattle.std.proofs.lemmas.Result.{IfOk-weaker}
use Rattle.sb_types.specs.ValView.{val_of}
use Rattle.sb_types.proofs.ValBack.{val_of-value_of}
use Rattle.sb_plan.proofs.making.CopierMaker.make.Goals as goal

pub returns-clause-made : goal.returns-clause-made
returns-clause-made g c = IfOk-weaker c.copied.result _ _ (λ v is. sym (val_of-value_of v) ∙ ap val_of is) c.copied.ensures
