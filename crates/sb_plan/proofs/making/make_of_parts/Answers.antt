use Rattle.std.proofs.Common.{ap, sym, ◌∙◌}
use Rattle.sb_kind.specs.KindView.{monoid_of}
use Rattle.sb_kind.specs.Prepared.{prepared}
use Rattle.sb_laws.proofs.Positions.{ap_both}
use Rattle.sb_types.specs.ValView.{val_of}
use Rattle.sb_types.proofs.ValBack.{val_of-value_of}
use Rattle.sb_plan.proofs.making.make_of_parts.Goals as goal

pub returns-clause-made : goal.returns-clause-made
returns-clause-made c =
    ap_both (λ text element. (text, element)) (c.text.view_is ∙ c.in_ok-text.ensures)
    (c.in_ok-prepare.ensures.element ∙ ap (prepared (monoid_of c.args.kind.now)) (sym (val_of-value_of c.in_ok-value.value) ∙ ap val_of c.in_ok-value.ensures))
