use Rattle.std.proofs.Common.{◌≡◌, ℤ, ℕ, List, ap, sym, subst, ◌∙◌}
use Rattle.sb_gather.specs.Steps.{StepsBack, TopStepBack}
use Rattle.sb_kind.specs.Elements.{scored_in}
use Rattle.sb_kind.specs.Undoing.{item_steps}
use Rattle.sb_kind.specs.declared.agg.Agg.{Top}
use Rattle.sb_kind.proofs.undoing.undo_top.Goals as goal

pub returns : goal.returns
returns c earlier h =
    let B = TopStepBack {X = ℤ × List ℕ} in
    let items : c.into_scored-items.result ≡ scored_in c.args.a.now = c.into_scored-items.ensures ∙ ap scored_in c.take.ensures in
    let steps = subst (λ l. StepsBack B l c.into_scored-items.result (scored_in earlier)) (sym c.into_item_steps.ensures) (subst (λ l. StepsBack B (item_steps c.args.undone) l (scored_in earlier)) (sym items) h.1) in
    c.put.ensures ∙ (ap Top (c.undo.ensures (scored_in earlier) steps) ∙ sym h.0)
