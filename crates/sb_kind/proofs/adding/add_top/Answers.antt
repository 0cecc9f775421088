use Rattle.std.proofs.Common.{◌≡◌, ℤ, ℕ, List, ap, subst, ◌∙◌}
use Rattle.sb_gather.specs.Steps.{StepsBack, TopStepBack}
use Rattle.sb_kind.specs.Elements.{scored_in}
use Rattle.sb_kind.proofs.Undos.{top_back}
use Rattle.sb_kind.proofs.adding.add_top.Goals as goal

pub returns-clause-undone : goal.returns-clause-undone
returns-clause-undone c =
    let before : c.into_scored-items.result ≡ scored_in c.args.a.now = c.into_scored-items.ensures ∙ ap scored_in c.take.ensures in
    let steps = c.in_ok-done.field-0.items in
    let items = c.plus_recorded-done.new.a in (
      c.requires.left.0,
      top_back c.from_vec.result steps items (scored_in c.args.a.now) c.put.new.a c.from_vec.ensures c.put.ensures (subst (StepsBack (TopStepBack {X = ℤ × List ℕ}) steps items) before c.in_ok-done.ensures.undo),
    )
