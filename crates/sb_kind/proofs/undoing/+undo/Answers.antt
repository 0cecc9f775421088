use Rattle.std.proofs.Common.{[], ◌∷◌, ◌++◌, arith, sym, ap, subst, ◌∙◌}
use Rattle.sb_gather.specs.Maps.{ValueBack}
use Rattle.sb_gather.specs.Steps.{StepBack, StepsBack}
use Rattle.sb_gather.proofs.Undoing.{last_step}
use Rattle.sb_kind.specs.Elements.{entries_in}
use Rattle.sb_kind.specs.KindView.{monoid_of}
use Rattle.sb_kind.specs.Undoing.{TakesBack}
use Rattle.sb_kind.specs.declared.agg.Agg.{Map}
use Rattle.sb_kind.proofs.Undos.{map_back, no_step}
use Rattle.sb_kind.proofs.undoing.+undo.Goals as goal

pub take_back-loop-step-preserved : goal.take_back-loop-step-preserved
take_back-loop-step-preserved t c earlier h =
    let B = StepBack (ValueBack (TakesBack (monoid_of c.args.part.now))) in
    let steps : StepsBack B (c.pop.new.self.items ++ c.in-Some.step ∷ []) c.loop-step.list.items earlier = rw c.in-Some.ensures.items at c.loop-step.invariant earlier h in
    let last = last_step B c.pop.new.self.items c.in-Some.step c.loop-step.list.items earlier steps in
    subst (λ l. StepsBack B c.pop.new.self.items l earlier) (sym (c.step_back.ensures last.0 last.1)) last.2

pub take_back-returns : goal.take_back-returns
take_back-returns t c earlier h =
    no_step (StepBack (ValueBack (TakesBack (monoid_of c.args.part.now)))) c.loop-step.steps.items c.loop-step.list.items earlier (omega (arith, c.in_default.ensures.cases.0, c.loop-step.steps.ok.0)) (c.loop-step.invariant earlier h)

pub undo-returns-in-Map : goal.undo-returns-in-Map
undo-returns-in-Map t c earlier h =
    map_back c.args.kind.now c.in-Map.part c.get-in-Map.result.now c.args.undone c.args.a.now earlier c.put.new.a c.into_entry_steps.result.items c.into_entries-list.result.items c.take_back.new.list.items
    c.in-Map.is c.get-in-Map.ensures h c.into_entry_steps.ensures (c.into_entries-list.ensures ∙ ap entries_in c.take.ensures) c.take_back.ensures (c.put.ensures ∙ ap Map c.from_vec.ensures)
