use Rattle.std.proofs.Common.{◌≡◌}
use Rattle.std.specs.List.{AllByRecursion}
use Rattle.std.specs.Vec.Iter.{into_iter_items}
use Rattle.sb_gather.specs.Entries.{AreEntries, entries_added}
use Rattle.sb_gather.specs.Steps.{StepBack, StepsBack}
use Rattle.sb_gather.proofs.entries.add_entries.Given as goal

abbrev pub invariant-loop-entry : goal.invariant-loop-entry
invariant-loop-entry g l = record {
  added : entries_added (g.D.Ordered.order l.d) (g.D.Joining.joined l.d) l.list.items (into_iter_items l.entry-iterator) ≡ entries_added (g.D.Ordered.order l.d) (g.D.Joining.joined l.d) l.fn.list.items l.fn.more.items;
  list : AreEntries (g.D.Ordered.order l.d) (g.D.Joining.valid l.d) l.list.items;
  rest : AllByRecursion (g.D.Joining.valid l.d) (into_iter_items l.entry-iterator);
  undone : StepsBack (StepBack (g.D.Joining.takes_back l.d)) l.steps.items l.list.items l.fn.list.items;
}
