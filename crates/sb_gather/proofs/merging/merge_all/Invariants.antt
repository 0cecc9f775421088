use Rattle.std.proofs.Common.{◌≡◌, ◌≤◌, List, length, drop}
use Rattle.std.specs.List.{AllByRecursion}
use Rattle.std.specs.Vec.Iter.{into_iter_items}
use Rattle.sb_gather.specs.Entries.{AreEntries, entries_added}
use Rattle.sb_gather.specs.Merges.{turned, IsAfter}
use Rattle.sb_gather.specs.Steps.{StepBack, StepsBack}
use Rattle.sb_gather.proofs.merging.merge_all.Given as goal

abbrev pub invariant-loop-entry : goal.invariant-loop-entry
invariant-loop-entry g l = record {
  added : entries_added (g.D.Ordered.order l.d) (g.D.Joining.joined l.d) (turned l.left l.ring.items) (into_iter_items l.entry-iterator) ≡ entries_added (g.D.Ordered.order l.d) (g.D.Joining.joined l.d) (turned l.fn.left l.fn.ring.items) l.fn.more.items;
  list : AreEntries (g.D.Ordered.order l.d) (g.D.Joining.valid l.d) (turned l.left l.ring.items);
  rest : AreEntries (g.D.Ordered.order l.d) (g.D.Joining.valid l.d) (into_iter_items l.entry-iterator);
  within : l.left ≤ length l.ring.items;
  passed : AllByRecursion (λ entry. IsAfter (g.D.Ordered.order l.d) entry (drop l.left l.ring.items)) (into_iter_items l.entry-iterator);
  undone : (first : List _) → StepsBack (StepBack (g.D.Joining.takes_back l.d)) l.fn.steps.items (turned l.fn.left l.fn.ring.items) first → StepsBack (StepBack (g.D.Joining.takes_back l.d)) l.steps.items (turned l.left l.ring.items) first;
}
