use Rattle.std.proofs.Common.{◌≡◌, ◌≤◌, List, length, drop}
use Rattle.std.specs.List.{AllByRecursion}
use Rattle.std.specs.Vec.Iter.{into_iter_items}
use Rattle.sb_gather.specs.Entries.{AreEntries, entries_added}
use Rattle.sb_gather.specs.Maps.{by_key, values_added, ValueBack}
use Rattle.sb_gather.specs.Merges.{turned, IsAfter}
use Rattle.sb_gather.specs.Steps.{StepBack, StepsBack}
use Rattle.sb_kind.specs.Elements.{IsOf, plus, val_cmp}
use Rattle.sb_kind.specs.KindView.{monoid_of}
use Rattle.sb_kind.specs.Undoing.{TakesBack}
use Rattle.sb_kind.specs.declared.agg.Agg.{Agg}
use Rattle.sb_types.specs.declared.values.Val.{Val}
use Rattle.sb_kind.proofs.adding.+add.Given as goal

abbrev pub invariant-add_entries-loop-entry : goal.invariant-add_entries-loop-entry
invariant-add_entries-loop-entry l = record {
  added : entries_added (by_key val_cmp) (values_added (plus (monoid_of l.part))) l.list.items (into_iter_items l.entry-iterator) ≡ entries_added (by_key val_cmp) (values_added (plus (monoid_of l.part))) l.fn.list.items l.fn.more.items;
  list : AreEntries (by_key val_cmp) (λ entry. IsOf (monoid_of l.part) entry.1) l.list.items;
  rest : AllByRecursion (λ entry. IsOf (monoid_of l.part) entry.1) (into_iter_items l.entry-iterator);
  undone : StepsBack (StepBack (ValueBack (TakesBack (monoid_of l.part)))) l.steps.items l.list.items l.fn.list.items;
}

abbrev pub invariant-merge_all-loop-entry : goal.invariant-merge_all-loop-entry
invariant-merge_all-loop-entry l = record {
  added : entries_added (by_key val_cmp) (values_added (plus (monoid_of l.part))) (turned l.left l.ring.items) (into_iter_items l.entry-iterator) ≡ entries_added (by_key val_cmp) (values_added (plus (monoid_of l.part))) (turned l.fn.left l.fn.ring.items) l.fn.more.items;
  list : AreEntries (by_key val_cmp) (λ entry. IsOf (monoid_of l.part) entry.1) (turned l.left l.ring.items);
  rest : AreEntries (by_key val_cmp) (λ entry. IsOf (monoid_of l.part) entry.1) (into_iter_items l.entry-iterator);
  within : l.left ≤ length l.ring.items;
  passed : AllByRecursion (λ entry. IsAfter (by_key val_cmp) entry (drop l.left l.ring.items)) (into_iter_items l.entry-iterator);
  undone : (first : List (Val × Agg)) → StepsBack (StepBack (ValueBack (TakesBack (monoid_of l.part)))) l.fn.steps.items (turned l.fn.left l.fn.ring.items) first → StepsBack (StepBack (ValueBack (TakesBack (monoid_of l.part)))) l.steps.items (turned l.left l.ring.items) first;
}
