use Rattle.std.proofs.Common.{◌≡◌, ◌+◌, ◌≤◌, ◌++◌, length, min}
use Rattle.std.specs.List.{AllByRecursion}
use Rattle.std.specs.Vec.{vec_capacity}
use Rattle.std.specs.Vec.Iter.{into_iter_items}
use Rattle.sb_gather.specs.Merges.{IsNotBefore}
use Rattle.sb_gather.specs.Steps.{TopStepBack, StepsBack}
use Rattle.sb_gather.specs.Tops.{first_of_both, IsRanked}
use Rattle.sb_gather.proofs.ranking.merge_all.Given as goal

abbrev pub invariant-loop-entry : goal.invariant-loop-entry
invariant-loop-entry g l = record {
  first : first_of_both (g.O.Ordered.order l.order) l.places (l.passed.items ++ l.left.items) (into_iter_items l.entry-iterator) ≡ first_of_both (g.O.Ordered.order l.order) l.places l.fn.left.items l.fn.more.items;
  few : length (l.passed.items ++ l.left.items) ≤ l.places;
  rest : IsRanked (g.O.Ordered.order l.order) (into_iter_items l.entry-iterator);
  passed : AllByRecursion (λ entry. IsNotBefore (g.O.Ordered.order l.order) entry l.passed.items) (into_iter_items l.entry-iterator);
  room : min l.places (length (l.passed.items ++ l.left.items) + length (into_iter_items l.entry-iterator)) ≤ vec_capacity l.passed;
  undone : StepsBack TopStepBack l.steps.items (l.passed.items ++ l.left.items) l.fn.left.items;
  noted : length l.steps.items + length (into_iter_items l.entry-iterator) ≤ vec_capacity l.steps;
}
