use Rattle.std.proofs.Common.{◌≡◌}
use Rattle.std.specs.List.{AllByRecursion, flat_map}
use Rattle.std.specs.Vec.Iter.{into_iter_items}
use Rattle.sb_laws.specs.Sums.{sum_of, both_sums, IsValid}
use Rattle.sb_laws.proofs.folds.fold_lists.Given as goal

abbrev pub invariant-loop-list : goal.invariant-loop-list
invariant-loop-list g l = record {
  sum : both_sums (g.M.Semigroup.add l.m) l.sum (sum_of (g.M.Semigroup.add l.m) (flat_map (λ list. list.items) (into_iter_items l.list-iterator))) ≡ sum_of (g.M.Semigroup.add l.m) (flat_map (λ list. list.items) l.fn.lists.items);
  valid : IsValid (g.M.Semigroup.valid l.m) l.sum;
  rest : AllByRecursion (g.M.Semigroup.valid l.m) (flat_map (λ list. list.items) (into_iter_items l.list-iterator));
}
