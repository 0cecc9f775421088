use Rattle.std.proofs.Common.{◌≡◌, Some}
use Rattle.std.specs.List.{AllByRecursion}
use Rattle.std.specs.Vec.Iter.{into_iter_items}
use Rattle.sb_laws.specs.Sums.{sum_of, sum_onto}
use Rattle.sb_laws.proofs.folds.fold_list.Given as goal

abbrev pub invariant-loop-item : goal.invariant-loop-item
invariant-loop-item g l = record {
  sum : Some (sum_onto (g.M.Semigroup.add l.m) l.sum (into_iter_items l.item-iterator)) ≡ sum_of (g.M.Semigroup.add l.m) l.fn.list.items;
  valid : g.M.Semigroup.valid l.m l.sum;
  rest : AllByRecursion (g.M.Semigroup.valid l.m) (into_iter_items l.item-iterator);
}
