use Rattle.std.proofs.Common.{◌≡◌, ◌++◌, IsTrue, map}
use Rattle.std.specs.FinMap.{is_sorted}
use Rattle.std.specs.List.{AllByRecursion}
use Rattle.std.specs.Vec.Iter.{into_iter_items}
use Rattle.sb_feed.specs.Keys.{key_order}
use Rattle.sb_job.proofs.splitting.rows_of.Given as goal

abbrev pub invariant-loop-list : goal.invariant-loop-list
invariant-loop-list g l = record {
  rising : AllByRecursion (λ list. IsTrue (is_sorted key_order list.items)) (into_iter_items l.list-iterator);
  rows : l.split.items ++ map (λ list. record { from = l.from; to = l.to; rows = list.items }) (into_iter_items l.list-iterator) ≡ map (λ list. record { from = l.from; to = l.to; rows = list.items }) l.fn.lists.items;
}
