use Rattle.std.proofs.Common.{◌≡◌, ◌≤◌, ◌++◌, take}
use Rattle.std.specs.Prelude.{IsTrue, vec_capacity}
use Rattle.std.specs.List.{AllByRecursion}
use Rattle.std.specs.FinMap.{is_sorted}
use Rattle.sb_feed.specs.Keys.{key_order}
use Rattle.sb_offline.specs.Expiries.{rows_below, emptied}
use Rattle.sb_offline.proofs.expiry.move_rows.Given as goal

abbrev pub invariant-loop-batch : goal.invariant-loop-batch
invariant-loop-batch g l = record {
  within : l.batch ≤ l.fn.to;
  lists : l.lists.items ≡ emptied l.batch l.fn.lists.items;
  out : l.out.items ≡ l.fn.out.items ++ rows_below l.batch l.fn.lists.items;
  room : vec_capacity l.fn.out ≤ vec_capacity l.out;
  rising : AllByRecursion (λ rows. IsTrue (is_sorted key_order rows)) (take l.batch l.fn.lists.items);
}
