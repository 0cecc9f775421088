use Rattle.std.proofs.Common.{◌≡◌, ◌++◌, map}
use Rattle.std.specs.List.{range_with_len}
use Rattle.std.specs.Vec.Iter.{into_iter_items}
use Rattle.sb_job.specs.Batches.{rows_in}
use Rattle.sb_job.proofs.splitting.divide_rows.Given as goal

abbrev pub invariant-loop-row : goal.invariant-loop-row
invariant-loop-row g l = record {
  lists : map (λ list. list.items) l.lists.items ≡ map (rows_in l.fn.cut.shards l.yielded) (range_with_len 0 l.fn.cut.shards);
  split : l.yielded ++ into_iter_items l.row-iterator ≡ l.fn.rows.rows;
}
