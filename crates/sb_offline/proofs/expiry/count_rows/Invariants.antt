use Rattle.std.proofs.Common.{◌≡◌, ◌≤◌, length}
use Rattle.sb_offline.specs.Expiries.{rows_below}
use Rattle.sb_offline.proofs.expiry.count_rows.Given as goal

abbrev pub invariant-loop-batch : goal.invariant-loop-batch
invariant-loop-batch g l = record {
  within : l.batch ≤ l.to;
  count : l.count ≡ length (rows_below l.batch l.lists);
}
