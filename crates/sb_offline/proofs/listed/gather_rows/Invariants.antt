use Rattle.std.proofs.Common.{◌≡◌, ◌++◌, drop}
use Rattle.sb_job.specs.ByBatch.{rows_from}
use Rattle.sb_offline.proofs.listed.gather_rows.Given as goal

abbrev pub invariant-loop-batch : goal.invariant-loop-batch
invariant-loop-batch g l = l.sums.items ++ rows_from l.key l.batch (drop l.batch l.lists) ≡ rows_from l.key l.fn.from (drop l.fn.from l.lists)
