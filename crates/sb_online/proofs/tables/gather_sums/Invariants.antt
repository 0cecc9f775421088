use Rattle.std.proofs.Common.{◌≡◌, ◌++◌, drop}
use Rattle.sb_job.specs.ByBatch.{rows_from}
use Rattle.sb_online.proofs.tables.gather_sums.Given as goal

abbrev pub invariant-loop-batch : goal.invariant-loop-batch
invariant-loop-batch g l = l.sums.items ++ rows_from l.key l.batch (drop l.batch l.tables) ≡ rows_from l.key l.fn.from (drop l.fn.from l.tables)
