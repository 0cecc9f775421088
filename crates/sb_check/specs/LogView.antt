-- What contracts see of a log.
use Rattle.std.specs.Prelude.{List}
use Rattle.sb_types.specs.declared.values.LogRecord.{LogRecord}
use Rattle.sb_batcher.specs.Batches.{Batching}
use Rattle.sb_check.specs.declared.log.Log.{Log}

-- the batches into which its records fall, and the records in the order of their lines
pub record LogValue : Type 0 where
  pub batching : Batching
  pub records : List LogRecord

abbrev pub view_log : Log → LogValue
view_log log = record { batching = log.batcher; records = log.records.items }
