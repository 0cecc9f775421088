-- The rows of batches, of all keys and of those of a shard.
use Rattle.std.specs.Prelude.{◌≡◌, ℕ, ◌==◌, List, map, filter, slice_index}
use Rattle.std.specs.FinMap.{find}
use Rattle.sb_laws.specs.Folds.{fold_over}
use Rattle.sb_feed.specs.declared.key.KeyBytes.{KeyBytes}
use Rattle.sb_feed.specs.declared.rows.Rows.{Rows}
use Rattle.sb_feed.specs.Keys.{key_order, shard_of}
use Rattle.sb_feed.specs.Jobs.{Record, Dictionaries, AreValid, values_from}
use Rattle.sb_job.specs.Emitted.{is_between}

-- Valid rows that have for each key its fold, in log order, over the records of their batches, and no other key. They rise by their type.
pub record AreBatchRows {E : Type 0} (d : Dictionaries E) (records : List (Record E)) (rows : Rows E) : Type 0 where
  pub valid : AreValid d rows.rows
  pub folds : (key : KeyBytes) → find key_order key rows.rows ≡ fold_over (d.add key.store) (values_from key 0 records) (λ i. is_between rows.from rows.to (slice_index (map (λ r. r.batch) records) i))

-- the rows whose keys are of the shard with this number, in their order
abbrev pub rows_in : {E : Type 0} → ℕ → List (KeyBytes × E) → ℕ → List (KeyBytes × E)
rows_in shards rows shard = filter (λ row. shard_of shards row.0 == shard) rows

-- the rows of the shard with this number, of the same batches
abbrev pub shard_rows : {E : Type 0} → ℕ → Rows E → ℕ → Rows E
shard_rows shards rows shard = record { from = rows.from; to = rows.to; rows = rows_in shards rows.rows shard }
