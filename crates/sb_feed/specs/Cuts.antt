-- How records are divided into chunks and keys into shards.
use Rattle.std.specs.Prelude.{ℕ, ◌≤◌}
use Rattle.std.specs.Int.{div_ceil}
use Rattle.sb_feed.specs.Limits.{most_chunks, most_records_of_a_chunk, most_shards}

-- the number of records, that of a chunk's records, and that of shards
pub record CutValue : Type 0 where
  pub records : ℕ
  pub chunk : ℕ
  pub shards : ℕ

-- how many chunks there are; the last may have fewer records
abbrev pub chunk_count : CutValue → ℕ
chunk_count cut = div_ceil cut.records cut.chunk

-- the numbers are within their limits
pub record IsCut (cut : CutValue) : Type 0 where
  pub chunk : (1 ≤ cut.chunk) × (cut.chunk ≤ most_records_of_a_chunk)
  pub shards : (1 ≤ cut.shards) × (cut.shards ≤ most_shards)
  pub chunks : chunk_count cut ≤ most_chunks
