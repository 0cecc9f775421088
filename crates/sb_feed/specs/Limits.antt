-- The limits of batches, chunks and shards, which definitions and contracts cite by name. The code has its own constants.
use Rattle.std.specs.Prelude.{ℕ}

-- batches are numbered from 0 up to this one
abbrev pub last_batch : ℕ
last_batch = 65535

abbrev pub most_batches : ℕ
most_batches = 65536

abbrev pub most_chunks : ℕ
most_chunks = 65536

-- how many records a chunk has at most
abbrev pub most_records_of_a_chunk : ℕ
most_records_of_a_chunk = 1048576

abbrev pub most_shards : ℕ
most_shards = 64
