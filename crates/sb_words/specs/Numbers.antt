-- The greatest numbers that words may have.
use Rattle.std.specs.Prelude.{ℕ, ◌-◌, ◌^◌}

abbrev pub most_workers : ℕ
most_workers = 16

abbrev pub most_shards : ℕ
most_shards = 64

abbrev pub most_records_of_a_chunk : ℕ
most_records_of_a_chunk = 1048576

-- the sums that a cache holds
abbrev pub most_cached : ℕ
most_cached = 65536

-- the chunks between two flushes
abbrev pub most_chunks_between : ℕ
most_chunks_between = 65536

-- the batches that a publisher keeps
abbrev pub most_kept : ℕ
most_kept = 65536

abbrev pub most_seed : ℕ
most_seed = 2 ^ 64 - 1

-- the records of a generated log
abbrev pub most_generated : ℕ
most_generated = 1048576
