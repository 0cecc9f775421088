-- Where records and keys go: batches, chunks and shards, and the records that a read names.
use Rattle.std.specs.Prelude.{ℕ, ◌+◌, ◌/◌, max, Bool, ◌&&◌, ◌||◌, nat_lt, nat_le, ◌==◌, List, [], ◌∷◌, length, slice_index}
use Rattle.std.specs.List.{list_any}
use Rattle.std.specs.Int.{div_ceil}
use Rattle.sb_feed.specs.declared.key.KeyBytes.{KeyBytes}
use Rattle.sb_feed.specs.Keys.{shard_of}

-- the batch of each record in log order, the number of records of a chunk, and that of shards
pub record Places : Type 0 where
  pub batches : List ℕ
  pub chunk : ℕ
  pub shards : ℕ

-- one more than the greatest batch, and 0 without records
abbrev pub batch_count : List ℕ → ℕ
batch_count [] = 0
batch_count (b ∷ batches) = max (b + 1) (batch_count batches)

abbrev pub batches_of : Places → ℕ
batches_of places = batch_count places.batches

-- how many chunks there are; the last may have fewer records
abbrev pub chunks_of : Places → ℕ
chunks_of places = div_ceil (length places.batches) places.chunk

-- the batch of the record at a position
abbrev pub batch_at : Places → ℕ → ℕ
batch_at places i = slice_index places.batches i

-- the chunk of a position
abbrev pub chunk_at : Places → ℕ → ℕ
chunk_at places i = i / places.chunk

-- the key is of the shard with this number
abbrev pub is_of_shard : Places → ℕ → KeyBytes → Bool
is_of_shard places shard key = shard_of places.shards key == shard

-- the number is one of the list's
abbrev pub is_in : List ℕ → ℕ → Bool
is_in numbers n = list_any (λ m. m == n) numbers

-- the positions of the batches up to the asked one that are published, or whose chunk is in the cover
abbrev pub is_named : Places → ℕ → ℕ → List ℕ → ℕ → Bool
is_named places asked published cover i =
    nat_le (batch_at places i) asked && (nat_lt (batch_at places i) published || is_in cover (chunk_at places i))
