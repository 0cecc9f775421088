-- The parcels of shards.
use Rattle.std.specs.Prelude.{ℕ, ◌==◌, List, filter}
use Rattle.sb_feed.specs.declared.parts.Part.{Part}
use Rattle.sb_feed.specs.declared.parts.Parcel.{Parcel}
use Rattle.sb_feed.specs.Keys.{shard_of}

-- the parts whose keys are of the shard with this number, in their order
abbrev pub parts_in : {E : Type 0} → ℕ → List (Part E) → ℕ → List (Part E)
parts_in shards parts shard = filter (λ part. shard_of shards part.key == shard) parts

-- the parcel of the shard with this number, of the same chunks
abbrev pub shard_parcel : {E : Type 0} → ℕ → Parcel E → ℕ → Parcel E
shard_parcel shards parcel shard = record { chunks = parcel.chunks; parts = parts_in shards parcel.parts shard }
