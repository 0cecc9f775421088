-- What a shard keeps, and the sums that it holds by it.
use Rattle.std.specs.Prelude.{ℕ, List, ◌++◌, Option}
use Rattle.sb_feed.specs.declared.key.KeyBytes.{KeyBytes}
use Rattle.sb_feed.specs.Stands.{ShardSums}
use Rattle.sb_offline.specs.Offlines as offline
use Rattle.sb_offline.specs.Offlines.{OfflineValue}
use Rattle.sb_online.specs.Onlines as online
use Rattle.sb_online.specs.Onlines.{OnlineValue}

-- what its two stores keep; online sums of published batches count no more
pub record ShardValue (E : Type 0) : Type 0 where
  pub offline : OfflineValue E
  pub online : OnlineValue E

-- the number of published batches
abbrev pub published_to : {E : Type 0} → ShardValue E → ℕ
published_to held = offline.published_to held.offline

-- the chunks whose parts were flushed
abbrev pub cover_of : {E : Type 0} → ShardValue E → List ℕ
cover_of held = held.online.cover

-- the batches below the floor are summed up in the base
abbrev pub floor_of : {E : Type 0} → ShardValue E → ℕ
floor_of held = held.offline.floor

-- all values that are kept, with their keys
abbrev pub kept_by : {E : Type 0} → ShardValue E → List (KeyBytes × E)
kept_by held = offline.kept_by held.offline ++ online.kept_by held.online

abbrev pub base_sum : {E : Type 0} → (ℕ → E → E → E) → ShardValue E → KeyBytes → Option E
base_sum add held = offline.base_sum add held.offline

abbrev pub published_sum : {E : Type 0} → ShardValue E → KeyBytes → ℕ → Option E
published_sum held = offline.published_sum held.offline

abbrev pub online_sum : {E : Type 0} → (ℕ → E → E → E) → ShardValue E → KeyBytes → ℕ → Option E
online_sum add held = online.sum_from add held.online (published_to held)

-- what a shard holds, where `add` is the plus of each store
abbrev pub shard_sums : {E : Type 0} → (ℕ → E → E → E) → ShardValue E → ShardSums E
shard_sums add held = record {
  base = base_sum add held;
  published = published_sum held;
  online = online_sum add held;
  cover = cover_of held;
  published_to = published_to held;
  floor = floor_of held;
  kept = kept_by held;
}
