-- When the sums of a shard, the parts of a parcel and the rows of batches stand for a log.
use Rattle.std.specs.Prelude.{◌≡◌, ◌⊎◌, ℕ, ◌+◌, ◌<◌, ◌≤◌, ◌&&◌, nat_lt, nat_le, ◌==◌, List, map, filter, Option, None, if◌then◌else◌}
use Rattle.std.specs.List.{AllByRecursion}
use Rattle.std.specs.Ordering.{nat_cmp}
use Rattle.std.specs.FinMap.{find}
use Rattle.sb_laws.specs.Folds.{fold_over}
use Rattle.sb_feed.specs.declared.key.KeyBytes.{KeyBytes}
use Rattle.sb_feed.specs.declared.parts.Part.{Part}
use Rattle.sb_feed.specs.declared.parts.Parcel.{Parcel}
use Rattle.sb_feed.specs.declared.rows.Rows.{Rows}
use Rattle.sb_feed.specs.Keys.{key_order, same_key}
use Rattle.sb_feed.specs.Places.{batches_of, batch_at, chunk_at, is_of_shard, is_in}
use Rattle.sb_feed.specs.Jobs.{CutLog, Dictionaries, Job, meaning_of, places_of, log_fold, AreValid}

-- a part's value with its batch
abbrev pub batch_value : {E : Type 0} → Part E → ℕ × E
batch_value part = (part.batch, part.value)

-- the values of a key with their batches, in the order of the parts
abbrev pub key_values : {E : Type 0} → KeyBytes → List (Part E) → List (ℕ × E)
key_values key parts = map batch_value (filter (λ part. same_key key part.key) parts)

-- the sum of a key's parts of a batch
abbrev pub sum_at : {E : Type 0} → (ℕ → E → E → E) → KeyBytes → ℕ → List (Part E) → Option E
sum_at add key j parts = fold_over (add key.store) (key_values key parts) (λ b. b == j)

-- the parts' keys with their values
abbrev pub keyed_values : {E : Type 0} → List (Part E) → List (KeyBytes × E)
keyed_values parts = map (λ part. (part.key, part.value)) parts

-- what a shard holds: its sums as functions of key and batch, its cover, the number of published batches, its floor, and all elements that it keeps
pub record ShardSums (E : Type 0) : Type 0 where
  pub base : KeyBytes → Option E
  pub published : KeyBytes → ℕ → Option E
  pub online : KeyBytes → ℕ → Option E
  pub cover : List ℕ
  pub published_to : ℕ
  pub floor : ℕ
  pub kept : List (KeyBytes × E)

-- The sums are the log's folds over the keys of the shard with this number. Where the positions of an equation are none, it says that there is no sum.
pub record AreFoldsOf {E : Type 0} (stores : ℕ) (add : ℕ → E → E → E) (log : CutLog E) (shard : ℕ) (s : ShardSums E) : Type 0 where
  pub floor : s.floor ≤ s.published_to
  pub last : s.published_to ≤ batches_of (places_of log)
  pub lag : (s.floor ≡ 0) ⊎ (s.floor + log.lag ≤ s.published_to)
  pub base : (key : KeyBytes) → key.store < stores
      → s.base key ≡ log_fold add log key (λ i. is_of_shard (places_of log) shard key && nat_lt (batch_at (places_of log) i) s.floor)
  pub published : (key : KeyBytes) (j : ℕ) → key.store < stores
      → s.published key j ≡ log_fold add log key (λ i. is_of_shard (places_of log) shard key && (batch_at (places_of log) i == j && (nat_le s.floor j && nat_lt j s.published_to)))
  pub online : (key : KeyBytes) (j : ℕ) → key.store < stores
      → s.online key j ≡ log_fold add log key (λ i. is_of_shard (places_of log) shard key && (batch_at (places_of log) i == j && (nat_le s.published_to j && is_in s.cover (chunk_at (places_of log) i))))

-- the sums are those of the shard with this number
pub record IsShardOf {E : Type 0} (d : Dictionaries E) (log : CutLog E) (shard : ℕ) (s : ShardSums E) : Type 0 where
  pub folds : AreFoldsOf d.stores d.add log shard s
  pub valid : AreValid d s.kept

-- the shard with this number stands for the job
abbrev pub StandsFor : {M E : Type 0} → (M → E → Type 0) → (M → E → E → E) → Job M E → ℕ → ShardSums E → Type 0
StandsFor valid add job = IsShardOf (meaning_of valid add job) job.log

-- the parcel stands for its chunks and the shard with this number
pub record IsParcelOf {E : Type 0} (d : Dictionaries E) (log : CutLog E) (shard : ℕ) (parcel : Parcel E) : Type 0 where
  pub sums : (key : KeyBytes) (j : ℕ) → key.store < d.stores
      → sum_at d.add key j parcel.parts ≡ log_fold d.add log key (λ i. is_of_shard (places_of log) shard key && (batch_at (places_of log) i == j && is_in parcel.chunks (chunk_at (places_of log) i)))
  pub valid : AreValid d (keyed_values parcel.parts)

-- the rows' sums are the folds over their batches
abbrev pub AreRowsBy : {E : Type 0} → ℕ → (ℕ → E → E → E) → CutLog E → ℕ → Rows E → Type 0
AreRowsBy stores add log shard rows =
    (key : KeyBytes) → key.store < stores
    → find key_order key rows.rows ≡ log_fold add log key (λ i. is_of_shard (places_of log) shard key && (nat_le rows.from (batch_at (places_of log) i) && nat_lt (batch_at (places_of log) i) rows.to))

-- the rows stand for their batches and the shard with this number
pub record AreRowsOf {E : Type 0} (d : Dictionaries E) (log : CutLog E) (shard : ℕ) (rows : Rows E) : Type 0 where
  pub folds : AreRowsBy d.stores d.add log shard rows
  pub valid : AreValid d rows.rows

-- the pairs, which rise by their type, are the sums of the batches up to one
pub record HasSums {E : Type 0} (V : E → Type 0) (upto : ℕ) (sums : ℕ → Option E) (pairs : List (ℕ × E)) : Type 0 where
  pub each : (j : ℕ) → find nat_cmp j pairs ≡ (if nat_le j upto then sums j else None)
  pub valid : AllByRecursion (λ pair. V pair.1) pairs
