-- What a session is at, and what it reads.
use Rattle.std.specs.Prelude.{◌≡◌, ℕ, ◌<◌, ◌≤◌, nat_le, max, true, List, Option, Some, length, slice_get, if◌then◌else◌}
use Rattle.std.specs.List.{range_with_len}
use Rattle.std.specs.FinMap.{find}
use Rattle.sb_feed.specs.declared.key.KeyBytes.{KeyBytes}
use Rattle.sb_feed.specs.Cuts.{CutValue, chunk_count}
use Rattle.sb_feed.specs.Places.{batches_of, is_named}
use Rattle.sb_feed.specs.Jobs.{Record, Job, job_of, meaning_of, places_of, job_fold, AreValid, IsLogOf}
use Rattle.sb_feed.specs.Keys.{key_order}
use Rattle.sb_feed.specs.Stands.{StandsFor}
use Rattle.sb_shard.specs.Shards.{ShardValue, shard_sums, published_to, cover_of, floor_of}

-- what a session keeps: its shards by their numbers, the cut of the log, the number of the log's batches, and how far all shards are: how many chunks are worked, how many batches are published, and the floor, below which the batches are added up
pub record SessionValue (E : Type 0) : Type 0 where
  pub shards : List (ShardValue E)
  pub cut : CutValue
  pub batches : ℕ
  pub worked : ℕ
  pub published : ℕ
  pub floor : ℕ

-- a floor that is raised to another one, but not past the published batches
abbrev pub raised_floor : ℕ → ℕ → ℕ → ℕ
raised_floor published floor asked = if nat_le asked published then max floor asked else floor

-- the job of a feed's dictionaries and records; a floor may follow the published batches without a lag
abbrev pub job_by : {M E : Type 0} → List M → List (Record E) → CutValue → Job M E
job_by monoids records cut = job_of monoids records cut 0

-- it holds of each item, with its place
abbrev pub IsEach : {X : Type 0} → (ℕ → X → Type 0) → List X → Type 0
IsEach {X} P items = (place : ℕ) (x : X) → slice_get items place ≡ Some x → P place x

-- The shard with this number stands for the job. It has the first chunks, so many, so many published batches, and this floor.
pub record IsShardAt {M E : Type 0} (valid : M → E → Type 0) (add : M → E → E → E) (job : Job M E) (chunks batches low number : ℕ) (shard : ShardValue E) : Type 0 where
  pub stands : StandsFor valid add job number (shard_sums (meaning_of valid add job).add shard)
  pub cover : cover_of shard ≡ range_with_len 0 chunks
  pub published : published_to shard ≡ batches
  pub floor : floor_of shard ≡ low

-- The session is one over these dictionaries and records: its shards, as many as the cut says, stand for their job and are where the session is.
pub record IsOver {M E : Type 0} (valid : M → E → Type 0) (add : M → E → E → E) (monoids : List M) (records : List (Record E)) (session : SessionValue E) : Type 0 where
  pub job : IsLogOf (meaning_of valid add (job_by monoids records session.cut)) (job_by monoids records session.cut).log
  pub number : length session.shards ≡ session.cut.shards
  pub length : session.cut.records ≡ length records
  pub batches : session.batches ≡ batches_of (places_of (job_by monoids records session.cut).log)
  pub worked : session.worked ≤ chunk_count session.cut
  pub published : (session.floor ≤ session.published) × (session.published ≤ session.batches)
  pub shards : IsEach (IsShardAt valid add (job_by monoids records session.cut) session.worked session.published session.floor) session.shards

-- what a refused event leaves: each shard stands for the job, but some may be further than others
abbrev pub StandEach : {M E : Type 0} → (M → E → Type 0) → (M → E → E → E) → List M → List (Record E) → SessionValue E → Type 0
StandEach valid add monoids records session =
    IsEach (λ number shard. StandsFor valid add (job_by monoids records session.cut) number (shard_sums (meaning_of valid add (job_by monoids records session.cut)).add shard)) session.shards

-- the fold of a key over the published batches and the first chunks, up to a batch
abbrev pub read_fold : {M E : Type 0} → (M → E → E → E) → Job M E → KeyBytes → ℕ → ℕ → ℕ → Option E
read_fold add job key upto published worked = job_fold add job key (is_named (places_of job.log) upto published (range_with_len 0 worked))

-- valid rows that have for each key its fold over the whole log; they rise by their type
pub record AreAllRows {M E : Type 0} (valid : M → E → Type 0) (add : M → E → E → E) (job : Job M E) (rows : List (KeyBytes × E)) : Type 0 where
  pub elements : AreValid (meaning_of valid add job) rows
  pub sums : (key : KeyBytes) → key.store < length job.monoids → find key_order key rows ≡ job_fold add job key (λ i. true)
