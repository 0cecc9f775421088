-- The steps of an event: shard by shard.
use Rattle.std.specs.Prelude.{◌≡◌, ℕ, ◌-◌, List, [], Some, slice_get, slice_set}
use Rattle.std.specs.List.{range_with_len}
use Rattle.sb_feed.specs.declared.parts.Parcel.{Parcel}
use Rattle.sb_feed.specs.declared.rows.Rows.{Rows}
use Rattle.sb_feed.specs.Cuts.{CutValue, chunk_count}
use Rattle.sb_feed.specs.Jobs.{Record, CutLog, Job, meaning_of}
use Rattle.sb_feed.specs.Stands.{AreFoldsOf, IsParcelOf, StandsFor}
use Rattle.sb_shard.specs.Events.{InstallKeeps, KeepsOnly}
use Rattle.sb_shard.specs.Shards.{ShardValue, shard_sums, published_to, cover_of, floor_of, kept_by}
use Rattle.sb_session.specs.Sessions.{SessionValue, IsShardAt, job_by}

-- nothing was flushed into the shard, or installed
pub record IsNew {E : Type 0} (shard : ShardValue E) : Type 0 where
  pub folds : (stores : ℕ) (add : ℕ → E → E → E) (log : CutLog E) (number : ℕ) → AreFoldsOf stores add log number (shard_sums add shard)
  pub kept : kept_by shard ≡ []
  pub cover : cover_of shard ≡ []
  pub published : published_to shard ≡ 0
  pub floor : floor_of shard ≡ 0

-- the shard with this number, if there is one, is where the session is
abbrev pub IsShardOver : {M E : Type 0} → (M → E → Type 0) → (M → E → E → E) → List M → List (Record E) → SessionValue E → ℕ → Type 0
IsShardOver {E = E} valid add monoids records session number =
    (shard : ShardValue E) → slice_get session.shards number ≡ Some shard
    → IsShardAt valid add (job_by monoids records session.cut) session.worked session.published session.floor number shard

-- a shard that is so far takes the place of the one with this number
pub record Moves {M E : Type 0} (valid : M → E → Type 0) (add : M → E → E → E) (job : Job M E) (worked published floor number : ℕ) (before after : SessionValue E) : Type 0 where
  pub shard : ShardValue E
  pub at : IsShardAt valid add job worked published floor number shard
  pub put : after ≡ record before { shards = slice_set before.shards number shard }

-- the rows of the next batch are installed in the shard with this number
pub record Installs {E : Type 0} (rows : Rows E) (number : ℕ) (before after : SessionValue E) : Type 0 where
  pub old : ShardValue E
  pub new : ShardValue E
  pub there : slice_get before.shards number ≡ Some old
  pub put : after ≡ record before { shards = slice_set before.shards number new }
  pub folds : InstallKeeps rows old new
  pub kept : KeepsOnly rows old new
  pub cover : cover_of new ≡ cover_of old
  pub floor : floor_of new ≡ floor_of old
  pub published : published_to new ≡ rows.to

-- the parcel of the next chunks, up to one, for the shard with this number
pub record IsNextParcel {M E : Type 0} (valid : M → E → Type 0) (add : M → E → E → E) (job : Job M E) (worked upto number : ℕ) (parcel : Parcel E) : Type 0 where
  pub chunks : parcel.chunks ≡ range_with_len worked (upto - worked)
  pub stands : IsParcelOf (meaning_of valid add job) job.log number parcel

-- the shard with this number stands for the job, and has all chunks of the cut
pub record IsWhole {M E : Type 0} (valid : M → E → Type 0) (add : M → E → E → E) (job : Job M E) (cut : CutValue) (number : ℕ) (shard : ShardValue E) : Type 0 where
  pub stands : StandsFor valid add job number (shard_sums (meaning_of valid add job).add shard)
  pub cover : cover_of shard ≡ range_with_len 0 (chunk_count cut)
