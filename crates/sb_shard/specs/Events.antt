-- What a flush, an installation and an expiry keep of what a shard stands for.
use Rattle.std.specs.Prelude.{◌≡◌, ◌⊎◌, ℕ, ◌+◌, ◌<◌, ◌≤◌, List, [], ◌∷◌, ◌++◌, Contains}
use Rattle.sb_text.specs.Ranges.{union}
use Rattle.sb_feed.specs.declared.key.KeyBytes.{KeyBytes}
use Rattle.sb_feed.specs.declared.parts.Parcel.{Parcel}
use Rattle.sb_feed.specs.declared.rows.Rows.{Rows}
use Rattle.sb_feed.specs.Places.{batches_of}
use Rattle.sb_feed.specs.Jobs.{CutLog, Job, IsFamilyOf, IsCommuting, meaning_of, places_of}
use Rattle.sb_feed.specs.Stands.{AreFoldsOf, IsParcelOf, AreRowsBy, StandsFor, sum_at}
use Rattle.sb_offline.specs.Expiries.{IsExpired}
use Rattle.sb_online.specs.Onlines as online
use Rattle.sb_online.specs.Onlines.{parts_of, parts_from, without}
use Rattle.sb_shard.specs.Shards.{ShardValue, shard_sums, published_to, kept_by}

-- whatever commuting job of these dictionaries the shard stood for, it stands for it after a parcel of it
abbrev pub FlushKeeps : {M E : Type 0} → (M → E → Type 0) → (M → E → E → E) → List M → Parcel E → ShardValue E → ShardValue E → Type 0
FlushKeeps {M} {E} valid add monoids parcel before after =
    (job : Job M E) (shard : ℕ) → IsFamilyOf monoids job → IsCommuting valid add job → IsParcelOf (meaning_of valid add job) job.log shard parcel
    → StandsFor valid add job shard (shard_sums (meaning_of valid add job).add before)
    → StandsFor valid add job shard (shard_sums (meaning_of valid add job).add after)

-- whatever folds the shard's sums were, they are so after the rows of the next batch
abbrev pub InstallKeeps : {E : Type 0} → Rows E → ShardValue E → ShardValue E → Type 0
InstallKeeps {E} rows before after =
    (stores : ℕ) (add : ℕ → E → E → E) (log : CutLog E) (shard : ℕ) → AreRowsBy stores add log shard rows → published_to before < batches_of (places_of log)
    → AreFoldsOf stores add log shard (shard_sums add before) → AreFoldsOf stores add log shard (shard_sums add after)

-- what is kept after an installation was kept before, or is one of the rows
abbrev pub KeepsOnly : {E : Type 0} → Rows E → ShardValue E → ShardValue E → Type 0
KeepsOnly {E} rows before after = (row : KeyBytes × E) → Contains (kept_by after) row → Contains (kept_by before) row ⊎ Contains rows.rows row

-- a floor that may be asked for: there is no lag, or nothing expires, or the lag is kept
abbrev pub MayExpire : ℕ → ℕ → ℕ → Type 0
MayExpire lag asked published = (lag ≡ 0) ⊎ ((asked ≡ 0) ⊎ (asked + lag ≤ published))

-- whatever commuting job of these dictionaries the shard stood for, it stands for it after an expiry that the job's lag admits
abbrev pub ExpireKeeps : {M E : Type 0} → (M → E → Type 0) → (M → E → E → E) → List M → ℕ → ShardValue E → ShardValue E → Type 0
ExpireKeeps {M} {E} valid add monoids asked before after =
    (job : Job M E) (shard : ℕ) → IsFamilyOf monoids job → IsCommuting valid add job → MayExpire job.log.lag asked (published_to before)
    → StandsFor valid add job shard (shard_sums (meaning_of valid add job).add before)
    → StandsFor valid add job shard (shard_sums (meaning_of valid add job).add after)

-- the online sums have the parcel's parts of batches that aren't published in addition
pub record IsFlushed {E : Type 0} (add : ℕ → E → E → E) (parcel : Parcel E) (before after : ShardValue E) : Type 0 where
  pub offline : after.offline ≡ before.offline
  pub cover : after.online.cover ≡ union before.online.cover parcel.chunks
  pub sums : (key : KeyBytes) (j : ℕ) → online.online_sum add after.online key j ≡ sum_at add key j (parts_of before.online ++ parts_from (published_to before) parcel.parts)

-- the rows of the next batch are published, and its online parts are gone
pub record IsInstalled {E : Type 0} (next : Rows E) (before after : ShardValue E) : Type 0 where
  pub offline : after.offline ≡ record before.offline { rows = before.offline.rows ++ next.rows ∷ [] }
  pub online : parts_of after.online ≡ without (published_to before) (parts_of before.online)
  pub cover : after.online.cover ≡ before.online.cover

-- the floor of the offline store is raised
pub record IsOnlyExpired {E : Type 0} (add : ℕ → E → E → E) (asked : ℕ) (before after : ShardValue E) : Type 0 where
  pub within : asked ≤ published_to before
  pub offline : IsExpired add asked before.offline after.offline
  pub online : after.online ≡ before.online
