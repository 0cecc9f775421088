-- What a shard answers.
use Rattle.std.specs.Prelude.{◌≡◌, ◌⊎◌, ◌↔◌, ℕ, ◌<◌, true, ◌&&◌, List, ◌++◌, map, length, IsSome, IsTrue}
use Rattle.std.specs.List.{list_any}
use Rattle.std.specs.FinMap.{find}
use Rattle.std.specs.List.Sorted.{IsStrictlySortedBy}
use Rattle.sb_feed.specs.declared.key.KeyBytes.{KeyBytes}
use Rattle.sb_feed.specs.Keys.{key_order, same_key}
use Rattle.sb_feed.specs.Limits.{last_batch}
use Rattle.sb_feed.specs.Places.{is_of_shard, is_named}
use Rattle.sb_feed.specs.Jobs.{Job, Dictionaries, IsFamilyOf, IsCommuting, meaning_of, places_of, job_fold, AreValid}
use Rattle.sb_feed.specs.Stands.{ShardSums, StandsFor, HasSums}
use Rattle.sb_laws.specs.Sums.{sum_of}
pub use Rattle.sb_job.specs.ByBatch.{one_or_none}
use Rattle.sb_shard.specs.Shards.{ShardValue, shard_sums, published_to, cover_of}
use Rattle.sb_shard.specs.declared.answer.Answer.{Answer}

-- the sums of a key up to a batch, with the shard's cover and numbers
pub record AnswersOf {E : Type 0} (V : E → Type 0) (s : ShardSums E) (key : KeyBytes) (upto : ℕ) (answer : Answer E) : Type 0 where
  pub base : answer.base ≡ s.base key
  pub published : HasSums V upto (s.published key) answer.published
  pub online : HasSums V upto (s.online key) answer.online
  pub cover : answer.cover ≡ s.cover
  pub published_to : answer.published_to ≡ s.published_to
  pub floor : answer.floor ≡ s.floor

-- what the shard answers, by these dictionaries
abbrev pub Answers : {E : Type 0} → Dictionaries E → ShardValue E → KeyBytes → ℕ → Answer E → Type 0
Answers d held key upto = AnswersOf (d.valid key.store) (shard_sums d.add held) key upto

-- the values that are answered: the base, and those of published and of online batches
abbrev pub values_of : {E : Type 0} → Answer E → List E
values_of answer = one_or_none answer.base ++ (map (λ pair. pair.1) answer.published ++ map (λ pair. pair.1) answer.online)

-- whatever commuting job of these dictionaries the shard stands for, the values of a key of the shard's make the fold over the named positions
abbrev pub MakesNamed : {M E : Type 0} → (M → E → Type 0) → (M → E → E → E) → List M → ShardValue E → KeyBytes → ℕ → List E → Type 0
MakesNamed {M} {E} valid add monoids held key upto values =
    (job : Job M E) (shard : ℕ) → IsFamilyOf monoids job → IsCommuting valid add job → is_of_shard (places_of job.log) shard key ≡ true
    → StandsFor valid add job shard (shard_sums (meaning_of valid add job).add held)
    → sum_of ((meaning_of valid add job).add key.store) values ≡ job_fold add job key (is_named (places_of job.log) upto (published_to held) (cover_of held))

-- the rows are valid, and are the job's folds over the published batches and the cover
pub record AreDrained {M E : Type 0} (valid : M → E → Type 0) (add : M → E → E → E) (job : Job M E) (shard p : ℕ) (cover : List ℕ) (rows : List (KeyBytes × E)) : Type 0 where
  pub elements : AreValid (meaning_of valid add job) rows
  pub sums : (key : KeyBytes) → key.store < length job.monoids
      → find key_order key rows ≡ job_fold add job key (λ i. is_of_shard (places_of job.log) shard key && is_named (places_of job.log) last_batch p cover i)

-- whatever commuting job of these dictionaries the shard stands for, the rows drain it
abbrev pub Drains : {M E : Type 0} → (M → E → Type 0) → (M → E → E → E) → List M → ShardValue E → List (KeyBytes × E) → Type 0
Drains {M} {E} valid add monoids held rows =
    (job : Job M E) (shard : ℕ) → IsFamilyOf monoids job → IsCommuting valid add job
    → StandsFor valid add job shard (shard_sums (meaning_of valid add job).add held)
    → AreDrained valid add job shard (published_to held) (cover_of held) rows

-- the shard has a sum of the key
abbrev pub HasSum : {E : Type 0} → ShardSums E → KeyBytes → Type 0
HasSum s key = IsSome (s.base key) ⊎ (((j : ℕ) × IsSome (s.published key j)) ⊎ ((j : ℕ) × IsSome (s.online key j)))

-- exactly the keys with a sum, rising
pub record HasKeys {E : Type 0} (s : ShardSums E) (keys : List KeyBytes) : Type 0 where
  pub rising : IsStrictlySortedBy key_order keys
  pub each : (key : KeyBytes) → IsTrue (list_any (same_key key) keys) ↔ HasSum s key
