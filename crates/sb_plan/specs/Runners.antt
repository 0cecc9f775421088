-- What contracts see of the stores and the records of a run.
use Rattle.std.specs.Prelude.{◌≡◌, ℕ, ◌<◌, ◌==◌, Bool, List, [], length, map, slice_get, Some, unwrap_or}
use Rattle.std.specs.FinMap.{find}
use Rattle.std.specs.List.{AllByRecursion}
use Rattle.sb_batcher.specs.Batches.{Batching, batch_of}
use Rattle.sb_check.specs.Log.{Logged}
use Rattle.sb_check.specs.Programs.{CheckedProgram}
use Rattle.sb_feed.specs.Jobs.{Record, IsRecord, meant, values_from}
use Rattle.sb_feed.specs.Keys.{key_order}
use Rattle.sb_kind.specs.Elements.{IsOf, plus}
use Rattle.sb_kind.specs.KindView.{monoid_of}
use Rattle.sb_kind.specs.Monoids.{Monoid}
use Rattle.sb_kind.specs.declared.agg.Agg.{Agg}
use Rattle.sb_kind.specs.declared.dictionary.KindM.{KindM}
use Rattle.sb_kind.specs.declared.dictionary.OnlineM.{OnlineM}
use Rattle.sb_laws.specs.Folds.{fold_over}
use Rattle.sb_meaning.specs.Emissions.{monoid_at}
use Rattle.sb_service.specs.Rows.{Rows}
use Rattle.sb_plan.specs.Emitted.{emitted, fold_of}

-- the stores in the program's order: their names, and their dictionaries
pub record StoresValue (M : Type 0) : Type 0 where
  pub names : List (List ℕ)
  pub monoids : List M

-- the stores, and the records in log order
pub record RunnerValue : Type 0 where
  pub stores : StoresValue OnlineM
  pub records : List (Record Agg)

-- the name of a store by its number; of one that isn't there, no name
abbrev pub name_at : List (List ℕ) → ℕ → List ℕ
name_at names store = unwrap_or (slice_get names store) []

-- the batch of a record's time; of a time before batch 0, any
abbrev pub batch_by : Batching → Logged → ℕ
batch_by batching r = unwrap_or (batch_of batching r.time) 0

-- and by the batches of a program
abbrev pub batch_in : CheckedProgram → Logged → ℕ
batch_in c = batch_by c.batching

-- the names and dictionaries are those of the program's stores
pub record AreStores {M : Type 0} (c : CheckedProgram) (monoid : M → Monoid) (stores : StoresValue M) : Type 0 where
  pub names : stores.names ≡ map (λ s. s.name) c.declared.stores
  pub monoids : map monoid stores.monoids ≡ map (λ s. s.monoid) c.declared.stores

-- the monoid of a dictionary, of any kind and of one that commutes
abbrev pub kind_monoid : KindM → Monoid
kind_monoid m = monoid_of m.kind

abbrev pub online_monoid : OnlineM → Monoid
online_monoid m = monoid_of m.kind

-- the elements of a dictionary that commutes, and their plus
abbrev pub online_valid : OnlineM → Agg → Type 0
online_valid m = IsOf (online_monoid m)

abbrev pub online_add : OnlineM → Agg → Agg → Agg
online_add m = plus (online_monoid m)

-- the elements and the plus of a store by its number
abbrev pub valid_at : CheckedProgram → ℕ → Agg → Type 0
valid_at c store = IsOf (monoid_at c store)

abbrev pub plus_at : CheckedProgram → ℕ → Agg → Agg → Agg
plus_at c store = plus (monoid_at c store)

-- the records are valid by these dictionaries, and the index has the batch of each
pub record AreIndexed (monoids : List OnlineM) (index : List ℕ) (records : List (Record Agg)) : Type 0 where
  pub valid : AllByRecursion (IsRecord (meant online_valid online_add monoids)) records
  pub batches : index ≡ map (λ r. r.batch) records

-- The runner's records are those of the log, in the batches of their times. The part of a key at a record is the sum of what is emitted
-- there with the key; so the folds over the records are those over the emissions.
pub record Runs (c : CheckedProgram) (log : List Logged) (services : List Rows) (runner : RunnerValue) : Type 0 where
  pub stores : AreStores c online_monoid runner.stores
  pub batches : map (λ r. r.batch) runner.records ≡ map (batch_in c) log
  pub parts : (i : ℕ) (r : Record Agg) → slice_get runner.records i ≡ Some r → (store : ℕ) → store < length c.declared.stores → (key : List ℕ)
      → find key_order (record { store = store; text = key }) r.parts ≡ fold_of (plus (monoid_at c store)) (emitted c log services store) key (λ p. p == i)
  pub folds : (store : ℕ) → store < length c.declared.stores → (key : List ℕ) (passes : ℕ → Bool)
      → fold_over (plus (monoid_at c store)) (values_from (record { store = store; text = key }) 0 runner.records) passes
      ≡ fold_of (plus (monoid_at c store)) (emitted c log services store) key passes
