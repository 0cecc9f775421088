-- What a feed and a cut tell, as plain values, and the folds over it.
use Rattle.std.specs.Prelude.{◌≡◌, ℕ, suc, ◌<◌, ◌≤◌, Bool, IsTrue, List, [], ◌∷◌, ◌++◌, map, length, slice_get, Option, Some, None}
use Rattle.std.specs.List.{AllByRecursion}
use Rattle.std.specs.FinMap.{is_sorted}
use Rattle.sb_laws.specs.Sums.{CommutingLaws}
use Rattle.sb_laws.specs.Folds.{fold_over}
use Rattle.sb_laws.specs.Tables.{values_at}
use Rattle.sb_feed.specs.declared.key.KeyBytes.{KeyBytes}
use Rattle.sb_feed.specs.Cuts.{CutValue}
use Rattle.sb_feed.specs.Keys.{key_order}
use Rattle.sb_feed.specs.Limits.{last_batch}
use Rattle.sb_feed.specs.Places.{Places}

-- a record: its batch, and what it adds to keys
pub record Record (E : Type 0) : Type 0 where
  pub batch : ℕ
  pub parts : List (KeyBytes × E)

-- a log that is divided: its records in order, the number of records of a chunk, the number of shards, and the lag of a floor
pub record CutLog (E : Type 0) : Type 0 where
  pub records : List (Record E)
  pub chunk : ℕ
  pub shards : ℕ
  pub lag : ℕ

-- where the log's records and keys go
abbrev pub places_of : {E : Type 0} → CutLog E → Places
places_of log = record { batches = map (λ r. r.batch) log.records; chunk = log.chunk; shards = log.shards }

-- the values that records from a position on add to a key, with their positions
abbrev pub values_from : {E : Type 0} → KeyBytes → ℕ → List (Record E) → List (ℕ × E)
values_from key i [] = []
values_from key i (r ∷ records) = map (λ value. (i, value)) (values_at key_order key r.parts) ++ values_from key (suc i) records

-- the values of a key with their positions, in log order
abbrev pub log_values : {E : Type 0} → CutLog E → KeyBytes → List (ℕ × E)
log_values log key = values_from key 0 log.records

-- the fold of a key over the positions that pass, by the plus of the key's store
abbrev pub log_fold : {E : Type 0} → (ℕ → E → E → E) → CutLog E → KeyBytes → (ℕ → Bool) → Option E
log_fold add log key passes = fold_over (add key.store) (log_values log key) passes

-- what the dictionaries of stores mean: how many there are, and of each the valid elements and the plus
pub record Dictionaries (E : Type 0) : Type 1 where
  pub stores : ℕ
  pub valid : ℕ → E → Type 0
  pub add : ℕ → E → E → E

-- a dictionary that isn't there has no elements, and changes nothing
abbrev pub valid_by : {M E : Type 0} → (M → E → Type 0) → Option M → E → Type 0
valid_by valid None a = ⊥
valid_by valid (Some m) a = valid m a

abbrev pub add_by : {M E : Type 0} → (M → E → E → E) → Option M → E → E → E
add_by add None a b = a
add_by add (Some m) a b = add m a b

-- what plain values mean, by the valid elements and the plus that their type gives to each
abbrev pub meant : {M E : Type 0} → (M → E → Type 0) → (M → E → E → E) → List M → Dictionaries E
meant valid add monoids = record { stores = length monoids; valid = λ store. valid_by valid (slice_get monoids store); add = λ store. add_by add (slice_get monoids store) }

-- the dictionary of each store commutes
abbrev pub Commute : {E : Type 0} → Dictionaries E → Type 0
Commute d = (store : ℕ) → store < d.stores → CommutingLaws (d.valid store) (d.add store)

-- each key's store is there, and the value is one of its elements
abbrev pub AreValid : {E : Type 0} → Dictionaries E → List (KeyBytes × E) → Type 0
AreValid d rows = AllByRecursion (λ row. (row.0.store < d.stores) × d.valid row.0.store row.1) rows

-- a record's batch is within the limit, and its parts are valid and have rising keys
pub record IsRecord {E : Type 0} (d : Dictionaries E) (r : Record E) : Type 0 where
  pub batch : r.batch ≤ last_batch
  pub rising : IsTrue (is_sorted key_order r.parts)
  pub valid : AreValid d r.parts

-- all records of the log are records by these dictionaries
abbrev pub IsLogOf : {E : Type 0} → Dictionaries E → CutLog E → Type 0
IsLogOf d log = AllByRecursion (IsRecord d) log.records

-- a job: the dictionary of each store as a plain value, and the log
pub record Job (M E : Type 0) : Type 0 where
  pub monoids : List M
  pub log : CutLog E

-- the job of these dictionaries and records, in the chunks and shards of a cut
abbrev pub job_of : {M E : Type 0} → List M → List (Record E) → CutValue → ℕ → Job M E
job_of monoids records cut lag = record { monoids = monoids; log = record { records = records; chunk = cut.chunk; shards = cut.shards; lag = lag } }

-- what the job's dictionaries mean
abbrev pub meaning_of : {M E : Type 0} → (M → E → Type 0) → (M → E → E → E) → Job M E → Dictionaries E
meaning_of valid add job = meant valid add job.monoids

-- a family with these dictionaries is the job's
abbrev pub IsFamilyOf : {M E : Type 0} → List M → Job M E → Type 0
IsFamilyOf monoids job = monoids ≡ job.monoids

-- the job's dictionaries commute, and its records are records by them
pub record IsCommuting {M E : Type 0} (valid : M → E → Type 0) (add : M → E → E → E) (job : Job M E) : Type 0 where
  pub commute : Commute (meaning_of valid add job)
  pub records : IsLogOf (meaning_of valid add job) job.log

-- the job's fold of a key over the positions that pass
abbrev pub job_fold : {M E : Type 0} → (M → E → E → E) → Job M E → KeyBytes → (ℕ → Bool) → Option E
job_fold add job key passes = fold_over (add_by add (slice_get job.monoids key.store)) (log_values job.log key) passes
