-- What a run is about: a program's stores over the records of a log, and where records and keys go.
use Rattle.std.specs.Prelude.{ℕ, zero, suc, List, [], ◌∷◌, map, codes, Bool}
use Rattle.std.specs.List.{flat_map}
use Rattle.sb_check.specs.Declarations.{Store}
use Rattle.sb_check.specs.Log.{Logged}
use Rattle.sb_check.specs.Programs.{CheckedProgram}
use Rattle.sb_feed.specs.Places.{Places, is_named}
use Rattle.sb_kind.specs.ElementText.{element_text}
use Rattle.sb_kind.specs.Elements.{plus}
use Rattle.sb_kind.specs.declared.agg.Agg.{Agg}
use Rattle.sb_plan.specs.Emitted.{Emission, emitted, fold_of, everywhere}
use Rattle.sb_plan.specs.Runners.{batch_in}
use Rattle.sb_report.specs.Report.{fold_text, store_report}
use Rattle.sb_service.specs.Rows.{Rows}

-- a store over a log: its name, its plus, the texts of its elements, and what the log's records emit into it
pub record StoreRun (E : Type 0) : Type 0 where
  pub name : List ℕ
  pub add : E → E → E
  pub text : E → List ℕ
  pub emissions : List (Emission E)

-- the stores in the program's order, and the places of the log's records
pub record Run (E : Type 0) : Type 0 where
  pub stores : List (StoreRun E)
  pub places : Places

-- the name of a store by its number; of one that isn't there, no name
abbrev pub name_in : {E : Type 0} → List (StoreRun E) → ℕ → List ℕ
name_in [] store = []
name_in (s ∷ stores) zero = s.name
name_in (s ∷ stores) (suc store) = name_in stores store

abbrev pub store_name : {E : Type 0} → Run E → ℕ → List ℕ
store_name run = name_in run.stores

-- the text of a store's fold of a key over the positions that pass; a store that isn't there has no contribution
abbrev pub value_in : {E : Type 0} → List (StoreRun E) → ℕ → List ℕ → (ℕ → Bool) → List ℕ
value_in [] store key passes = codes "()"
value_in (s ∷ stores) zero key passes = fold_text s.text (fold_of s.add s.emissions key passes)
value_in (s ∷ stores) (suc store) key passes = value_in stores store key passes

-- The value of a store's key that a line shows which asks up to a batch and names the batches below `published` and a cover: the text of the
-- fold, in log order, of the key's emissions at these records.
abbrev pub good_value : {E : Type 0} → Run E → ℕ → ℕ → List ℕ → ℕ → List ℕ → List ℕ
good_value run store asked key published cover = value_in run.stores store key (is_named run.places asked published cover)

-- the report of a store over the whole log
abbrev pub rows_text : {E : Type 0} → StoreRun E → List ℕ
rows_text s = store_report s.text s.name (map (λ e. e.key) s.emissions) (λ key. fold_of s.add s.emissions key everywhere)

-- the report over the whole log, store after store
abbrev pub report_text : {E : Type 0} → Run E → List ℕ
report_text run = flat_map rows_text run.stores

-- the store of this number over a log, with the rows of the program's services
abbrev pub store_run : CheckedProgram → List Logged → List Rows → ℕ → Store → StoreRun Agg
store_run c log services number s =
    record { name = s.name; add = plus s.monoid; text = element_text; emissions = emitted c log services number }

-- the stores from this number on
abbrev pub store_runs : CheckedProgram → List Logged → List Rows → ℕ → List Store → List (StoreRun Agg)
store_runs c log services number [] = []
store_runs c log services number (s ∷ stores) = store_run c log services number s ∷ store_runs c log services (suc number) stores

-- the run of a program over a log, in chunks of so many records, with so many shards
abbrev pub run_of : CheckedProgram → ℕ → ℕ → List Logged → List Rows → Run Agg
run_of c chunk shards log services = record {
  stores = store_runs c log services 0 c.declared.stores;
  places = record { batches = map (batch_in c) log; chunk = chunk; shards = shards };
}
