-- The sums of a batch job: what its dictionaries mean, and its rows.
use Rattle.std.specs.Prelude.{ℕ, zero, suc, Result, List, [], ◌++◌, map, length, slice_get}
use Rattle.std.specs.List.{flat_map}
use Rattle.sb_check.specs.Log.{LogFault, Logged}
use Rattle.sb_check.specs.Programs.{CheckedProgram}
use Rattle.sb_check.specs.declared.log.LogError.{LogError}
use Rattle.sb_feed.specs.Jobs.{AreValid, Dictionaries, meant, valid_by}
use Rattle.sb_feed.specs.declared.key.KeyBytes.{KeyBytes}
use Rattle.sb_job.specs.Sums.{HasKeySums}
use Rattle.sb_kind.specs.ElementText.{element_text}
use Rattle.sb_kind.specs.Elements.{IsOf, plus}
use Rattle.sb_kind.specs.declared.agg.Agg.{Agg}
use Rattle.sb_kind.specs.declared.dictionary.KindM.{KindM}
use Rattle.sb_log.specs.Reading.{GivesLog}
use Rattle.sb_plan.specs.Given.{Planned, fed_at, planned}
use Rattle.sb_plan.specs.Runners.{StoresValue, kind_monoid, name_at}
use Rattle.sb_report.specs.Report.{printed_row}
use Rattle.sb_service.specs.Rows.{Rows}

abbrev pub kind_valid : KindM → Agg → Type 0
kind_valid m = IsOf (kind_monoid m)

abbrev pub kind_add : KindM → Agg → Agg → Agg
kind_add m = plus (kind_monoid m)

-- what the dictionaries of the stores mean
abbrev pub stores : StoresValue KindM → Dictionaries Agg
stores runner = meant kind_valid kind_add runner.monoids

-- the row of a key
abbrev pub batch_row : StoresValue KindM → KeyBytes × Agg → List ℕ
batch_row runner = printed_row (name_at runner.names) (λ store. element_text)

-- what is fed to a store, by its key
abbrev pub keyed : ℕ → List ℕ × Agg → KeyBytes × Agg
keyed store x = (record { store = store; text = x.0 }, x.1)

-- what a record feeds to the stores below a number, store by store
abbrev pub values_below : Planned → List Rows → Logged → ℕ → List (KeyBytes × Agg)
values_below p services r zero = []
values_below p services r (suc n) = values_below p services r n ++ map (keyed n) (fed_at p services n r)

abbrev pub values_of : Planned → List Rows → Logged → List (KeyBytes × Agg)
values_of p services r = values_below p services r (length p.stores)

-- what the records of a log feed to the stores of a program, record by record
abbrev pub all_values : CheckedProgram → List Rows → List Logged → List (KeyBytes × Agg)
all_values c services = flat_map (values_of (planned c) services)

-- the element is one of the store's dictionary
abbrev pub IsFedTo : StoresValue KindM → ℕ → List ℕ × Agg → Type 0
IsFedTo runner store x = valid_by kind_valid (slice_get runner.monoids store) x.1

-- the sums of what the records of a log feed to the stores, all of it valid
pub record AreSummed (c : CheckedProgram) (services : List Rows) (runner : StoresValue KindM) (records : List Logged) (table : List (KeyBytes × Agg)) : Type 0 where
  pub valid : AreValid (stores runner) table
  pub fed : AreValid (stores runner) (all_values c services records)
  pub sums : HasKeySums (stores runner) (all_values c services records) table

-- the sums of a log that is read, or what is wrong with it; want of memory is free
pub record GivesSums (c : CheckedProgram) (services : List Rows) (runner : StoresValue KindM) (said : Result (List Logged) LogFault) (sums : Result (List (KeyBytes × Agg)) LogError) : Type 0 where
  pub gives : GivesLog (AreSummed c services runner) said sums
