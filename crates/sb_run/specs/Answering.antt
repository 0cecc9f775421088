-- How far a session is, as the machine of a script has it, and when a feed serves a run.
use Rattle.std.specs.Prelude.{◌≡◌, ℕ, ◌<◌, Bool, IsTrue, List, length}
use Rattle.std.specs.FinMap.{is_sorted}
use Rattle.std.specs.List.{flat_map}
use Rattle.sb_check.specs.Programs.{CheckedProgram}
use Rattle.sb_feed.specs.Cuts.{CutValue}
use Rattle.sb_feed.specs.Jobs.{Dictionaries, Job, job_fold, meant, places_of}
use Rattle.sb_feed.specs.Keys.{key_order}
use Rattle.sb_feed.specs.declared.key.KeyBytes.{KeyBytes}
use Rattle.sb_kind.specs.ElementText.{element_text}
use Rattle.sb_kind.specs.declared.agg.Agg.{Agg}
use Rattle.sb_kind.specs.declared.dictionary.OnlineM.{OnlineM}
use Rattle.sb_plan.specs.Runners.{RunnerValue, name_at, online_add, online_valid}
use Rattle.sb_report.specs.Report.{fold_text, printed_row}
use Rattle.sb_report.specs.Transcript as report
use Rattle.sb_session.specs.Sessions.{SessionValue, IsOver, AreAllRows, job_by}
use Rattle.sb_run.specs.Run.{Run, report_text, store_name, value_in}
use Rattle.sb_run.specs.ScriptOutput.{Progress}

abbrev pub progress : SessionValue Agg → Progress
progress session = record { worked = session.worked; published = session.published; floor = session.floor }

-- what the dictionaries of a live run mean
abbrev pub online : RunnerValue → Dictionaries Agg
online runner = meant online_valid online_add runner.stores.monoids

-- the session is over the runner's records
abbrev pub IsOverFeed : RunnerValue → SessionValue Agg → Type 0
IsOverFeed runner session = IsOver online_valid online_add runner.stores.monoids runner.records session

abbrev pub job_in : RunnerValue → CutValue → Job OnlineM Agg
job_in runner cut = job_by runner.stores.monoids runner.records cut

-- the row of a key of a runner's stores
abbrev pub runner_row : RunnerValue → KeyBytes × Agg → List ℕ
runner_row runner = printed_row (name_at runner.stores.names) (λ store. element_text)

-- The runner over a cut serves a run: it has the run's places, names and folds, so that all its rows are the run's report.
pub record Serves (c : CheckedProgram) (runner : RunnerValue) (cut : CutValue) (run : Run Agg) : Type 0 where
  pub places : places_of (job_in runner cut).log ≡ run.places
  pub stores : length runner.stores.monoids ≡ length c.declared.stores
  pub names : store_name run ≡ report.store_name c.declared
  pub values : (store : ℕ) → store < length c.declared.stores → (key : List ℕ) (passes : ℕ → Bool)
      → value_in run.stores store key passes ≡ fold_text element_text (job_fold online_add (job_in runner cut) (record { store = store; text = key }) passes)
  pub report : (rows : List (KeyBytes × Agg)) → IsTrue (is_sorted key_order rows) → AreAllRows online_valid online_add (job_in runner cut) rows
      → flat_map (runner_row runner) rows ≡ report_text run
