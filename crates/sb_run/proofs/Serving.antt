-- A runner over a program's log serves the run of that program.
use Rattle.std.proofs.Common.{◌≡◌, ℕ, zero, suc, ◌+◌, ◌<◌, Bool, true, List, [], ◌∷◌, map, length, Option, Some, None, refl, sym, ap, ◌∙◌, arith, IsTrue}
use Rattle.std.specs.Prelude.{slice_get, unwrap_or}
use Rattle.std.specs.Option.{option_map_or}
use Rattle.std.proofs.lemmas.Option.{slice_get_within}
use Rattle.std.specs.FinMap.{is_sorted}
use Rattle.std.specs.List.{AllByRecursion, flat_map}
use Rattle.sb_check.specs.Declarations.{Store}
use Rattle.sb_check.specs.Log.{Logged}
use Rattle.sb_check.specs.Programs.{CheckedProgram}
use Rattle.sb_feed.specs.Cuts.{CutValue}
use Rattle.sb_laws.specs.Folds.{fold_over}
use Rattle.sb_feed.specs.Jobs.{AreValid, job_fold, values_from}
use Rattle.sb_feed.specs.Keys.{key_order}
use Rattle.sb_feed.specs.declared.key.KeyBytes.{KeyBytes}
use Rattle.sb_kind.specs.ElementText.{element_text}
use Rattle.sb_kind.specs.Elements.{plus}
use Rattle.sb_kind.specs.declared.agg.Agg.{Agg}
use Rattle.sb_plan.specs.Emitted.{emitted, fold_of, everywhere}
use Rattle.sb_plan.specs.Runners.{RunnerValue, Runs, name_at, online_add, online_monoid, online_valid}
use Rattle.sb_report.specs.Report.{fold_text, printed_row}
use Rattle.sb_service.specs.Rows.{Rows}
use Rattle.sb_session.specs.Sessions.{AreAllRows}
use Rattle.sb_run.specs.Answering.{Serves, job_in, online, runner_row}
use Rattle.sb_run.specs.Run.{StoreRun, report_text, run_of, store_run, store_runs, value_in}
use Rattle.sb_run.proofs.StoreRuns.{runs_length, run_at, names_same, from_first, texts_from}
use Rattle.sb_run.proofs.Stores.{there, monoid_is, plus_same, same_length}
use Rattle.sb_run.proofs.Reports.{rows_are_reports}

-- ---- values

-- the text of a store's fold, by the store that is there
value_at : (stores : List (StoreRun Agg)) (k : ℕ) (s : StoreRun Agg) → slice_get stores k ≡ Some s → (key : List ℕ) (passes : ℕ → Bool)
    → value_in stores k key passes ≡ fold_text s.text (fold_of s.add s.emissions key passes)
value_at [] k s is key passes = absurd (let no : None ≡ Some s = is in cc)
value_at (t ∷ stores) zero s is key passes = let same : Some t ≡ Some s = is in let eq : t ≡ s = cc in ap (λ x. fold_text x.text (fold_of x.add x.emissions key passes)) eq
value_at (t ∷ stores) (suc k) s is key passes = value_at stores k s is key passes

run_is : (c : CheckedProgram) (log : List Logged) (services : List Rows) (n k : ℕ) (stores : List Store) (d : Store) → slice_get stores k ≡ Some d
    → slice_get (store_runs c log services n stores) k ≡ Some (store_run c log services (n + k) d)
run_is c log services n k [] d is = absurd (let no : None ≡ Some d = is in cc)
run_is c log services n zero (e ∷ stores) d is =
    let same : Some e ≡ Some d = is in let eq : e ≡ d = cc in
    ap (λ x. Some (store_run c log services n x)) eq ∙ ap (λ m. Some (store_run c log services m d)) (omega arith)
run_is c log services n (suc k) (e ∷ stores) d is = run_is c log services (suc n) k stores d is ∙ ap (λ m. Some (store_run c log services m d)) (omega arith)

-- ---- a runner that runs a program's log

module _ (c : CheckedProgram) (log : List Logged) (services : List Rows) (runner : RunnerValue) (runs : Runs c log services runner) (cut : CutValue) where
  stores_length : length runner.stores.monoids ≡ length c.declared.stores
  stores_length = same_length online_monoid (λ s. s.monoid) runner.stores.monoids c.declared.stores runs.stores.monoids

  fold_same : (k : ℕ) (d : Store) → slice_get c.declared.stores k ≡ Some d → (key : List ℕ) (passes : ℕ → Bool)
      → job_fold online_add (job_in runner cut) (record { store = k; text = key }) passes ≡ fold_of (plus d.monoid) (emitted c log services k) key passes
  fold_same k d is key passes =
      ap (λ add. job_fold_by add k key passes) (plus_same online_monoid runner.stores.monoids c.declared.stores k d runs.stores.monoids is ∙ sym (ap plus (monoid_is c k d is)))
      ∙ (runs.folds k (slice_get_within c.declared.stores k d is) key passes
      ∙ ap (λ m. fold_of (plus m) (emitted c log services k) key passes) (monoid_is c k d is))
    where
      job_fold_by : (Agg → Agg → Agg) → ℕ → List ℕ → (ℕ → Bool) → Option Agg
      job_fold_by add k key passes = fold_over add (values_from (record { store = k; text = key }) 0 runner.records) passes

  values_same : (k : ℕ) → k < length c.declared.stores → (key : List ℕ) (passes : ℕ → Bool)
      → value_in (run_of c cut.chunk cut.shards log services).stores k key passes ≡ fold_text element_text (job_fold online_add (job_in runner cut) (record { store = k; text = key }) passes)
  values_same k less key passes =
      let d = there c.declared.stores k less in
      value_at (store_runs c log services 0 c.declared.stores) k (store_run c log services k d.0) (run_is c log services 0 k c.declared.stores d.0 d.1 ∙ ap (λ m. Some (store_run c log services m d.0)) (omega arith)) key passes
      ∙ ap (fold_text element_text) (sym (fold_same k d.0 d.1 key passes))

  -- ---- the report

  below_stores : (rows : List (KeyBytes × Agg)) → AreValid (online runner) rows → AllByRecursion (λ row. row.0.store < 0 + length (store_runs c log services 0 c.declared.stores)) rows
  below_stores [] valid = tt
  below_stores (row ∷ rows) valid =
      (let less = valid.0.0 in let many = stores_length in let all = runs_length c log services 0 c.declared.stores in omega (arith, less, many, all), below_stores rows valid.1)

  report_same : (rows : List (KeyBytes × Agg)) → IsTrue (is_sorted key_order rows) → AreAllRows online_valid online_add (job_in runner cut) rows
      → flat_map (runner_row runner) rows ≡ report_text (run_of c cut.chunk cut.shards log services)
  report_same rows rising all =
      rows_are_reports (printed_row (name_at runner.stores.names) (λ store. element_text)) 0 (store_runs c log services 0 c.declared.stores) rows
      (texts_from c log services runner.stores.names 0 c.declared.stores (λ k. ap (λ names. name_at names (0 + k)) runs.stores.names ∙ ap (λ m. name_at (map (λ s. s.name) c.declared.stores) m) (omega arith)))
      (from_first rows) (below_stores rows all.elements) rising
      (record {
        folds = λ n s is key.
            let d = run_at c log services 0 n c.declared.stores s is in
            all.sums (record { store = 0 + n; text = key }) (let less = slice_get_within c.declared.stores n d.0 d.1 in let many = stores_length in omega (arith, less, many))
            ∙ (ap (λ k. job_fold online_add (job_in runner cut) (record { store = k; text = key }) (λ i. true)) (omega arith)
            ∙ (fold_same n d.0 d.1 key (λ i. true)
            ∙ ap (λ k. fold_of (plus (d.0).monoid) (emitted c log services k) key everywhere) (omega arith)
            ∙ sym (ap (λ x. fold_of x.add x.emissions key everywhere) d.2)));
      })

  pub serves : Serves c runner cut (run_of c cut.chunk cut.shards log services)
  serves = record {
    places = λ i. record { batches = runs.batches i; chunk = cut.chunk; shards = cut.shards };
    stores = stores_length;
    names = λ i k. (names_same c log services 0 k c.declared.stores ∙ declared_name k c.declared.stores) i;
    values = values_same;
    report = report_same;
  }
    where
      declared_name : (k : ℕ) (stores : List Store) → unwrap_or (slice_get (map (λ s. s.name) stores) k) [] ≡ option_map_or (λ s. s.name) (slice_get stores k) []
      declared_name k [] = refl
      declared_name zero (s ∷ stores) = refl
      declared_name (suc k) (s ∷ stores) = declared_name k stores
