-- The rows of a batch's sums are its report.
use Rattle.std.proofs.Common.{◌≡◌, ℕ, ◌+◌, ◌<◌, List, [], ◌∷◌, map, length, sym, ap, subst, ◌∙◌, arith, IsTrue}
use Rattle.std.proofs.lemmas.List.{length-map}
use Rattle.std.proofs.lemmas.Option.{slice_get_within}
use Rattle.std.specs.FinMap.{is_sorted}
use Rattle.std.specs.List.{AllByRecursion, flat_map}
use Rattle.sb_check.specs.Log.{HavePlaces, Logged}
use Rattle.sb_check.specs.Programs.{CheckedProgram}
use Rattle.sb_feed.specs.Jobs.{AreValid}
use Rattle.sb_feed.specs.Keys.{key_order}
use Rattle.sb_feed.specs.declared.key.KeyBytes.{KeyBytes}
use Rattle.sb_job.specs.Sums.{AreKeySums}
use Rattle.sb_kind.specs.Elements.{IsOf, plus}
use Rattle.sb_kind.specs.declared.agg.Agg.{Agg}
use Rattle.sb_kind.specs.declared.dictionary.KindM.{KindM}
use Rattle.sb_laws.specs.Sums.{sum_of}
use Rattle.sb_laws.specs.Tables.{values_at}
use Rattle.sb_plan.specs.Emitted.{emitted, fold_of, everywhere}
use Rattle.sb_plan.specs.Given.{feeding_of, planned}
use Rattle.sb_plan.specs.Parts.{key_at}
use Rattle.sb_plan.specs.Runners.{AreStores, StoresValue, kind_monoid, name_at, valid_at}
use Rattle.sb_service.specs.Rows.{Rows}
use Rattle.sb_run.specs.Batching.{IsFedTo, all_values, batch_row, stores}
use Rattle.sb_run.specs.Run.{report_text, run_of, store_runs}
use Rattle.sb_run.proofs.BatchValues.{values_are_folds}
use Rattle.sb_run.proofs.Reports.{rows_are_reports}
use Rattle.sb_run.proofs.StoreRuns.{runs_length, run_at, from_first, texts_from}
use Rattle.sb_run.proofs.Stores.{there, monoid_is, plus_same, valid_same, same_length}

module _ (c : CheckedProgram) (runner : StoresValue KindM) (are : AreStores c kind_monoid runner) where
  many : length runner.monoids ≡ length c.declared.stores
  many = same_length kind_monoid (λ s. s.monoid) runner.monoids c.declared.stores are.monoids

  pub many_planned : length runner.monoids ≡ length (planned c).stores
  many_planned = many ∙ sym (length-map c.declared.stores feeding_of)

  -- what is fed to a store is valid for its dictionary
  pub fed_to_store : (store : ℕ) → store < length runner.monoids → (fed : List (List ℕ × Agg)) → AllByRecursion (λ x. valid_at c store x.1) fed → AllByRecursion (IsFedTo runner store) fed
  fed_to_store store less fed h =
      let d = there c.declared.stores store (omega (arith, less, many)) in
      subst (λ (V : Agg → Type 0). AllByRecursion (λ x. V x.1) fed) (sym (valid_same kind_monoid runner.monoids c.declared.stores store d.0 are.monoids d.1 ∙ sym (ap IsOf (monoid_is c store d.0 d.1)))) h

module _ (c : CheckedProgram) (log : List Logged) (services : List Rows) (runner : StoresValue KindM) (are : AreStores c kind_monoid runner) where
  below_stores : (rows : List (KeyBytes × Agg)) → AreValid (stores runner) rows → AllByRecursion (λ row. row.0.store < 0 + length (store_runs c log services 0 c.declared.stores)) rows
  below_stores [] valid = tt
  below_stores (row ∷ rows) valid =
      (let less = valid.0.0 in let count = many c runner are in let all = runs_length c log services 0 c.declared.stores in omega (arith, less, count, all), below_stores rows valid.1)

  pub batch_report : (rows : List (KeyBytes × Agg)) → HavePlaces 0 log → IsTrue (is_sorted key_order rows) → AreKeySums (stores runner) (all_values c services log) rows → flat_map (batch_row runner) rows ≡ report_text (run_of c 1 1 log services)
  batch_report rows places rising sums =
      rows_are_reports (batch_row runner) 0 (store_runs c log services 0 c.declared.stores) rows
      (texts_from c log services runner.names 0 c.declared.stores (λ k. ap (λ names. name_at names (0 + k)) are.names ∙ ap (λ m. name_at (map (λ s. s.name) c.declared.stores) m) (omega arith)))
      (from_first rows) (below_stores rows sums.valid) rising
      (record {
        folds = λ n s is key.
            let d = run_at c log services 0 n c.declared.stores s is in
            let less = slice_get_within c.declared.stores n d.0 d.1 in
            sums.sums (key_at (0 + n) key)
            ∙ (ap (λ k. sum_of ((stores runner).add k) (values_at key_order (key_at k key) (all_values c services log))) (omega arith)
            ∙ (ap (λ add. sum_of add (values_at key_order (key_at n key) (all_values c services log))) (plus_same kind_monoid runner.monoids c.declared.stores n d.0 are.monoids d.1)
            ∙ (values_are_folds c log services (plus (d.0).monoid) n key (let count = length-map c.declared.stores feeding_of in omega (arith, less, count)) places
            ∙ (ap (λ k. fold_of (plus (d.0).monoid) (emitted c log services k) key everywhere) (omega arith)
            ∙ sym (ap (λ x. fold_of x.add x.emissions key everywhere) d.2)))));
      })
