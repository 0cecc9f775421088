-- The stores of a run, and the texts of their rows.
use Rattle.std.proofs.Common.{◌≡◌, ℕ, zero, suc, ◌+◌, ◌≤◌, List, [], ◌∷◌, map, length, Some, None, refl, sym, ap, ◌∙◌, arith}
use Rattle.std.specs.Prelude.{slice_get, unwrap_or}
use Rattle.std.specs.List.{AllByRecursion}
use Rattle.sb_check.specs.Declarations.{Store}
use Rattle.sb_check.specs.Log.{Logged}
use Rattle.sb_check.specs.Programs.{CheckedProgram}
use Rattle.sb_feed.specs.declared.key.KeyBytes.{KeyBytes}
use Rattle.sb_kind.specs.ElementText.{element_text}
use Rattle.sb_kind.specs.declared.agg.Agg.{Agg}
use Rattle.sb_plan.specs.Runners.{name_at}
use Rattle.sb_report.specs.Report.{printed_row, row_text}
use Rattle.sb_service.specs.Rows.{Rows}
use Rattle.sb_run.specs.Run.{StoreRun, name_in, store_run, store_runs}
use Rattle.sb_run.proofs.Reports.{RowTexts}

module _ (c : CheckedProgram) (log : List Logged) (services : List Rows) where
  pub runs_length : (n : ℕ) (stores : List Store) → length (store_runs c log services n stores) ≡ length stores
  runs_length n [] = refl
  runs_length n (s ∷ stores) = let others = runs_length (suc n) stores in omega (arith, others)

  pub run_at : (n k : ℕ) (stores : List Store) (s : StoreRun Agg) → slice_get (store_runs c log services n stores) k ≡ Some s
      → (d : Store) × (slice_get stores k ≡ Some d) × (s ≡ store_run c log services (n + k) d)
  run_at n k [] s is = absurd (let no : None ≡ Some s = is in cc)
  run_at n zero (d ∷ stores) s is = (d, refl, let same : Some (store_run c log services n d) ≡ Some s = is in let eq : store_run c log services n d ≡ s = cc in sym eq ∙ ap (λ m. store_run c log services m d) (omega arith))
  run_at n (suc k) (d ∷ stores) s is =
      let later = run_at (suc n) k stores s is in
      (later.0, later.1, later.2 ∙ ap (λ m. store_run c log services m later.0) (omega arith))

  pub names_same : (n k : ℕ) (stores : List Store) → name_in (store_runs c log services n stores) k ≡ unwrap_or (slice_get (map (λ s. s.name) stores) k) []
  names_same n k [] = refl
  names_same n zero (s ∷ stores) = refl
  names_same n (suc k) (s ∷ stores) = names_same (suc n) k stores

  pub texts_from : (names : List (List ℕ)) (n : ℕ) (stores : List Store) → ((k : ℕ) → name_at names (n + k) ≡ unwrap_or (slice_get (map (λ s. s.name) stores) k) [])
      → RowTexts n (printed_row (name_at names) (λ store. element_text)) (store_runs c log services n stores)
  texts_from names n [] is = tt
  texts_from names n (s ∷ stores) is = (
    (λ row here. ap (λ name. row_text name row.0.text (element_text row.1)) (ap (name_at names) (here ∙ omega arith) ∙ is 0)),
    texts_from names (suc n) stores (λ k. ap (name_at names) (omega arith) ∙ is (suc k)),
  )

pub from_first : (rows : List (KeyBytes × Agg)) → AllByRecursion (λ row. 0 ≤ row.0.store) rows
from_first [] = tt
from_first (row ∷ rows) = (omega arith, from_first rows)
