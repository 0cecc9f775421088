-- The sums of pieces of a log in a row.
use Rattle.std.proofs.Common.{◌≡◌, ◌≤◌, ◌∙◌, ℕ, true, List, ◌++◌, length, Ok, Err, sym, ap, subst, arith}
use Rattle.std.specs.Prelude.{Result, IfOk, nat_le}
use Rattle.std.proofs.lemmas.Bool.Decides.{nat_tests}
use Rattle.std.proofs.lemmas.List.Concat.{flat_map-append}
use Rattle.sb_text.specs.Lines.{lines_of}
use Rattle.sb_check.specs.Log.{LogFault, Logged, log_of, most_records, records_of}
use Rattle.sb_check.specs.Programs.{CheckedProgram}
use Rattle.sb_check.specs.declared.log.LogError.{LogError}
use Rattle.sb_check.specs.declared.log.LogError.TheVariants.{Line as BadLine, TooMany, NoMemory}
use Rattle.sb_feed.specs.Jobs.{AreValid}
use Rattle.sb_feed.specs.declared.key.KeyBytes.{KeyBytes}
use Rattle.sb_job.specs.Sums.{HasKeySums}
use Rattle.sb_kind.specs.declared.agg.Agg.{Agg}
use Rattle.sb_kind.specs.declared.dictionary.KindM.{KindM}
use Rattle.sb_log.specs.Reading.{GivesLog, onto_log}
use Rattle.sb_log.proofs.PieceLines.{room_for, room_is_limit}
use Rattle.sb_plan.specs.Given.{planned}
use Rattle.sb_plan.specs.Runners.{StoresValue}
use Rattle.sb_service.specs.Rows.{Rows}
use Rattle.sb_run.specs.Batching.{AreSummed, all_values, stores, values_of}
use Rattle.sb_run.proofs.Summed.{both_valid}

-- ---- records

-- where no line is too many, the log is what its lines say
pub all_fit : (c : CheckedProgram) (bytes : List ℕ) (count : ℕ) → count ≡ length (lines_of bytes) → nat_le count most_records ≡ true → records_of c (lines_of bytes) ≡ log_of c bytes
all_fit c bytes count is fits =
    let few : length (lines_of bytes) ≤ most_records = grind (arith, nat_tests) in
    sym (room_for c most_records (lines_of bytes) few) ∙ room_is_limit (records_of c (lines_of bytes))

-- ---- faults

-- the first fault is that of both
pub first_fault : {X : Type 0} (P Q : List Logged → X → Type 0) (a b : Result (List Logged) LogFault) (e : LogError) → GivesLog P a (Err e) → GivesLog Q (onto_log a b) (Err e)
first_fault P Q a b (BadLine number kind) is = ap (λ said. onto_log said b) is
first_fault P Q a b TooMany is = ap (λ said. onto_log said b) is
first_fault P Q a b NoMemory is = tt

-- and behind good records, the second
pub second_fault : {X : Type 0} (P Q : List Logged → X → Type 0) (a b : Result (List Logged) LogFault) (records : List Logged) (e : LogError) → a ≡ Ok records → GivesLog P b (Err e)
    → GivesLog Q (onto_log a b) (Err e)
second_fault P Q a b records (BadLine number kind) good is = ap (λ said. onto_log said b) good ∙ ap (onto_log (Ok records)) is
second_fault P Q a b records TooMany good is = ap (λ said. onto_log said b) good ∙ ap (onto_log (Ok records)) is
second_fault P Q a b records NoMemory good is = tt

-- ---- sums

module _ (c : CheckedProgram) (services : List Rows) (runner : StoresValue KindM) where
  -- the sums of records, and then of those behind them
  pub behind_summed : (xs ys : List Logged) (first second now : List (KeyBytes × Agg)) → AreSummed c services runner xs first → AreSummed c services runner ys second
      → AreValid (stores runner) now
      → ((values later : List (KeyBytes × Agg)) → AreValid (stores runner) values → AreValid (stores runner) later → HasKeySums (stores runner) values first → HasKeySums (stores runner) later second
      → HasKeySums (stores runner) (values ++ later) now)
      → AreSummed c services runner (xs ++ ys) now
  behind_summed xs ys first second now of_first of_second valid behind =
      let both = sym (flat_map-append (values_of (planned c) services) xs ys) in
      record {
        valid = valid;
        fed = subst (AreValid (stores runner)) both (both_valid (stores runner) (all_values c services xs) (all_values c services ys) of_first.fed of_second.fed);
        sums = subst (λ values. HasKeySums (stores runner) values now) both
            (behind (all_values c services xs) (all_values c services ys) of_first.fed of_second.fed of_first.sums of_second.sums);
      }

  pub given_valid : (said : Result (List Logged) LogFault) (sums : Result (List (KeyBytes × Agg)) LogError) → GivesLog (AreSummed c services runner) said sums → IfOk sums (AreValid (stores runner))
  given_valid said (Ok sums) given = given.2.valid
  given_valid said (Err e) given = tt

  pub behind_given : (a b : Result (List Logged) LogFault) (first second now : List (KeyBytes × Agg)) → GivesLog (AreSummed c services runner) a (Ok first)
      → GivesLog (AreSummed c services runner) b (Ok second) → AreValid (stores runner) now
      → ((values later : List (KeyBytes × Agg)) → AreValid (stores runner) values → AreValid (stores runner) later → HasKeySums (stores runner) values first → HasKeySums (stores runner) later second
      → HasKeySums (stores runner) (values ++ later) now)
      → GivesLog (AreSummed c services runner) (onto_log a b) (Ok now)
  behind_given a b first second now of_first of_second valid behind = (
    of_first.0 ++ of_second.0,
    ap (λ said. onto_log said b) of_first.1 ∙ ap (onto_log (Ok of_first.0)) of_second.1,
    behind_summed of_first.0 of_second.0 first second now of_first.2 of_second.2 valid behind,
  )
