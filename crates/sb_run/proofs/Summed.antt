-- Sums of the records of a log: of none, and of one more.
use Rattle.std.proofs.Common.{◌≡◌, ◌<◌, ◌∙◌, ℕ, List, [], ◌∷◌, ◌++◌, length, map, Ok, Err, ap, append-nil, refl, subst, sym}
use Rattle.std.specs.Prelude.{Result, OnOk, IfOk, IfErr, IsPermutation}
use Rattle.std.specs.FinMap.{find}
use Rattle.std.specs.List.{AllByRecursion}
use Rattle.sb_laws.proofs.Sums.{valid_append}
use Rattle.sb_check.specs.Log.{LogFault, Logged}
use Rattle.sb_check.specs.Programs.{CheckedProgram}
use Rattle.sb_check.specs.declared.log.LogError.{LogError}
use Rattle.sb_check.specs.declared.log.LogError.TheVariants.{Line, TooMany, NoMemory}
use Rattle.sb_feed.specs.Jobs.{AreValid, Dictionaries}
use Rattle.sb_feed.specs.declared.key.KeyBytes.{KeyBytes}
use Rattle.sb_feed.specs.Keys.{key_order}
use Rattle.sb_job.specs.Sums.{AreKeySums, HasKeySums}
use Rattle.sb_job.proofs.Growing.{permuted_valid}
use Rattle.sb_kind.specs.declared.agg.Agg.{Agg}
use Rattle.sb_kind.specs.declared.dictionary.KindM.{KindM}
use Rattle.sb_log.specs.Reader.{GivesNext}
use Rattle.sb_log.specs.Reading.{GivesLog, records_behind}
use Rattle.sb_plan.specs.Given.{planned}
use Rattle.sb_plan.specs.Runners.{StoresValue}
use Rattle.sb_service.specs.Rows.{Rows}
use Rattle.sb_run.specs.Batching.{AreSummed, IsFedTo, all_values, keyed, stores, values_of}
use Rattle.sb_run.proofs.BatchValues.{values_next}

-- ---- valid values

pub both_valid : (d : Dictionaries Agg) (xs ys : List (KeyBytes × Agg)) → AreValid d xs → AreValid d ys → AreValid d (xs ++ ys)
both_valid d xs ys h k = valid_append (λ (row : KeyBytes × Agg). (row.0.store < d.stores) × d.valid row.0.store row.1) xs ys h k

-- what is fed to a store, by its key
pub keyed_valid : (runner : StoresValue KindM) (store : ℕ) → store < length runner.monoids → (fed : List (List ℕ × Agg)) → AllByRecursion (IsFedTo runner store) fed
    → AreValid (stores runner) (map (keyed store) fed)
keyed_valid runner store less [] h = tt
keyed_valid runner store less (x ∷ fed) h = ((less, h.0), keyed_valid runner store less fed h.1)

module _ (c : CheckedProgram) (services : List Rows) (runner : StoresValue KindM) where
  -- no record feeds nothing
  pub none_summed : AreSummed c services runner [] []
  none_summed = record { valid = tt; fed = tt; sums = λ key. refl }

  -- a record more
  pub next_summed : (given : List Logged) (r : Logged) (before now : List (KeyBytes × Agg)) → AreSummed c services runner given before
      → AreValid (stores runner) now → AreValid (stores runner) (values_of (planned c) services r)
      → ((values : List (KeyBytes × Agg)) → HasKeySums (stores runner) values before → HasKeySums (stores runner) (values ++ values_of (planned c) services r) now)
      → AreSummed c services runner (given ++ r ∷ []) now
  next_summed given r before now summed valid fed sums = record {
    valid = valid;
    fed = subst (AreValid (stores runner)) (values_next c services given r) (both_valid (stores runner) (all_values c services given) (values_of (planned c) services r) summed.fed fed);
    sums = subst (λ l. HasKeySums (stores runner) l now) (values_next c services given r) (sums (all_values c services given) summed.sums);
  }

  -- and as rows
  pub rows_given : (said : Result (List Logged) LogFault) (sums : List (KeyBytes × Agg)) → GivesLog (AreSummed c services runner) said (Ok sums) → (result : Result (List (KeyBytes × Agg)) LogError)
      → IfOk result (λ rows. IsPermutation sums rows × ((q : KeyBytes) → find key_order q rows ≡ find key_order q sums)) → IfErr result (λ e. e ≡ NoMemory)
      → GivesLog (λ records. AreKeySums (stores runner) (all_values c services records)) said result
  rows_given said sums all (Ok rows) ok err = (all.0, all.1, record { valid = permuted_valid (stores runner) sums rows ok.0 all.2.valid; sums = λ key. ok.1 key ∙ all.2.sums key })
  rows_given said sums all (Err e) ok err = subst (λ e. GivesLog (λ records. AreKeySums (stores runner) (all_values c services records)) said (Err e)) (sym err) tt

-- ---- faults

-- a call that was done kept what it promises then
pub when_ok : {T E P : Type 0} (r : Result T E) (a : T) → r ≡ Ok a → OnOk r P → P
when_ok {P = P} r a is h = subst (λ r. OnOk r P) is h

-- what is wrong with a log, whatever would be made of it
pub same_fault : {X Y : Type 0} (P : List Logged → X → Type 0) (Q : List Logged → Y → Type 0) (said : Result (List Logged) LogFault) (e : LogError)
    → GivesLog P said (Err e) → GivesLog Q said (Err e)
same_fault P Q said (Line number kind) is = is
same_fault P Q said TooMany is = is
same_fault P Q said NoMemory is = tt

module _ (given : List Logged) (left : Result (List Logged) LogFault) (said : Result (List Logged) LogFault) (read : records_behind given left ≡ said) where
  -- a fault that comes behind some records is that of the log
  pub fault_behind : {X : Type 0} (P : List Logged → X → Type 0) (rest : Result (List Logged) LogFault) (e : LogError) → GivesNext left rest (Err e) → GivesLog P said (Err e)
  fault_behind P rest (Line number kind) is = sym read ∙ ap (records_behind given) is
  fault_behind P rest TooMany is = sym read ∙ ap (records_behind given) is
  fault_behind P rest NoMemory is = tt

  -- at the end the log is what was given
  pub all_given : left ≡ Ok [] → said ≡ Ok given
  all_given is = sym read ∙ (ap (records_behind given) is ∙ ap Ok (append-nil given))
