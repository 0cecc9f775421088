-- What a batch puts is its answer.
use Rattle.std.proofs.Common.{◌≡◌, ℕ, List, Option, Ok, Err, subst, sym}
use Rattle.std.specs.Prelude.{Result, OnOk}
use mathlib.Core.Logic.{inl, inr}
use Rattle.sb_check.specs.Log.{LogFault, Logged}
use Rattle.sb_check.specs.Programs.{CheckedProgram}
use Rattle.sb_check.specs.declared.log.LogError.{LogError}
use Rattle.sb_check.specs.declared.log.LogError.TheVariants.{Line, TooMany, NoMemory}
use Rattle.sb_io.specs.Sink.{Appends}
use Rattle.sb_io.specs.declared.sink.SinkError.{SinkError}
use Rattle.sb_load.specs.Refusals.{Answer, refusal_answer}
use Rattle.sb_load.specs.Steps.{log_error_refusal}
use Rattle.sb_load.specs.declared.refusal.Refusal.TheVariants as refused
use Rattle.sb_log.specs.Reading.{GivesLog}
use Rattle.sb_service.specs.Rows.{Rows}
use Rattle.sb_run.specs.BatchAnswer.{batch_answer}
use Rattle.sb_run.specs.Endings.{EndsPut, PutEnds}
use Rattle.sb_run.specs.Run.{report_text, run_of}

module _ (before now : Option (List ℕ)) (status : ℕ) where
  -- want of memory is one of the answers
  pub memory_answers : (answer : Answer) → PutEnds (refusal_answer refused.NoMemory) before now status → PutEnds answer before now status
  memory_answers answer ends = elim ends [ inl put ↦ inr (inr put.0) | inr other ↦ inr other ]

  module _ (c : CheckedProgram) (services : List Rows) (said : Result (List Logged) LogFault) where
    -- the report of a log that is read
    pub report_answers : (records : List Logged) → said ≡ Ok records → (mid : Option (List ℕ)) (put : Result (Unit {0}) SinkError)
        → OnOk put (Appends (report_text (run_of c 1 1 records services)) before mid) → EndsPut put mid now status → PutEnds (batch_answer c services said) before now status
    report_answers records is mid (Ok done) appends ends =
        subst (λ s. PutEnds (batch_answer c services s) before now status) (sym is)
        (inl (ends.0, subst (Appends (report_text (run_of c 1 1 records services)) before) (sym ends.1) appends))
    report_answers records is mid (Err e) appends ends = inr ends

    -- the line of one that isn't
    pub fault_answers : {X : Type 0} (Stands : List Logged → X → Type 0) (e : LogError) → GivesLog Stands said (Err e)
        → PutEnds (refusal_answer (log_error_refusal e)) before now status → PutEnds (batch_answer c services said) before now status
    fault_answers Stands (Line number kind) is ends = subst (λ s. PutEnds (batch_answer c services s) before now status) (sym is) ends
    fault_answers Stands TooMany is ends = subst (λ s. PutEnds (batch_answer c services s) before now status) (sym is) ends
    fault_answers Stands NoMemory is ends = memory_answers (batch_answer c services said) ends
