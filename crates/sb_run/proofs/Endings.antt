-- How a command ends, from what its steps answered.
use Rattle.std.proofs.Common.{◌≡◌, ◌⊎◌, ◌≤◌, ℕ, Bool, true, false, List, [], Option, Some, None, Ok, Err, subst, sym, refl, ap, ◌∙◌, arith}
use Rattle.std.specs.Prelude.{Result, OnOk}
use mathlib.Core.Logic.{inl, inr}
use Rattle.sb_io.specs.Faults.{Rose}
use Rattle.sb_io.specs.Shelf.{Content}
use Rattle.sb_io.specs.Sink.{Appends, HasSinkCause}
use Rattle.sb_io.specs.declared.sink.SinkError.{SinkError}
use Rattle.sb_io.specs.declared.sink.SinkError.TheVariants as failed
use Rattle.sb_load.specs.Causes.{IsCausedBy, Leaves}
use Rattle.sb_load.specs.Commands.{Step, program, order, services, log, chunks, script, program_name}
use Rattle.sb_load.specs.Batches.{inputs_with}
use Rattle.sb_load.specs.Inputs.{Inputs, Loads, log_refusal}
use Rattle.sb_load.proofs.Loading.{told}
use Rattle.sb_check.specs.Log.{LogFault, Logged, bad_line, too_many}
use Rattle.sb_check.specs.Programs.{CheckedProgram}
use Rattle.sb_service.specs.Rows.{Rows}
use Rattle.sb_run.specs.BatchAnswer.{batch_answer}
use Rattle.sb_run.specs.Run.{report_text, run_of}
use Rattle.sb_load.specs.Refusals.{Answer, Cause, shelf, memory, input, cause_of, status_of, refusal_answer}
use Rattle.sb_load.specs.Steps.{TellsBy, TellsRefusal}
use Rattle.sb_load.specs.declared.refusal.Refusal.{Refusal}
use Rattle.sb_load.specs.declared.refusal.Refusal.TheVariants as refused
use Rattle.sb_load.specs.declared.refusal.Which.{Which}
use Rattle.sb_run.specs.Call.{IsCutShort, Ends, IsOfWords, IsOfInputs, NamesFault, Refuses, LeavesBy, LeavesOf, Keeps}
use Rattle.sb_run.specs.Due.{Due, exactly, transcript, done, Gives, IsDue, IsDueBy, IsMade, is_served, usage_answer, unserved_answer}
use Rattle.sb_run.specs.Endings.{PutEnds, EndsPut}
use Rattle.sb_run.specs.Commands.{IsBatch, IsCheck, IsServedRun}
use Rattle.sb_words.specs.declared.command.Command.{Command}
use Rattle.sb_words.specs.declared.command.Command.TheVariants.{Check, Batch, Run, Audit, Demo}

-- the one refusal of this cause
fault_of : (refusal : Refusal) (file : Which) → cause_of refusal ≡ shelf file → refusal ≡ refused.Shelf file
fault_of (refused.Shelf told) file is = cc
fault_of refused.NoMemory file is = cc
fault_of refused.ProgramLonger file is = cc
fault_of (refused.Syntax offset why) file is = cc
fault_of (refused.Check statement why) file is = cc
fault_of (refused.Order store) file is = cc
fault_of refused.ServiceUnknown file is = cc
fault_of (refused.ServiceMissing name) file is = cc
fault_of (refused.ServiceLonger name) file is = cc
fault_of (refused.ServiceBad name line) file is = cc
fault_of (refused.ServiceTwice name line first) file is = cc
fault_of refused.LogLonger file is = cc
fault_of (refused.LogLine line why) file is = cc
fault_of refused.LogTooMany file is = cc
fault_of refused.LogChunks file is = cc
fault_of refused.ScriptLonger file is = cc
fault_of (refused.ScriptLine line) file is = cc

step_isnt_three : (step : Step) → status_of (input step) ≡ 3 → ⊥
step_isnt_three program is = omega (arith, is)
step_isnt_three order is = omega (arith, is)
step_isnt_three services is = omega (arith, is)
step_isnt_three log is = omega (arith, is)
step_isnt_three chunks is = omega (arith, is)
step_isnt_three script is = omega (arith, is)

-- ---- batches

abbrev batch_inputs : CheckedProgram → List Rows → List Logged → Inputs
batch_inputs c rows records = record { program = c; services = rows; records = records; asks = [] }

-- a batch makes its report
batch_due : (command : Command) → IsBatch command → (inputs : Inputs) (due : Due) → IsMade command inputs due
    → due ≡ done (report_text (run_of inputs.program 1 1 inputs.records inputs.services))
batch_due (Check p) own inputs due is = absurd own
batch_due (Batch p l files) own inputs due is = is
batch_due (Run p l s files settings) own inputs due is = absurd own
batch_due (Audit p l s judged files chunk shards) own inputs due is = absurd own
batch_due (Demo seed records workers) own inputs due is = absurd own

-- and reads a log
log_caused : (command : Command) → IsBatch command → (before now : List ℕ → ℕ) (fault : LogFault) → IsCausedBy command before now (cause_of (log_refusal fault))
log_caused (Check p) own before now fault = absurd own
log_caused (Batch p l files) own before now (bad_line number kind) = refl
log_caused (Batch p l files) own before now too_many = refl
log_caused (Run p l s files settings) own before now fault = absurd own
log_caused (Audit p l s judged files chunk shards) own before now fault = absurd own
log_caused (Demo seed records workers) own before now fault = absurd own

-- what a put that ends well left is what it was given
abbrev pub DoneBy : Due → Option (List ℕ) → Option (List ℕ) → Type 0
DoneBy due before now = (bytes : List ℕ) × (due ≡ done bytes) × Appends bytes before now

module _ (content_before content_now : List ℕ → Content) (faults_before faults_now : List ℕ → ℕ)
    (before now : Option (List ℕ)) (sink_before sink_now : ℕ) (status : ℕ) where
  cut_short : (due : Due) → IsCutShort status → Ends due before now status
  cut_short (exactly answer) short = inr short
  cut_short (transcript run settings asks) short = inr short

  put_exactly : (answer : Answer) → PutEnds answer before now status → Ends (exactly answer) before now status
  put_exactly answer ends = elim ends [
    | inl put ↦ inl put
    | inr other ↦ elim other [ inl four ↦ inr (inr (inl four)) | inr five ↦ inr (inr (inr five)) ]
  ]

  put_short : (answer : Answer) (due : Due) → PutEnds answer before now status → (status ≡ answer.status → IsCutShort status) → Ends due before now status
  put_short answer due ends on = elim ends [
    | inl put ↦ cut_short due (on put.0)
    | inr other ↦ elim other [ inl four ↦ cut_short due (inr (inl four)) | inr five ↦ cut_short due (inr (inr five)) ]
  ]

  refuses : (command : Option Command) (answer : Answer) → IsOfWords command answer ⊎ IsOfInputs command faults_before faults_now answer → PutEnds answer before now status
      → Refuses command faults_before faults_now status before now
  refuses command answer is ends = elim ends [
    | inl put ↦ inr (inr (inr (answer, is, put.0, put.1)))
    | inr other ↦ elim other [ inl four ↦ inr (inl four) | inr five ↦ inr (inr (inl five)) ]
  ]

  -- ---- words that are refused

  words_status : (command : Option Command) (answer : Answer) → IsOfWords command answer → answer.status ≡ 2
  words_status None answer is = ap (λ a. a.status) is
  words_status (Some command) answer is = ap (λ a. a.status) is.1

  not_three : (answer : Answer) → (answer.status ≡ 3 → ⊥) → PutEnds answer before now status → status ≡ 3 → ⊥
  not_three answer other_status ends three = elim ends [
    | inl put ↦ other_status (sym put.0 ∙ three)
    | inr other ↦ elim other [ inl four ↦ omega (arith, three, four) | inr five ↦ omega (arith, three, five) ]
  ]

  pub words_keep : (command : Option Command) (answer : Answer) → IsOfWords command answer → ((due : Due) → IsDue content_before command due → due ≡ exactly answer)
      → LeavesOf command content_before content_now faults_before faults_now → PutEnds answer before now status → (status ≡ 4 → Rose sink_before sink_now) → sink_before ≤ sink_now
      → Keeps command content_before content_now faults_before faults_now before now sink_before sink_now status
  words_keep command answer is only leaves ends sink later = record {
    exact = λ due is_due. subst (λ d. Ends d before now status) (sym (only due is_due)) (put_exactly answer ends);
    shelf = λ three. absurd (not_three answer (λ told. let two = words_status command answer is in omega (arith, two, told)) ends three);
    sink = sink;
    refusals = refuses command answer (inl is) ends;
    frame = leaves;
    later = later;
  }

  -- words that wanted memory
  pub memory_keeps : (command : Option Command) → LeavesOf command content_before content_now faults_before faults_now → PutEnds (refusal_answer refused.NoMemory) before now status
      → (status ≡ 4 → Rose sink_before sink_now) → sink_before ≤ sink_now
      → Keeps command content_before content_now faults_before faults_now before now sink_before sink_now status
  memory_keeps command leaves ends sink later = record {
    exact = λ due is_due. put_short (refusal_answer refused.NoMemory) due ends (λ five. inr (inr five));
    shelf = λ three. absurd (elim ends [
      | inl put ↦ omega (arith, three, put.0)
      | inr other ↦ elim other [ inl four ↦ omega (arith, three, four) | inr five ↦ omega (arith, three, five) ]
    ]);
    sink = sink;
    refusals = elim ends [
      | inl put ↦ inr (inr (inl put.0))
      | inr other ↦ elim other [ inl four ↦ inr (inl four) | inr five ↦ inr (inr (inl five)) ]
    ];
    frame = leaves;
    later = later;
  }

  -- ---- commands

  module _ (command : Command) (served : is_served command ≡ true) where
    served_leaves : Leaves command content_before content_now faults_before faults_now → LeavesOf (Some command) content_before content_now faults_before faults_now
    served_leaves leaves = subst (λ b. LeavesBy b command content_before content_now faults_before faults_now) (sym served) leaves

    -- what is due is given by what is loaded
    due_given : (P : Due → Type 0) → ((loaded : Result Inputs Refusal) → Loads content_before command (program_name command) loaded → (due : Due) → Gives command loaded due → P due)
        → (due : Due) → IsDue content_before (Some command) due → P due
    due_given P given due is = let by = subst (λ b. IsDueBy b content_before command due) served is in given by.0 by.1 due by.2

    refused_by_cause : (refusal : Refusal) (cause : Cause) (loaded : Result Inputs Refusal) (due : Due) → cause_of refusal ≡ cause → TellsBy cause refusal loaded → Gives command loaded due
        → PutEnds (refusal_answer refusal) before now status → Ends due before now status
    refused_by_cause refusal (shelf file) loaded due is tells gives ends = put_short (refusal_answer refusal) due ends (λ same. inl (same ∙ ap status_of is))
    refused_by_cause refusal memory loaded due is tells gives ends = put_short (refusal_answer refusal) due ends (λ same. inr (inr (same ∙ ap status_of is)))
    refused_by_cause refusal (input step) loaded due is tells gives ends =
        let only : due ≡ exactly (refusal_answer refusal) = subst (λ l. Gives command l due) tells gives in
        subst (λ d. Ends d before now status) (sym only) (put_exactly (refusal_answer refusal) ends)

    names_by : (refusal : Refusal) (cause : Cause) → cause_of refusal ≡ cause → IsCausedBy command faults_before faults_now cause → status ≡ 3 → status ≡ status_of cause
        → Appends (refusal_answer refusal).bytes before now → NamesFault command faults_before faults_now before now
    names_by refusal (shelf file) is caused three same put = (file, caused, subst (λ r. Appends (refusal_answer r).bytes before now) (fault_of refusal file is) put)
    names_by refusal memory is caused three same put = absurd (omega (arith, three, same))
    names_by refusal (input step) is caused three same put = absurd (step_isnt_three step (sym same ∙ three))

    names_fault : (refusal : Refusal) → IsCausedBy command faults_before faults_now (cause_of refusal) → PutEnds (refusal_answer refusal) before now status → status ≡ 3
        → NamesFault command faults_before faults_now before now
    names_fault refusal caused ends three = elim ends [
      | inl put ↦ names_by refusal (cause_of refusal) refl caused three put.0 put.1
      | inr other ↦ elim other [ inl four ↦ absurd (omega (arith, three, four)) | inr five ↦ absurd (omega (arith, three, five)) ]
    ]

    -- a command that is refused, and whose line is put
    pub refused_keeps : (refusal : Refusal) → ((loaded : Result Inputs Refusal) → Loads content_before command (program_name command) loaded → TellsRefusal refusal loaded)
        → IsCausedBy command faults_before faults_now (cause_of refusal) → Leaves command content_before content_now faults_before faults_now → PutEnds (refusal_answer refusal) before now status
        → (status ≡ 4 → Rose sink_before sink_now) → sink_before ≤ sink_now
        → Keeps (Some command) content_before content_now faults_before faults_now before now sink_before sink_now status
    refused_keeps refusal tells caused leaves ends sink later = record {
      exact = due_given (λ due. Ends due before now status) (λ loaded loads due gives. refused_by_cause refusal (cause_of refusal) loaded due refl (tells loaded loads) gives ends);
      shelf = names_fault refusal caused ends;
      sink = sink;
      refusals = refuses (Some command) (refusal_answer refusal) (inr (refusal, caused, refl)) ends;
      frame = served_leaves leaves;
      later = later;
    }

    -- a batch that put its report, or the line of what is wrong with its log
    pub batch_keeps : IsBatch command → (c : CheckedProgram) (rows : List Rows) (said : Result (List Logged) LogFault)
        → ((loaded : Result Inputs Refusal) → Loads content_before command (program_name command) loaded → loaded ≡ inputs_with c rows said)
        → Leaves command content_before content_now faults_before faults_now → PutEnds (batch_answer c rows said) before now status
        → (status ≡ 4 → Rose sink_before sink_now) → sink_before ≤ sink_now
        → Keeps (Some command) content_before content_now faults_before faults_now before now sink_before sink_now status
    batch_keeps own c rows (Err fault) loads leaves ends sink later =
        refused_keeps (log_refusal fault) (λ loaded loaded_is. told (log_refusal fault) loaded (loads loaded loaded_is)) (log_caused command own faults_before faults_now fault) leaves ends sink later
    batch_keeps own c rows (Ok records) loads leaves ends sink later = record {
      exact = due_given (λ due. Ends due before now status) (λ loaded loaded_is due gives.
          let only = batch_due command own (batch_inputs c rows records) due (subst (λ l. Gives command l due) (loads loaded loaded_is) gives) in
          subst (λ d. Ends d before now status) (sym only) (put_exactly (batch_answer c rows (Ok records)) ends));
      shelf = λ three. absurd (not_three (batch_answer c rows (Ok records)) (λ no. omega (arith, no)) ends three);
      sink = sink;
      refusals = elim ends [
        | inl put ↦ inl put.0
        | inr other ↦ elim other [ inl four ↦ inr (inl four) | inr five ↦ inr (inr (inl five)) ]
      ];
      frame = served_leaves leaves;
      later = later;
    }

    -- a command that read its inputs, and put what it made of them
    module _ (mid : Option (List ℕ)) (sink_mid : ℕ) (inputs : Inputs) (loads : (loaded : Result Inputs Refusal) → Loads content_before command (program_name command) loaded → loaded ≡ Ok inputs)
        (leaves : Leaves command content_before content_now faults_before faults_now) where
      put_ends : (put : Result (Unit {0}) SinkError) (due : Due) → OnOk put (DoneBy due before mid) → EndsPut put mid now status → Ends due before now status
      put_ends (Ok done') due by ends = subst (λ d. Ends d before now status) (sym by.1) (inl (ends.0, subst (λ n. Appends by.0 before n) (sym ends.1) by.2))
      put_ends (Err e) due by ends = elim ends [ inl four ↦ cut_short due (inr (inl four)) | inr five ↦ cut_short due (inr (inr five)) ]

      put_isnt_three : (put : Result (Unit {0}) SinkError) → EndsPut put mid now status → status ≡ 3 → ⊥
      put_isnt_three (Ok done') ends three = omega (arith, ends.0, three)
      put_isnt_three (Err e) ends three = elim ends [ inl four ↦ omega (arith, three, four) | inr five ↦ omega (arith, three, five) ]

      put_refuses : (put : Result (Unit {0}) SinkError) → EndsPut put mid now status → Refuses (Some command) faults_before faults_now status before now
      put_refuses (Ok done') ends = inl ends.0
      put_refuses (Err e) ends = elim ends [ inl four ↦ inr (inl four) | inr five ↦ inr (inr (inl five)) ]

      pub made_keeps : (put : Result (Unit {0}) SinkError) → ((due : Due) → IsMade command inputs due → OnOk put (DoneBy due before mid)) → HasSinkCause sink_before sink_mid put
          → EndsPut put mid now status → sink_mid ≤ sink_now → (status ≡ 4 → (put ≡ Err failed.Failed) ⊎ Rose sink_mid sink_now)
          → Keeps (Some command) content_before content_now faults_before faults_now before now sink_before sink_now status
      made_keeps put makes cause ends later sink = record {
        exact = due_given (λ due. Ends due before now status) (λ loaded loaded_is due gives.
            put_ends put due (makes due (subst (λ l. Gives command l due) (loads loaded loaded_is) gives)) ends);
        shelf = λ three. absurd (put_isnt_three put ends three);
        sink = λ four. elim (sink four) [
          | inl is ↦ let rose : Rose sink_before sink_mid = cause.failed is in omega (arith, rose, later)
          | inr rose ↦ let early = cause.later in omega (arith, rose, early)
        ];
        refusals = put_refuses put ends;
        frame = served_leaves leaves;
        later = omega (arith, cause.later, later);
      }

-- a shelf that isn't used is left, whatever the words are
left_by : (served : Bool) (command : Command) (content : List ℕ → Content) (faults : List ℕ → ℕ) → LeavesBy served command content content faults faults
left_by false command content faults = ((λ any. refl), λ any. refl)
left_by true command content faults = record { same = λ any. refl; later = λ any. omega arith; others = λ other is_other. refl }

pub all_left : (command : Option Command) (content : List ℕ → Content) (faults : List ℕ → ℕ) → LeavesOf command content content faults faults
all_left None content faults = ((λ any. refl), λ any. refl)
all_left (Some command) content faults = left_by (is_served command) command content faults

-- what is due for words that are no command
pub usage_only : (content : List ℕ → Content) (due : Due) → IsDue content None due → due ≡ exactly usage_answer
usage_only content due is = is

-- what is due for a command that isn't served
pub unserved_only : (content : List ℕ → Content) (command : Command) → is_served command ≡ false → (due : Due) → IsDue content (Some command) due → due ≡ exactly unserved_answer
unserved_only content command unserved due is = subst (λ b. IsDueBy b content command due) unserved is

-- ---- commands that are served

pub served_check : (command : Command) → IsCheck command → is_served command ≡ true
served_check (Check p) own = refl
served_check (Batch p l files) own = absurd own
served_check (Run p l s files settings) own = absurd own
served_check (Audit p l s judged files chunk shards) own = absurd own
served_check (Demo seed records workers) own = absurd own

pub served_batch : (command : Command) → IsBatch command → is_served command ≡ true
served_batch (Check p) own = absurd own
served_batch (Batch p l files) own = refl
served_batch (Run p l s files settings) own = absurd own
served_batch (Audit p l s judged files chunk shards) own = absurd own
served_batch (Demo seed records workers) own = absurd own

pub served_run : (command : Command) → IsServedRun command → is_served command ≡ true
served_run (Check p) own = absurd own
served_run (Batch p l files) own = absurd own
served_run (Run p l s files settings) own = own
served_run (Audit p l s judged files chunk shards) own = absurd own
served_run (Demo seed records workers) own = absurd own
