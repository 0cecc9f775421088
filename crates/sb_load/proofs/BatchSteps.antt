-- What is loaded for a batch, step by step.
use Rattle.std.proofs.Common.{◌≡◌, ℕ, List, [], Some, None, Ok, Err, subst, sym}
use Rattle.std.specs.Prelude.{Result}
use Rattle.sb_io.specs.Shelf.{Content}
use Rattle.sb_check.specs.Log.{LogFault, Logged, log_of}
use Rattle.sb_check.specs.Programs.{CheckedProgram}
use Rattle.sb_report.specs.declared.script.Ask.{Ask}
use Rattle.sb_service.specs.Rows.{Rows}
use Rattle.sb_words.specs.declared.command.Command.{Command}
use Rattle.sb_load.specs.Batches.{TellsBatch, inputs_with}
use Rattle.sb_load.specs.Commands.{chunk_of, files_of, has_services, log_name, script_name}
use Rattle.sb_load.specs.Inputs.{FitsChunks, Follows, Inputs, Loads, LoadsChecked, LoadsFile, LoadsLog, LoadsOthers, LoadsRecords, LoadsScript, LoadsServices, ReadsLog, Then, WhenNamed, log_refusal, refused_by}
use Rattle.sb_load.specs.Limits.{most_log_bytes}
use Rattle.sb_load.specs.Steps.{AreBytes, TellsRefusal}
use Rattle.sb_load.specs.declared.batch_inputs.BatchInputs.{BatchInputs}
use Rattle.sb_load.specs.declared.refusal.Refusal.{Refusal}
use Rattle.sb_load.specs.declared.refusal.Refusal.TheVariants as refused
use Rattle.sb_load.specs.declared.refusal.Which.TheVariants as which
use Rattle.sb_load.proofs.Loading.{file_read, goes_on, refused_tells, stops}
use Rattle.sb_load.proofs.Others.{BehindLog, BehindServices, Joined, log_refused, others_loaded}

-- what is told of the inputs behind a program is told of all
pub behind_program : (content : List ℕ → Content) (command : Command) (name : List ℕ) (program : CheckedProgram)
    → ((step : Result CheckedProgram Refusal) → LoadsChecked content command name step → step ≡ Ok program)
    → (result : Result BatchInputs Refusal) → TellsBatch (LoadsOthers content command program) result → TellsBatch (Loads content command (Some name)) result
behind_program content command name program checked (Ok i) tells = goes_on (LoadsChecked content command name) (LoadsOthers content command) program _ checked tells
behind_program content command name program checked (Err refusal) tells = goes_on (LoadsChecked content command name) (LoadsOthers content command) program _ checked tells

module _ (content : List ℕ → Content) (command : Command) (c : CheckedProgram) (log : List ℕ)
    (named : log_name command ≡ Some log) (undivided : chunk_of command ≡ None) (unasked : script_name command ≡ None) where
  abbrev Logs : Result (List Logged) Refusal → Type 0
  Logs = WhenNamed (log_name command) [] (LoadsLog content c)

  abbrev Fits : List Logged → Result (List Logged) Refusal → Type 0
  Fits records = Then (FitsChunks (chunk_of command) records) (λ _ loaded. loaded ≡ Ok records)

  -- a log that isn't fetched
  log_unread : (refusal : Refusal) → ((loaded : Result (List ℕ) Refusal) → LoadsFile which.Log most_log_bytes refused.LogLonger AreBytes (content log) loaded → TellsRefusal refusal loaded)
      → (step : Result (List Logged) Refusal) → LoadsRecords content command c step → TellsRefusal refusal step
  log_unread refusal fetched = stops Logs Fits refusal
      (subst (λ o. (step : Result (List Logged) Refusal) → WhenNamed o [] (LoadsLog content c) step → TellsRefusal refusal step) (sym named)
      (refused_tells which.Log most_log_bytes refused.LogLonger (ReadsLog c) (λ (records : List Logged). records) (content log) refusal fetched))

  module _ (rows : List Rows) (joined : (step : Result (List Rows) Refusal) → LoadsServices content (has_services command) (files_of command) c.declared step → step ≡ Ok rows) where
    pub text_refused : (refusal : Refusal) → ((loaded : Result (List ℕ) Refusal) → LoadsFile which.Log most_log_bytes refused.LogLonger AreBytes (content log) loaded → TellsRefusal refusal loaded)
        → (loaded : Result Inputs Refusal) → LoadsOthers content command c loaded → TellsRefusal refusal loaded
    text_refused refusal fetched = log_refused content command c rows joined refusal (log_unread refusal fetched)

    module _ (bytes : List ℕ) (fetched : (loaded : Result (List ℕ) Refusal) → LoadsFile which.Log most_log_bytes refused.LogLonger AreBytes (content log) loaded → loaded ≡ Ok bytes) where
      log_read : (step : Result (List Logged) Refusal) → Logs step → step ≡ refused_by log_refusal (log_of c bytes)
      log_read =
          subst (λ o. (step : Result (List Logged) Refusal) → WhenNamed o [] (LoadsLog content c) step → step ≡ refused_by log_refusal (log_of c bytes)) (sym named)
          (file_read which.Log most_log_bytes refused.LogLonger (ReadsLog c) (λ step. step ≡ refused_by log_refusal (log_of c bytes)) (content log) bytes fetched (λ step is. is))

      all_fit : (records : List Logged) (step : Result (Unit {0}) Refusal) → FitsChunks (chunk_of command) records step → step ≡ Ok tt
      all_fit records = subst (λ o. (step : Result (Unit {0}) Refusal) → FitsChunks o records step → step ≡ Ok tt) (sym undivided) (λ step is. is)

      recorded : (said : Result (List Logged) LogFault) → ((step : Result (List Logged) Refusal) → Logs step → step ≡ refused_by log_refusal said)
          → (step : Result (List Logged) Refusal) → LoadsRecords content command c step → step ≡ refused_by log_refusal said
      recorded (Ok records) read = goes_on Logs Fits records (λ loaded. loaded ≡ Ok records) read
          (goes_on (FitsChunks (chunk_of command) records) (λ _ loaded. loaded ≡ Ok records) tt (λ loaded. loaded ≡ Ok records) (all_fit records) (λ loaded is. is))
      recorded (Err fault) read = λ step is. subst (λ s. Follows Fits s step) (read is.0 is.1) is.2

      unasked_for : (step : Result (List Ask) Refusal) → WhenNamed (script_name command) [] (LoadsScript content c.declared) step → step ≡ Ok []
      unasked_for = subst (λ o. (step : Result (List Ask) Refusal) → WhenNamed o [] (LoadsScript content c.declared) step → step ≡ Ok []) (sym unasked) (λ step is. is)

      loaded_with : (said : Result (List Logged) LogFault) → ((step : Result (List Logged) Refusal) → LoadsRecords content command c step → step ≡ refused_by log_refusal said)
          → (loaded : Result Inputs Refusal) → LoadsOthers content command c loaded → loaded ≡ inputs_with c rows said
      loaded_with (Ok records) read = others_loaded content command c rows joined records read [] unasked_for
      loaded_with (Err fault) read = goes_on (Joined content command c) (BehindServices content command c) rows (λ loaded. loaded ≡ Err (log_refusal fault)) joined
          (λ loaded is. subst (λ s. Follows (BehindLog content command c rows) s loaded) (read is.0 is.1) is.2)

      -- the inputs are those with what the log says
      pub text_loaded : (loaded : Result Inputs Refusal) → LoadsOthers content command c loaded → loaded ≡ inputs_with c rows (log_of c bytes)
      text_loaded = loaded_with (log_of c bytes) (recorded (log_of c bytes) log_read)
