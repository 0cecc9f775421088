-- What is loaded behind a program, step by step.
use Rattle.std.proofs.Common.{◌≡◌, subst, ℕ, ◌<◌, List, [], IfSome, Ok, arith}
use Rattle.std.specs.Prelude.{Result}
use Rattle.sb_io.specs.Shelf.{Content}
use Rattle.sb_check.specs.Log.{Logged}
use Rattle.sb_check.specs.Programs.{CheckedProgram}
use Rattle.sb_report.specs.declared.script.Ask.{Ask}
use Rattle.sb_service.specs.Rows.{Rows}
use Rattle.sb_words.specs.Limits.{IsWithin}
use Rattle.sb_words.specs.declared.command.Command.{Command}
use Rattle.sb_words.specs.declared.command.Command.TheVariants.{Check, Batch, Run, Audit, Demo}
use Rattle.sb_load.specs.Commands.{chunk_of, files_of, has_services, script_name}
use Rattle.sb_load.specs.Inputs.{Inputs, Then, LoadsOthers, LoadsRecords, LoadsScript, LoadsServices, WhenNamed}
use Rattle.sb_load.specs.Steps.{TellsRefusal}
use Rattle.sb_load.specs.declared.refusal.Refusal.{Refusal}
use Rattle.sb_load.proofs.Loading.{goes_on, stops}

-- what holds of all that is loaded of one shelf and program holds of the same ones
pub carried : {A : Type 0} (Loads : (List ℕ → Content) → CheckedProgram → Result A Refusal → Type 0) (Q : Result A Refusal → Type 0) (before now : List ℕ → Content) (c d : CheckedProgram)
    → now ≡ before → d ≡ c → ((step : Result A Refusal) → Loads now d step → Q step) → (step : Result A Refusal) → Loads before c step → Q step
carried {A = A} Loads Q before now c d same is each =
    subst (λ b. (step : Result A Refusal) → Loads b c step → Q step) same (subst (λ p. (step : Result A Refusal) → Loads now p step → Q step) is each)

-- a command that keeps its limits has chunks of some records
pub some_records : (command : Command) → IsWithin command → IfSome (chunk_of command) (λ n. 0 < n)
some_records (Check p) within = tt
some_records (Batch p l s) within = tt
some_records (Run p l t s settings) within = let least = within.1.chunk.0 in omega (arith, least)
some_records (Audit p l t u s chunk shards) within = let least = within.1.0 in omega (arith, least)
some_records (Demo s r w) within = tt

module _ (content : List ℕ → Content) (command : Command) (c : CheckedProgram) where
  abbrev pub Joined : Result (List Rows) Refusal → Type 0
  Joined = LoadsServices content (has_services command) (files_of command) c.declared

  abbrev Recorded : Result (List Logged) Refusal → Type 0
  Recorded = LoadsRecords content command c

  abbrev Asked : Result (List Ask) Refusal → Type 0
  Asked = WhenNamed (script_name command) [] (LoadsScript content c.declared)

  abbrev all_of : List Rows → List Logged → List Ask → Inputs
  all_of rows records asks = record { program = c; services = rows; records = records; asks = asks }

  abbrev pub BehindLog : List Rows → List Logged → Result Inputs Refusal → Type 0
  BehindLog rows records = Then Asked (λ asks loaded. loaded ≡ Ok (all_of rows records asks))

  abbrev pub BehindServices : List Rows → Result Inputs Refusal → Type 0
  BehindServices rows = Then Recorded (BehindLog rows)

  -- services that are refused
  pub services_refused : (refusal : Refusal) → ((step : Result (List Rows) Refusal) → Joined step → TellsRefusal refusal step)
      → (loaded : Result Inputs Refusal) → LoadsOthers content command c loaded → TellsRefusal refusal loaded
  services_refused refusal refused = stops Joined BehindServices refusal refused

  module _ (rows : List Rows) (joined : (step : Result (List Rows) Refusal) → Joined step → step ≡ Ok rows) where
    -- a log that is refused
    pub log_refused : (refusal : Refusal) → ((step : Result (List Logged) Refusal) → Recorded step → TellsRefusal refusal step)
        → (loaded : Result Inputs Refusal) → LoadsOthers content command c loaded → TellsRefusal refusal loaded
    log_refused refusal refused = goes_on Joined BehindServices rows (TellsRefusal refusal) joined (stops Recorded (BehindLog rows) refusal refused)

    module _ (records : List Logged) (recorded : (step : Result (List Logged) Refusal) → Recorded step → step ≡ Ok records) where
      behind_log : (P : Result Inputs Refusal → Type 0) → ((loaded : Result Inputs Refusal) → BehindLog rows records loaded → P loaded)
          → (loaded : Result Inputs Refusal) → LoadsOthers content command c loaded → P loaded
      behind_log P then = goes_on Joined BehindServices rows P joined (goes_on Recorded (BehindLog rows) records P recorded then)

      -- a script that is refused
      pub script_refused : (refusal : Refusal) → ((step : Result (List Ask) Refusal) → Asked step → TellsRefusal refusal step)
          → (loaded : Result Inputs Refusal) → LoadsOthers content command c loaded → TellsRefusal refusal loaded
      script_refused refusal refused = behind_log (TellsRefusal refusal) (stops Asked (λ asks loaded. loaded ≡ Ok (all_of rows records asks)) refusal refused)

      -- all that stands behind the program
      pub others_loaded : (asks : List Ask) → ((step : Result (List Ask) Refusal) → Asked step → step ≡ Ok asks)
          → (loaded : Result Inputs Refusal) → LoadsOthers content command c loaded → loaded ≡ Ok (all_of rows records asks)
      others_loaded asks asked = behind_log (λ loaded. loaded ≡ Ok (all_of rows records asks))
          (goes_on Asked (λ asks loaded. loaded ≡ Ok (all_of rows records asks)) asks (λ loaded. loaded ≡ Ok (all_of rows records asks)) asked (λ loaded is. is))
