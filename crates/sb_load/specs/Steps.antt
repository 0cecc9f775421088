-- What the steps of loading answer, by what is loaded.
use Rattle.std.specs.Prelude.{◌≡◌, ◌⊎◌, ℕ, Bool, true, false, List, ◌++◌, map, length, Option, Some, None, Result, Ok, Err}
use Rattle.std.specs.Borrow.{Bor}
use Rattle.std.specs.List.{AllByRecursion}
use Rattle.sb_io.specs.Faults.{Rose}
use Rattle.sb_io.specs.Shelf.{Content}
use Rattle.sb_check.specs.CheckedView.{checked_of}
use Rattle.sb_check.specs.Declarations.{Service}
use Rattle.sb_check.specs.OnlineView.{online_of}
use Rattle.sb_check.specs.Log.{HavePlaces, Logged, logged_of}
use Rattle.sb_check.specs.LogView.{view_log}
use Rattle.sb_check.specs.Programs.{CheckedProgram}
use Rattle.sb_check.specs.declared.admission.AdmitError.{AdmitError}
use Rattle.sb_check.specs.declared.admission.AdmitError.TheVariants as admission
use Rattle.sb_check.specs.declared.log.Log.{Log}
use Rattle.sb_check.specs.declared.log.LogError.{LogError}
use Rattle.sb_check.specs.declared.log.LogError.TheVariants as log_error
use Rattle.sb_report.specs.Script.{AsksOf}
use Rattle.sb_service.specs.Rows.{Rows}
use Rattle.sb_service.specs.Views.{view_service}
use Rattle.sb_syntax.specs.declared.parsing.SyntaxError.{SyntaxError}
use Rattle.sb_syntax.specs.declared.parsing.SyntaxError.TheVariants as syntax
use Rattle.sb_words.specs.declared.command.Command.{Command}
use Rattle.sb_load.specs.Commands.{Step, program, services, log, script, Files, name_of, takes, program_name, log_name, script_name, files_of, chunk_of, is_online}
use Rattle.sb_load.specs.Inputs.{Inputs, LoadsEach, chunks_fit}
use Rattle.sb_load.specs.Refusals.{Cause, shelf, memory, input, cause_of}
use Rattle.sb_load.specs.declared.inputs.Inputs.{Inputs as Read}
use Rattle.sb_load.specs.declared.names.Names.{Names as Said}
use Rattle.sb_load.specs.declared.programs.Loaded.{Loaded}
use Rattle.sb_load.specs.declared.programs.Loaded.TheVariants as loaded
use Rattle.sb_load.specs.declared.refusal.Refusal.{Refusal}
use Rattle.sb_load.specs.declared.refusal.Refusal.TheVariants as refused
use Rattle.sb_load.specs.declared.refusal.Which.{Which}
use Rattle.sb_load.specs.declared.refusal.Which.TheVariants as which

-- ---- answers

-- a refusal that isn't a fault of the shelf or want of memory is the one that is loaded
abbrev pub TellsBy : {A : Type 0} → Cause → Refusal → Result A Refusal → Type 0
TellsBy (shelf file) refusal loaded = Unit {0}
TellsBy memory refusal loaded = Unit {0}
TellsBy (input step) refusal loaded = loaded ≡ Err refusal

abbrev pub TellsRefusal : {A : Type 0} → Refusal → Result A Refusal → Type 0
TellsRefusal refusal loaded = TellsBy (cause_of refusal) refusal loaded

-- what is answered is what is loaded
abbrev pub Tells : {A X : Type 0} → (X → A) → Result A Refusal → Result X Refusal → Type 0
Tells view loaded (Ok x) = loaded ≡ Ok (view x)
Tells view loaded (Err refusal) = TellsRefusal refusal loaded

-- whatever a relation loads is what is answered
abbrev pub TellsAll : {A X : Type 0} → (Result A Refusal → Type 0) → (X → A) → Result X Refusal → Type 0
TellsAll {A} Loads view result = (loaded : Result A Refusal) → Loads loaded → Tells view loaded result

-- the bytes of a file, as they are
abbrev pub AreBytes : List ℕ → Result (List ℕ) Refusal → Type 0
AreBytes bytes loaded = loaded ≡ Ok bytes

-- ---- causes

-- the step that reads a file
abbrev pub step_of : Which → Step
step_of which.Program = program
step_of which.Log = log
step_of which.Script = script
step_of (which.Service name) = services

-- the cause of a refusal at a file, whose name is this: the count of faults of the very name rose, or the file's step refuses
abbrev pub IsCausedHere : Which → List ℕ → (List ℕ → ℕ) → (List ℕ → ℕ) → Cause → Type 0
IsCausedHere file name before now (shelf told) = (told ≡ file) × Rose (before name) (now name)
IsCausedHere file name before now memory = Unit {0}
IsCausedHere file name before now (input step) = step ≡ step_of file

abbrev pub IsCausedAt : Which → List ℕ → (List ℕ → ℕ) → (List ℕ → ℕ) → Refusal → Type 0
IsCausedAt file name before now refusal = IsCausedHere file name before now (cause_of refusal)

-- want of memory, or a step that doesn't accept what it read
abbrev pub IsInput : Step → Cause → Type 0
IsInput step (shelf file) = ⊥
IsInput step memory = Unit {0}
IsInput step (input told) = told ≡ step

abbrev pub IsRefusedAt : Step → Refusal → Type 0
IsRefusedAt step refusal = IsInput step (cause_of refusal)

-- the command reads the file, which has this name
pub record Reads (command : Command) (file : Which) (name : List ℕ) : Type 0 where
  pub named : name_of command file ≡ Some name
  pub read : takes command (step_of file) ≡ true

-- ---- views

abbrev pub syntax_refusal : SyntaxError → Refusal
syntax_refusal (syntax.At offset why) = refused.Syntax offset why
syntax_refusal syntax.NoMemory = refused.NoMemory

abbrev pub log_error_refusal : LogError → Refusal
log_error_refusal (log_error.Line line kind) = refused.LogLine line kind
log_error_refusal log_error.TooMany = refused.LogTooMany
log_error_refusal log_error.NoMemory = refused.NoMemory

-- the first store that doesn't commute is told, or memory was wanted
abbrev pub IsOrderRefusal : AdmitError → Refusal → Type 0
IsOrderRefusal (admission.NotCommuting store name) refusal = (refusal ≡ refused.Order name) ⊎ (refusal ≡ refused.NoMemory)
IsOrderRefusal admission.NoMemory refusal = refusal ≡ refused.NoMemory

abbrev pub loaded_of : Loaded → CheckedProgram
loaded_of (loaded.Checked c) = checked_of c
loaded_of (loaded.Online o) = online_of o

-- a program that was admitted, where it had to be
abbrev pub IsAdmitted : Bool → Loaded → Type 0
IsAdmitted online (loaded.Checked c) = online ≡ false
IsAdmitted online (loaded.Online o) = Unit {0}

-- the records of a log
abbrev pub records_of : Log → List Logged
records_of read = map logged_of (view_log read).records

abbrev pub inputs_of : Read → Inputs
inputs_of i = record {
  program = loaded_of i.program;
  services = map view_service i.services.items;
  records = records_of i.log;
  asks = i.script.items;
}

abbrev pub text_at : Option (Bor (List ℕ)) → Option (List ℕ)
text_at None = None
text_at (Some text) = Some text.now

-- the names of the files of a command
pub record AreNames (command : Command) (names : Said) : Type 0 where
  pub program : program_name command ≡ Some names.program.now
  pub services : files_of command ≡ names.services.now
  pub log : log_name command ≡ text_at names.log
  pub script : script_name command ≡ text_at names.script
  pub chunk : chunk_of command ≡ names.chunk

-- what is known of inputs beside what they say
pub record AreInputs (command : Command) (i : Read) : Type 0 where
  pub admitted : IsAdmitted (is_online command) i.program
  pub placed : HavePlaces 0 (records_of i.log)
  pub batching : (view_log i.log).batching ≡ (loaded_of i.program).batching
  pub fits : chunks_fit (chunk_of command) (length (records_of i.log)) ≡ true
  pub stores : AllByRecursion (AsksOf (length (loaded_of i.program).declared.stores)) i.script.items

-- ---- services, one by one

-- rows in front of what is loaded behind them
abbrev pub onto_rows : List Rows → Result (List Rows) Refusal → Result (List Rows) Refusal
onto_rows rows (Err refusal) = Err refusal
onto_rows rows (Ok others) = Ok (rows ++ others)

-- what is loaded is what is loaded of these services, behind the rows
abbrev pub IsBehind : (List ℕ → Content) → Files → List Service → List Rows → Result (List Rows) Refusal → Type 0
IsBehind content files declared rows loaded =
    (rest : Result (List Rows) Refusal) × LoadsEach content files declared rest × (loaded ≡ onto_rows rows rest)

-- a service more is loaded, or refused
abbrev pub Advances : (List ℕ → Content) → Files → List Service → List Rows → Result (List Rows) Refusal → Result (Unit {0}) Refusal → Type 0
Advances content files declared rows loaded (Ok done) = IsBehind content files declared rows loaded
Advances content files declared rows loaded (Err refusal) = TellsRefusal refusal loaded
