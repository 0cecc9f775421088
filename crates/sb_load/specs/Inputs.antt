-- The inputs of a command, or the first refusal that applies.
use Rattle.std.specs.Prelude.{◌≡◌, ◌⊎◌, ℕ, ◌<◌, ◌≤◌, nat_le, Bool, true, false, not, List, [], ◌∷◌, length, Option, Some, None, is_some, Result, Ok, Err, if◌then◌else◌}
use Rattle.std.specs.Int.{div_ceil}
use Rattle.std.specs.List.{list_any}
use Rattle.sb_grammar.specs.Program.{IsTextOf, FirstFault}
use Rattle.sb_grammar.specs.declared.code.Code.{Code}
use Rattle.sb_grammar.specs.declared.programs.Program.{Program}
use Rattle.sb_check.specs.Admission.{admission_of}
use Rattle.sb_check.specs.Declarations.{Declarations, Service}
use Rattle.sb_check.specs.Log.{Logged, LogFault, bad_line, too_many, log_of}
use Rattle.sb_check.specs.Names.{found}
use Rattle.sb_check.specs.Programs.{CheckedProgram, check_of}
use Rattle.sb_check.specs.declared.admission.AdmitError.{AdmitError}
use Rattle.sb_check.specs.declared.admission.AdmitError.TheVariants as admission
use Rattle.sb_check.specs.declared.check_error.CheckError.{CheckError}
use Rattle.sb_check.specs.declared.check_error.CheckError.TheVariants as error
use Rattle.sb_feed.specs.Limits.{most_chunks}
use Rattle.sb_io.specs.Shelf.{Content, Untold, Missing, Holds}
use Rattle.sb_report.specs.Script.{script_of}
use Rattle.sb_report.specs.declared.script.Ask.{Ask}
use Rattle.sb_service.specs.Adding.{service_of}
use Rattle.sb_service.specs.Rows.{Rows}
use Rattle.sb_service.specs.declared.service_error.ServiceError.{ServiceError}
use Rattle.sb_service.specs.declared.service_error.ServiceError.TheVariants as row
use Rattle.sb_words.specs.declared.command.Command.{Command}
use Rattle.sb_load.specs.Commands.{Files, file_named, files_of, log_name, script_name, chunk_of, is_online, has_services}
use Rattle.sb_load.specs.Limits.{most_program_bytes, most_service_bytes, most_log_bytes, most_script_bytes}
use Rattle.sb_load.specs.declared.refusal.CheckKind.TheVariants as check
use Rattle.sb_load.specs.declared.refusal.Refusal.{Refusal}
use Rattle.sb_load.specs.declared.refusal.Refusal.TheVariants as refused
use Rattle.sb_load.specs.declared.refusal.Which.{Which}
use Rattle.sb_load.specs.declared.refusal.Which.TheVariants as which

-- what a command does its work on; a part that it doesn't read is empty
pub record Inputs : Type 0 where
  pub program : CheckedProgram
  pub services : List Rows
  pub records : List Logged
  pub asks : List Ask

-- ---- steps

-- a refusal decides, and anything else goes on
abbrev pub Follows : {A B : Type 0} → (A → Result B Refusal → Type 0) → Result A Refusal → Result B Refusal → Type 0
Follows next (Ok a) loaded = next a loaded
Follows next (Err refusal) loaded = loaded ≡ Err refusal

-- one step, and then the next
abbrev pub Then : {A B : Type 0} → (Result A Refusal → Type 0) → (A → Result B Refusal → Type 0) → Result B Refusal → Type 0
Then {A} first next loaded = (step : Result A Refusal) × first step × Follows next step loaded

-- a step on a file that the command doesn't name is left out
abbrev pub WhenNamed : {A : Type 0} → Option (List ℕ) → A → (List ℕ → Result A Refusal → Type 0) → Result A Refusal → Type 0
WhenNamed None empty Loads loaded = loaded ≡ Ok empty
WhenNamed (Some name) empty Loads loaded = Loads name loaded

-- A file that the shelf lacks is refused, and so is one that is longer than its limit. Nothing is said where the shelf doesn't tell.
abbrev pub LoadsFile : {A : Type 0} → Which → ℕ → Refusal → (List ℕ → Result A Refusal → Type 0) → Content → Result A Refusal → Type 0
LoadsFile file most longer Reads Untold loaded = ⊥
LoadsFile file most longer Reads Missing loaded = loaded ≡ Err (refused.Shelf file)
LoadsFile file most longer Reads (Holds bytes) loaded = ((most < length bytes) × (loaded ≡ Err longer)) ⊎ ((length bytes ≤ most) × Reads bytes loaded)

-- ---- the program

abbrev pub check_refusal : CheckError → Refusal
check_refusal (error.Unknown statement) = refused.Check statement check.Unknown
check_refusal (error.Twice statement) = refused.Check statement check.Twice
check_refusal (error.Mistyped statement) = refused.Check statement check.Mistyped
check_refusal (error.TooLarge statement) = refused.Check statement check.TooLarge
check_refusal (error.TooWide statement) = refused.Check statement check.TooWide
check_refusal (error.NotAKey statement) = refused.Check statement check.NotAKey
check_refusal error.NoMemory = refused.NoMemory

abbrev pub admit_refusal : AdmitError → Refusal
admit_refusal (admission.NotCommuting store name) = refused.Order name
admit_refusal admission.NoMemory = refused.NoMemory

abbrev pub refused_by : {A E : Type 0} → (E → Refusal) → Result A E → Result A Refusal
refused_by refusal (Ok a) = Ok a
refused_by refusal (Err e) = Err (refusal e)

-- A text has a first wrong token, or is that of a program, which is checked.
abbrev pub ReadsProgram : List ℕ → Result CheckedProgram Refusal → Type 0
ReadsProgram bytes loaded =
    ((offset : ℕ) × (why : Code) × FirstFault bytes offset why × (loaded ≡ Err (refused.Syntax offset why)))
    ⊎ ((tree : Program) × IsTextOf tree bytes × (loaded ≡ refused_by check_refusal (check_of tree)))

abbrev pub LoadsProgram : Content → Result CheckedProgram Refusal → Type 0
LoadsProgram = LoadsFile which.Program most_program_bytes refused.ProgramLonger ReadsProgram

-- a command that sums in any order asks for a program of which every store commutes
abbrev pub admitted : Bool → CheckedProgram → Result CheckedProgram Refusal
admitted false c = Ok c
admitted true c = refused_by admit_refusal (admission_of c)

abbrev pub Admits : Bool → CheckedProgram → Result CheckedProgram Refusal → Type 0
Admits online c loaded = loaded ≡ admitted online c

-- ---- services

-- a service word names no service of the program
abbrev pub has_unknown : List Service → Files → Bool
has_unknown services files = list_any (λ f. not (is_some (found (λ s. s.name) f.0 services))) files

abbrev pub KnowsServices : List Service → Files → Result (Unit {0}) Refusal → Type 0
KnowsServices services files loaded = loaded ≡ (if has_unknown services files then Err refused.ServiceUnknown else Ok tt)

abbrev pub service_refusal : List ℕ → ServiceError → Refusal
service_refusal name (row.BadRow line) = refused.ServiceBad name line
service_refusal name (row.TwiceKey line first) = refused.ServiceTwice name line first
service_refusal name row.NoMemory = refused.NoMemory

abbrev pub ReadsService : Service → List ℕ → Result Rows Refusal → Type 0
ReadsService s bytes loaded = loaded ≡ refused_by (service_refusal s.name) (service_of s.key s.value bytes)

-- the rows of a service in its file, whose word may be missing
abbrev pub LoadsService : (List ℕ → Content) → Service → Option (List ℕ) → Result Rows Refusal → Type 0
LoadsService content s None loaded = loaded ≡ Err (refused.ServiceMissing s.name)
LoadsService content s (Some file) loaded =
    LoadsFile (which.Service s.name) most_service_bytes (refused.ServiceLonger s.name) (ReadsService s) (content file) loaded

-- the rows of each service in the program's order
abbrev pub LoadsEach : (List ℕ → Content) → Files → List Service → Result (List Rows) Refusal → Type 0
LoadsEach content files [] loaded = loaded ≡ Ok []
LoadsEach content files (s ∷ services) loaded =
    Then (LoadsService content s (file_named s.name files)) (λ rows. Then (LoadsEach content files services) (λ others all. all ≡ Ok (rows ∷ others))) loaded

-- first the words that name no service, then the services
abbrev pub LoadsServices : (List ℕ → Content) → Bool → Files → Declarations → Result (List Rows) Refusal → Type 0
LoadsServices content false files d loaded = loaded ≡ Ok []
LoadsServices content true files d loaded = Then (KnowsServices d.services files) (λ _. LoadsEach content files d.services) loaded

-- ---- the log

abbrev pub log_refusal : LogFault → Refusal
log_refusal (bad_line line kind) = refused.LogLine line kind
log_refusal too_many = refused.LogTooMany

abbrev pub ReadsLog : CheckedProgram → List ℕ → Result (List Logged) Refusal → Type 0
ReadsLog c bytes loaded = loaded ≡ refused_by log_refusal (log_of c bytes)

abbrev pub LoadsLog : (List ℕ → Content) → CheckedProgram → List ℕ → Result (List Logged) Refusal → Type 0
LoadsLog content c name = LoadsFile which.Log most_log_bytes refused.LogLonger (ReadsLog c) (content name)

-- a log has no more chunks than the limit
abbrev pub chunks_fit : Option ℕ → ℕ → Bool
chunks_fit None records = true
chunks_fit (Some chunk) records = nat_le (div_ceil records chunk) most_chunks

abbrev pub FitsChunks : Option ℕ → List Logged → Result (Unit {0}) Refusal → Type 0
FitsChunks chunk records loaded = loaded ≡ (if chunks_fit chunk (length records) then Ok tt else Err refused.LogChunks)

-- ---- the script

abbrev pub ReadsScript : Declarations → List ℕ → Result (List Ask) Refusal → Type 0
ReadsScript d bytes loaded = loaded ≡ refused_by refused.ScriptLine (script_of d bytes)

abbrev pub LoadsScript : (List ℕ → Content) → Declarations → List ℕ → Result (List Ask) Refusal → Type 0
LoadsScript content d name = LoadsFile which.Script most_script_bytes refused.ScriptLonger (ReadsScript d) (content name)

-- ---- all of them

-- the program, checked and, where it has to be, admitted
abbrev pub LoadsChecked : (List ℕ → Content) → Command → List ℕ → Result CheckedProgram Refusal → Type 0
LoadsChecked content command name = Then (LoadsProgram (content name)) (Admits (is_online command))

-- the log of a program, where it fits
abbrev pub LoadsRecords : (List ℕ → Content) → Command → CheckedProgram → Result (List Logged) Refusal → Type 0
LoadsRecords content command c =
    Then (WhenNamed (log_name command) [] (LoadsLog content c)) (λ records.
    Then (FitsChunks (chunk_of command) records) (λ _ loaded. loaded ≡ Ok records))

-- services, log and script behind a program
abbrev pub LoadsOthers : (List ℕ → Content) → Command → CheckedProgram → Result Inputs Refusal → Type 0
LoadsOthers content command c =
    Then (LoadsServices content (has_services command) (files_of command) c.declared) (λ services.
    Then (LoadsRecords content command c) (λ records.
    Then (WhenNamed (script_name command) [] (LoadsScript content c.declared)) (λ asks loaded.
    loaded ≡ Ok (record { program = c; services = services; records = records; asks = asks }))))

-- The inputs of a command, or the first refusal that applies, in the order program, its admission, services, log, chunks, script.
-- Of a command without a program nothing is said.
abbrev pub Loads : (List ℕ → Content) → Command → Option (List ℕ) → Result Inputs Refusal → Type 0
Loads content command None loaded = ⊥
Loads content command (Some program) loaded = Then (LoadsChecked content command program) (LoadsOthers content command) loaded
