-- What a call of the program promises.
use Rattle.std.specs.Prelude.{◌≡◌, ◌⊎◌, ℕ, ◌≤◌, Bool, true, false, List, map, Option, Some, None, string_bytes}
use Rattle.std.specs.declared.string.String.{String}
use Rattle.std.specs.declared.alloc.Global.{Global}
use Rattle.sb_io.specs.Faults.{Rose}
use Rattle.sb_io.specs.Shelf.{Content}
use Rattle.sb_io.specs.Sink.{Appends}
use Rattle.sb_load.specs.Causes.{IsCausedBy, Leaves, RoseAt}
use Rattle.sb_load.specs.Commands.{name_of}
use Rattle.sb_load.specs.Refusals.{Answer, cause_of, refusal_answer}
use Rattle.sb_load.specs.declared.refusal.Refusal.{Refusal}
use Rattle.sb_load.specs.declared.refusal.Refusal.TheVariants as refused
use Rattle.sb_load.specs.declared.refusal.Which.{Which}
use Rattle.sb_run.specs.Due.{Due, exactly, transcript, IsDue, is_served, usage_answer, unserved_answer}
use Rattle.sb_run.specs.Settled.{IsSettled}
use Rattle.sb_words.specs.declared.command.Command.{Command}

abbrev pub texts : List (String Global) → List (List ℕ)
texts = map string_bytes

-- a fault of the shelf, a fault of the sink, or want of memory
abbrev pub IsCutShort : ℕ → Type 0
IsCutShort status = (status ≡ 3) ⊎ (status ≡ 4) ⊎ (status ≡ 5)

-- the call did what is due, unless it was cut short
abbrev pub Ends : Due → Option (List ℕ) → Option (List ℕ) → ℕ → Type 0
Ends (exactly answer) before now status = ((status ≡ answer.status) × Appends answer.bytes before now) ⊎ IsCutShort status
Ends (transcript r settings asks) before now status = ((status ≡ 0) × ((bytes : List ℕ) × IsSettled settings r asks bytes × Appends bytes before now)) ⊎ IsCutShort status

-- a fault of the shelf was written for a file of the command whose count rose
abbrev pub NamesFault : Command → (List ℕ → ℕ) → (List ℕ → ℕ) → Option (List ℕ) → Option (List ℕ) → Type 0
NamesFault command faults_before faults_now before now =
    (file : Which) × RoseAt (name_of command file) faults_before faults_now × Appends (refusal_answer (refused.Shelf file)).bytes before now

-- the same for words; words that are no command have no files
abbrev pub NamesFaultOf : Option Command → (List ℕ → ℕ) → (List ℕ → ℕ) → Option (List ℕ) → Option (List ℕ) → Type 0
NamesFaultOf None faults_before faults_now before now = ⊥
NamesFaultOf (Some command) faults_before faults_now before now = NamesFault command faults_before faults_now before now

-- the answer of words that are refused: they are no command, or none that is served yet
abbrev pub IsOfWords : Option Command → Answer → Type 0
IsOfWords None answer = answer ≡ usage_answer
IsOfWords (Some command) answer = (is_served command ≡ false) × (answer ≡ unserved_answer)

-- the answer of a refusal whose cause is there
abbrev pub IsOfInputs : Option Command → (List ℕ → ℕ) → (List ℕ → ℕ) → Answer → Type 0
IsOfInputs None faults_before faults_now answer = ⊥
IsOfInputs (Some command) faults_before faults_now answer =
    (refusal : Refusal) × IsCausedBy command faults_before faults_now (cause_of refusal) × (answer ≡ refusal_answer refusal)

-- The call did its work, the sink failed, memory was wanted, or it was refused for its words or for a cause of this command, with the status
-- and the line of the refusal.
abbrev pub Refuses : Option Command → (List ℕ → ℕ) → (List ℕ → ℕ) → ℕ → Option (List ℕ) → Option (List ℕ) → Type 0
Refuses command faults_before faults_now status before now =
    (status ≡ 0) ⊎ (status ≡ 4) ⊎ (status ≡ 5)
    ⊎ ((answer : Answer) × (IsOfWords command answer ⊎ IsOfInputs command faults_before faults_now answer) × (status ≡ answer.status) × Appends answer.bytes before now)

-- the shelf is as it was
abbrev pub LeavesAll : (List ℕ → Content) → (List ℕ → Content) → (List ℕ → ℕ) → (List ℕ → ℕ) → Type 0
LeavesAll content_before content_now faults_before faults_now =
    ((any : List ℕ) → content_now any ≡ content_before any) × ((any : List ℕ) → faults_now any ≡ faults_before any)

-- what a command leaves of the shelf, by whether it is served
abbrev pub LeavesBy : Bool → Command → (List ℕ → Content) → (List ℕ → Content) → (List ℕ → ℕ) → (List ℕ → ℕ) → Type 0
LeavesBy false command content_before content_now faults_before faults_now = LeavesAll content_before content_now faults_before faults_now
LeavesBy true command content_before content_now faults_before faults_now = Leaves command content_before content_now faults_before faults_now

-- what the call leaves of the shelf; words that are refused leave all of it
abbrev pub LeavesOf : Option Command → (List ℕ → Content) → (List ℕ → Content) → (List ℕ → ℕ) → (List ℕ → ℕ) → Type 0
LeavesOf None content_before content_now faults_before faults_now = LeavesAll content_before content_now faults_before faults_now
LeavesOf (Some command) content_before content_now faults_before faults_now =
    LeavesBy (is_served command) command content_before content_now faults_before faults_now

-- all that the call promises of words, by what the shelf tells and counts and what the sink has and counts, before and after
pub record Keeps (command : Option Command) (content_before content_now : List ℕ → Content) (faults_before faults_now : List ℕ → ℕ)
    (before now : Option (List ℕ)) (sink_before sink_now : ℕ) (status : ℕ) : Type 0 where
  pub exact : (due : Due) → IsDue content_before command due → Ends due before now status
  pub shelf : status ≡ 3 → NamesFaultOf command faults_before faults_now before now
  pub sink : status ≡ 4 → Rose sink_before sink_now
  pub refusals : Refuses command faults_before faults_now status before now
  pub frame : LeavesOf command content_before content_now faults_before faults_now
  pub later : sink_before ≤ sink_now
