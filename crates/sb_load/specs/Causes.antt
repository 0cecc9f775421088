-- What a refusal shows of the outside.
use Rattle.std.specs.Prelude.{◌≡◌, ◌≢◌, ℕ, ◌≤◌, IsTrue, List, Option, Some, None}
use Rattle.sb_io.specs.Faults.{Rose}
use Rattle.sb_io.specs.Shelf.{Content}
use Rattle.sb_words.specs.declared.command.Command.{Command}
use Rattle.sb_load.specs.Commands.{name_of, takes}
use Rattle.sb_load.specs.Refusals.{Cause, shelf, memory, input}
use Rattle.sb_load.specs.declared.refusal.Which.{Which}

-- the count of faults of the file's name rose
abbrev pub RoseAt : Option (List ℕ) → (List ℕ → ℕ) → (List ℕ → ℕ) → Type 0
RoseAt None before now = ⊥
RoseAt (Some name) before now = Rose (before name) (now name)

-- the cause is there: the count of the very file rose, or the command has the step; want of memory is free
abbrev pub IsCausedBy : Command → (List ℕ → ℕ) → (List ℕ → ℕ) → Cause → Type 0
IsCausedBy command before now (shelf file) = RoseAt (name_of command file) before now
IsCausedBy command before now memory = Unit {0}
IsCausedBy command before now (input step) = IsTrue (takes command step)

-- the command names no such file
abbrev pub IsOther : Command → List ℕ → Type 0
IsOther command other = (file : Which) → name_of command file ≢ Some other

-- the shelf tells what it told, no count of faults falls, and those of files that the command doesn't name are as before
pub record Leaves (command : Command) (content_before content_now : List ℕ → Content) (faults_before faults_now : List ℕ → ℕ) : Type 0 where
  pub same : (any : List ℕ) → content_now any ≡ content_before any
  pub later : (any : List ℕ) → faults_before any ≤ faults_now any
  pub others : (other : List ℕ) → IsOther command other → faults_now other ≡ faults_before other
