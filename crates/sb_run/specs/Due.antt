-- What is due for the words of a command and the files that the shelf holds.
use Rattle.std.specs.Prelude.{◌≡◌, ℕ, ◌==◌, Bool, true, false, ◌&&◌, not, List, ◌++◌, codes, Option, Some, None, Result, Ok, Err}
use Rattle.sb_check.specs.Comments.{comments}
use Rattle.sb_grammar.specs.Printed.{printed}
use Rattle.sb_grammar.specs.Program.{IsProgram}
use Rattle.sb_io.specs.Shelf.{Content}
use Rattle.sb_kind.specs.declared.agg.Agg.{Agg}
use Rattle.sb_load.specs.Commands.{program_name}
use Rattle.sb_load.specs.Inputs.{Inputs, Loads}
use Rattle.sb_load.specs.Refusals.{Answer, refusal_answer}
use Rattle.sb_load.specs.declared.refusal.Refusal.{Refusal}
use Rattle.sb_report.specs.declared.script.Ask.{Ask}
use Rattle.sb_run.specs.Run.{Run, run_of, report_text}
use Rattle.sb_run.specs.ScriptOutput.{run_text}
use Rattle.sb_run.specs.Settled.{Settings}
use Rattle.sb_tokens.specs.Token.{Token}
use Rattle.sb_words.specs.declared.command.Command.{Command}
use Rattle.sb_words.specs.declared.command.Command.TheVariants.{Check, Batch, Run as Live, Audit, Demo}

-- exactly these bytes with this status, or any settled transcript of a run
pub data Due : Type 0 where
  exactly : Answer → Due
  transcript : Run Agg → Settings → List Ask → Due

-- the command did its work, and wrote these bytes
abbrev pub done : List ℕ → Due
done bytes = exactly (record { status = 0; bytes = bytes })

-- words that are no command
abbrev pub usage_answer : Answer
usage_answer = record { status = 2; bytes = codes "error 2 usage\n" }

-- words of a command that isn't served yet
abbrev pub unserved_answer : Answer
unserved_answer = record { status = 2; bytes = codes "error 2 notyet\n" }

-- `check`, `batch`, and `run` without workers and publisher
abbrev pub is_served : Command → Bool
is_served (Check program) = true
is_served (Batch program log services) = true
is_served (Live program log script services settings) = settings.workers == 0 && not settings.publisher
is_served (Audit program log script judged services chunk shards) = false
is_served (Demo seed records workers) = false

-- what `check` writes: the printed program, and a comment line for each store
abbrev pub IsChecked : Inputs → Due → Type 0
IsChecked inputs due = (statements : List (List Token)) × IsProgram inputs.program.program statements
    × (due ≡ done (printed statements ++ comments inputs.program.declared.stores))

-- what a command makes of its inputs: `check` the program, `batch` the report, `run` what the machine of its script writes
abbrev pub IsMade : Command → Inputs → Due → Type 0
IsMade (Check program) inputs due = IsChecked inputs due
IsMade (Batch program log services) inputs due = due ≡ done (report_text (run_of inputs.program 1 1 inputs.records inputs.services))
IsMade (Live program log script services settings) inputs due =
    due ≡ done (run_text (run_of inputs.program settings.chunk settings.shards inputs.records inputs.services) inputs.asks)
IsMade (Audit program log script judged services chunk shards) inputs due = ⊥
IsMade (Demo seed records workers) inputs due = ⊥

-- what is due of what is loaded: what the command makes of its inputs, or the answer of the refusal
abbrev pub Gives : Command → Result Inputs Refusal → Due → Type 0
Gives command (Ok inputs) due = IsMade command inputs due
Gives command (Err refusal) due = due ≡ exactly (refusal_answer refusal)

-- what is due for a command, by whether it is served
abbrev pub IsDueBy : Bool → (List ℕ → Content) → Command → Due → Type 0
IsDueBy false content command due = due ≡ exactly unserved_answer
IsDueBy true content command due = (loaded : Result Inputs Refusal) × Loads content command (program_name command) loaded × Gives command loaded due

-- what is due for words, by the command that they are
abbrev pub IsDue : (List ℕ → Content) → Option Command → Due → Type 0
IsDue content None due = due ≡ exactly usage_answer
IsDue content (Some command) due = IsDueBy (is_served command) content command due
