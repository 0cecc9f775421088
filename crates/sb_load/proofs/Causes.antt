-- The cause of a refusal, and what is left of the shelf, seen from the whole command.
use Rattle.std.proofs.Common.{◌≡◌, ℕ, ◌≤◌, true, List, Option, Some, None, sym, subst, ap, ◌∙◌, refl, arith}
use Rattle.sb_io.specs.Faults.{Rose}
use Rattle.sb_io.specs.Shelf.{Content, Fetches}
use Rattle.sb_words.specs.declared.command.Command.{Command}
use Rattle.sb_load.specs.Causes.{RoseAt, IsCausedBy, Leaves}
use Rattle.sb_load.specs.Commands.{Step, name_of, takes}
use Rattle.sb_load.specs.Refusals.{Cause, shelf, memory, input, cause_of}
use Rattle.sb_load.specs.Steps.{IsCausedHere, IsCausedAt, IsInput, IsRefusedAt, Reads, step_of}
use Rattle.sb_load.specs.declared.refusal.Refusal.{Refusal}
use Rattle.sb_load.specs.declared.refusal.Which.{Which}

module _ (command : Command) (file : Which) (name : List ℕ) (reads : Reads command file name) where
  caused_by : (before mid now : List ℕ → ℕ) (cause : Cause) → before name ≤ mid name → IsCausedHere file name mid now cause → IsCausedBy command before now cause
  caused_by before mid now (shelf told) later is =
      let rose : Rose (before name) (now name) = omega (arith, later, is.1) in
      subst (λ f. RoseAt (name_of command f) before now) (sym is.0) (subst (λ o. RoseAt o before now) (sym reads.named) rose)
  caused_by before mid now memory later is = tt
  caused_by before mid now (input step) later is = ap (takes command) is ∙ reads.read

  -- a refusal at one of the command's files, some time after the command began
  pub caused : (before mid now : List ℕ → ℕ) (refusal : Refusal) → before name ≤ mid name → IsCausedAt file name mid now refusal → IsCausedBy command before now (cause_of refusal)
  caused before mid now refusal = caused_by before mid now (cause_of refusal)

-- a fetch of one of the command's files
pub fetch_leaves : (command : Command) (file : Which) (name : List ℕ) → name_of command file ≡ Some name → (content_before content_now : List ℕ → Content) (before now : List ℕ → ℕ)
    → Fetches name content_before content_now before now → Leaves command content_before content_now before now
fetch_leaves command file name named content_before content_now before now fetches = record {
  same = fetches.same;
  later = fetches.later;
  others = λ other is_other. fetches.others other (λ is. is_other file (named ∙ ap Some (sym is)));
}

-- the shelf tells what it told
pub same_content : (command : Command) (content_before content_now : List ℕ → Content) (before now : List ℕ → ℕ) → Leaves command content_before content_now before now → content_now ≡ content_before
same_content command content_before content_now before now leaves = λ i any. leaves.same any i

-- a refusal of what was read is one at its file
here_by : (file : Which) (name : List ℕ) (before now : List ℕ → ℕ) (cause : Cause) → IsInput (step_of file) cause → IsCausedHere file name before now cause
here_by file name before now (shelf told) is = absurd is
here_by file name before now memory is = tt
here_by file name before now (input step) is = is

pub refused_here : (file : Which) (name : List ℕ) (before now : List ℕ → ℕ) (refusal : Refusal) → IsRefusedAt (step_of file) refusal → IsCausedAt file name before now refusal
refused_here file name before now refusal = here_by file name before now (cause_of refusal)

-- a refusal of a step that the command takes
taken_by : (command : Command) (step : Step) (before now : List ℕ → ℕ) (cause : Cause) → takes command step ≡ true → IsInput step cause → IsCausedBy command before now cause
taken_by command step before now (shelf told) takes' is = absurd is
taken_by command step before now memory takes' is = tt
taken_by command step before now (input told) takes' is = ap (takes command) is ∙ takes'

pub step_caused : (command : Command) (step : Step) (before now : List ℕ → ℕ) (refusal : Refusal) → takes command step ≡ true → IsRefusedAt step refusal → IsCausedBy command before now (cause_of refusal)
step_caused command step before now refusal = taken_by command step before now (cause_of refusal)

-- one thing after the other
pub leaves_then : (command : Command) (content_before content_mid content_now : List ℕ → Content) (before mid now : List ℕ → ℕ)
    → Leaves command content_before content_mid before mid → Leaves command content_mid content_now mid now → Leaves command content_before content_now before now
leaves_then command content_before content_mid content_now before mid now first next = record {
  same = λ any. next.same any ∙ first.same any;
  later = λ any. let early = first.later any in let late = next.later any in omega (arith, early, late);
  others = λ other is_other. next.others other is_other ∙ first.others other is_other;
}

-- a shelf that isn't used is left
pub untouched : (command : Command) (content : List ℕ → Content) (faults : List ℕ → ℕ) → Leaves command content content faults faults
untouched command content faults = record { same = λ any. refl; later = λ any. omega arith; others = λ other is_other. refl }

-- a cause that came later came
rose_at_later : (name : Option (List ℕ)) (before mid now : List ℕ → ℕ) → ((any : List ℕ) → before any ≤ mid any) → RoseAt name mid now → RoseAt name before now
rose_at_later None before mid now later rose = rose
rose_at_later (Some name) before mid now later rose = let early = later name in omega (arith, early, rose)

later_by : (command : Command) (before mid now : List ℕ → ℕ) (cause : Cause) → ((any : List ℕ) → before any ≤ mid any) → IsCausedBy command mid now cause → IsCausedBy command before now cause
later_by command before mid now (shelf told) later is = rose_at_later (name_of command told) before mid now later is
later_by command before mid now memory later is = tt
later_by command before mid now (input step) later is = is

pub caused_later : (command : Command) (before mid now : List ℕ → ℕ) (refusal : Refusal) → ((any : List ℕ) → before any ≤ mid any) → IsCausedBy command mid now (cause_of refusal) → IsCausedBy command before now (cause_of refusal)
caused_later command before mid now refusal = later_by command before mid now (cause_of refusal)
