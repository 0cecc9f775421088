-- What a call answers.
use Rattle.std.specs.Prelude.{◌≡◌, ◌≢◌, Result, Ok, Err}
use Rattle.sb_terms.specs.declared.fault.Fault.{Fault}
use Rattle.sb_terms.specs.declared.fault.Fault.TheVariants.{NoMemory}
use Rattle.sb_terms.specs.Outcome.{Outcome}

-- the result is what is due, as the view sees it; one error is free
abbrev pub Answers : {A B E : Type 0} → E → (B → A) → Result A E → Result B E → Type 0
Answers free view due (Ok b) = due ≡ Ok (view b)
Answers free view due (Err e) = e ≢ free → due ≡ Err e

-- what a call that changes a value leaves is the outcome, as the view sees it; want of memory is free
abbrev pub Leaves : {A B C : Type 0} → (B → A) → Outcome A → B → Result C Fault → Type 0
Leaves view outcome after (Ok c) = outcome ≡ Ok (view after)
Leaves view outcome after (Err e) = e ≢ NoMemory → outcome ≡ Err e
