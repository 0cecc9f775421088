-- What a check gives, and what a function that checks ensures.
use Rattle.std.specs.Prelude.{◌≡◌, ◌≢◌, List, [], ◌∷◌, Option, Some, None, Result, Ok, Err}
use Rattle.sb_terms.specs.declared.fault.Fault.{Fault}
use Rattle.sb_terms.specs.declared.fault.Fault.TheVariants.{NoMemory, Mistyped}

-- what is asked for, or the first fault
abbrev pub Outcome : Type 0 → Type 0
Outcome A = Result A Fault

abbrev pub and_then : {A B : Type 0} → Outcome A → (A → Outcome B) → Outcome B
and_then (Ok a) f = f a
and_then (Err e) f = Err e

abbrev pub or_mistyped : {A : Type 0} → Option A → Outcome A
or_mistyped (Some a) = Ok a
or_mistyped None = Err Mistyped

-- outcomes from the left, and the first fault
abbrev pub all_of : {A : Type 0} → List (Outcome A) → Outcome (List A)
all_of [] = Ok []
all_of (a ∷ as') = and_then a (λ x. and_then (all_of as') (λ xs. Ok (x ∷ xs)))

-- the result is the outcome, as the view sees it; want of memory is free
abbrev pub Tells : {A B : Type 0} → (B → A) → Outcome A → Result B Fault → Type 0
Tells view outcome (Ok b) = outcome ≡ Ok (view b)
Tells view outcome (Err e) = e ≢ NoMemory → outcome ≡ Err e
