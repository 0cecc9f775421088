-- Whole programs: the batch head and statements, up to the first fault.
use Rattle.std.specs.Prelude.{◌≡◌, ℕ, zero, suc, Bool, true, false, if◌then◌else◌, List, [], ◌∷◌, ◌++◌, Option, Some, None, Result, Ok, Err}
use Rattle.sb_tokens.specs.declared.keyword.Keyword.TheVariants as k
use Rattle.sb_tokens.specs.Token.{Token}
use Rattle.sb_tokens.specs.Token as t
use Rattle.sb_tokens.specs.Lexed.{Lexed, Ending, ends, bad}
use Rattle.sb_grammar.specs.declared.code.Code.{Code}
use Rattle.sb_grammar.specs.declared.code.Code.TheVariants as code
use Rattle.sb_grammar.specs.declared.programs.Program.{Program}
use Rattle.sb_grammar.specs.declared.programs.Statement.{Statement}
use Rattle.sb_syntax.specs.declared.fault.Fault.{Fault}
use Rattle.sb_syntax.specs.declared.fault.Fault.TheVariants.{Ended, Misfit, Spent}
use Rattle.sb_syntax.specs.Reading.{Input, Outcome, ahead, refusal}
use Rattle.sb_syntax.specs.Statements.{statement, batch}

-- what was read, or why reading stops, with the tokens that are left; where that is unknown, memory may be short
abbrev pub Ends : Type 0 → Type 0
Ends A = Result (A × Input) (Option Code × Input)

-- why no token is left
abbrev pub code_at : List (ℕ × Token) → Ending → Code
code_at [] (bad _) = code.BadToken
code_at _ _ = code.End

abbrev pub code_in : Fault → List (ℕ × Token) → Ending → Option Code
code_in Ended places ending = Some (code_at places ending)
code_in Misfit places ending = Some code.Unexpected
code_in Spent places ending = Some code.Long
code_in _ places ending = None

unfoldable pub code_of : Fault → Input → Option Code
code_of fault i = code_in fault i.places i.budget.ending

abbrev pub stopped : {A : Type 0} → Fault → Input → Ends A
stopped fault i = Err (code_of fault i, i)

abbrev pub IsCode : Option Code → Type 0
IsCode None = ⊥
IsCode (Some why) = Unit {0}

-- neither depth nor memory is short
abbrev pub IsAnswered : {A : Type 0} → Ends A → Type 0
IsAnswered (Ok p) = Unit {0}
IsAnswered (Err e) = IsCode e.0

-- the text ends here
abbrev pub is_done_at : List (ℕ × Token) → Ending → Bool
is_done_at [] (ends _) = true
is_done_at _ _ = false

unfoldable pub is_done : Input → Bool
is_done i = is_done_at i.places i.budget.ending

abbrev pub begins_statement : Option Token → Bool
begins_statement (Some (t.keyword k.Source)) = true
begins_statement (Some (t.keyword k.Service)) = true
begins_statement (Some (t.keyword k.Let)) = true
begins_statement (Some (t.keyword k.Store)) = true
begins_statement _ = false

-- with room for a whole statement
abbrev pub fresh : Input → Input
fresh i = record { places = i.places; budget = record { room = 256; ending = i.budget.ending } }

abbrev pub one_more : (List Statement → Input → Ends (List Statement)) → List Statement → Outcome Statement → Ends (List Statement)
one_more more found (Ok p) = more (found ++ p.0 ∷ []) p.1
one_more more found (Err e) = stopped e.0 e.1

unfoldable pub statements : ℕ → List Statement → Input → Ends (List Statement)
statements zero found i =
    if is_done i then Ok (found, i)
    else (if begins_statement (ahead i) then Err (Some code.Many, i) else stopped (refusal i) i)
statements (suc turns) found i =
    if is_done i then Ok (found, i)
    else (if begins_statement (ahead i) then one_more (statements turns) found (statement (fresh i)) else stopped (refusal i) i)

abbrev pub with_head : ℕ × (Bool × ℕ) → Ends (List Statement) → Ends Program
with_head h (Ok p) = Ok (record { length = h.0; minus = h.1.0; from = h.1.1; statements = p.0 }, p.1)
with_head h (Err e) = Err e

abbrev pub behind_head : Outcome (ℕ × (Bool × ℕ)) → Ends Program
behind_head (Ok p) = with_head p.0 (statements 255 [] p.1)
behind_head (Err e) = stopped e.0 e.1

unfoldable pub program : Input → Ends Program
program i = behind_head (batch i)

abbrev pub Gives : {A : Type 0} → Ends A → Result A (Option Code) → Input → Type 0
Gives outcome (Ok a) new = outcome ≡ Ok (a, new)
Gives outcome (Err None) new = Unit {0}
Gives outcome (Err (Some why)) new = outcome ≡ Err (Some why, new)

-- the whole text, with room for the batch head
abbrev pub start_of : Lexed → Input
start_of text = record { places = text.tokens; budget = record { room = 256; ending = text.ending } }

-- where the tokens go on, in a text of this size
abbrev pub offset_at : List (ℕ × Token) → Ending → ℕ → ℕ
offset_at [] (ends _) size = size
offset_at [] (bad offset) size = offset
offset_at (place ∷ _) ending size = place.0

unfoldable pub offset_of : Input → ℕ → ℕ
offset_of i size = offset_at i.places i.budget.ending size
