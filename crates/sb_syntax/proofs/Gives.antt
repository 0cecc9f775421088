-- What `statements` and `program` answer, case by case.
use Rattle.std.proofs.Common.{◌≡◌, ◌≢◌, ◌-◌, ℕ, zero, suc, Bool, true, false, if◌then◌else◌, List, [], ◌∷◌, ◌++◌, Option, Some, None, Ok, Err, refl, ap, sym, subst, ◌∙◌}
use Rattle.sb_grammar.specs.declared.code.Code.{Code}
use Rattle.sb_grammar.specs.declared.programs.Statement.{Statement}
use Rattle.sb_syntax.specs.declared.fault.Fault.{Fault}
use Rattle.sb_syntax.specs.declared.fault.Fault.TheVariants.{NoMemory, Deep, Ended, Misfit, Spent}
use Rattle.sb_syntax.specs.Reading.{Input, ahead, refusal}
use Rattle.sb_syntax.specs.Statements as p
use Rattle.sb_syntax.specs.Programs.{Ends, Gives, code_of, is_done, begins_statement, fresh, one_more, statements, behind_head, program}
use Rattle.sb_syntax.proofs.Turns.{deeper}

pub gives_err : {A : Type 0} (o : Ends A) (c : Option Code) (i : Input) → o ≡ Err (c, i) → Gives o (Err c) i
gives_err o None i h = tt
gives_err o (Some why) i h = h

gives_code : {A : Type 0} (o : Ends A) (fault : Fault) (c : Option Code) (i : Input) → c ≡ code_of fault i → o ≡ Err (code_of fault i, i) → Gives o
    (Err c) i
gives_code o fault c i e h = gives_err o c i (h ∙ ap (λ x. Err (x, i)) (sym e))

pub gives_fault : {A : Type 0} (o : Ends A) (fault : Fault) (c : Option Code) (i : Input) → c ≡ code_of fault i → (fault ≢ NoMemory → o ≡ Err
    (code_of fault i, i)) → Gives o (Err c) i
unfolding code_of
gives_fault o NoMemory c i e h = subst (λ x. Gives o (Err x) i) (sym e) tt
gives_fault o Deep c i e h = gives_code o Deep c i e (h (λ x. cc))
gives_fault o Ended c i e h = gives_code o Ended c i e (h (λ x. cc))
gives_fault o Misfit c i e h = gives_code o Misfit c i e (h (λ x. cc))
gives_fault o Spent c i e h = gives_code o Spent c i e (h (λ x. cc))

third : {A : Type 0} (d g : Bool) (x y z : A) → d ≡ false → g ≡ false → (if d then x else (if g then y else z)) ≡ z
third true g x y z h k = cc
third false true x y z h k = cc
third false false x y z h k = refl

second : {A : Type 0} (d g : Bool) (x y z : A) → d ≡ false → g ≡ true → (if d then x else (if g then y else z)) ≡ y
second true g x y z h k = cc
second false true x y z h k = refl
second false false x y z h k = cc

pub statements_stop : (n : ℕ) (found : List Statement) (i : Input) → is_done i ≡ false → begins_statement (ahead i) ≡ false
    → statements n found i ≡ Err (code_of (refusal i) i, i)
unfolding statements
statements_stop zero found i h k = third (is_done i) (begins_statement (ahead i)) _ _ _ h k
statements_stop (suc n) found i h k = third (is_done i) (begins_statement (ahead i)) _ _ _ h k

pub one_step : (n : ℕ) (found : List Statement) (i : Input) → is_done i ≡ false → begins_statement (ahead i) ≡ true → statements
    (suc n) found i ≡ one_more (statements n) found (p.statement (fresh i))
unfolding statements
one_step n found i h k = second (is_done i) (begins_statement (ahead i)) _ _ _ h k

pub statements_fail : (n : ℕ) (found : List Statement) (i : Input) (fault : Fault) (j : Input) → n ≢ 0 → is_done i ≡ false → begins_statement
    (ahead i) ≡ true → p.statement (fresh i) ≡ Err (fault, j) → statements n found i ≡ Err (code_of fault j, j)
statements_fail n found i fault j some h k e = deeper (λ m. statements m found i) n some ∙ one_step (n - 1) found i h k ∙ ap (one_more (statements
    (n - 1)) found) e

pub statements_next : (n : ℕ) (found : List Statement) (i : Input) (a : Statement) (j : Input) → n ≢ 0 → is_done i ≡ false → begins_statement
    (ahead i) ≡ true → p.statement (fresh i) ≡ Ok (a, j) → statements n found i ≡ statements (n - 1) (found ++ a ∷ []) j
statements_next n found i a j some h k e = deeper (λ m. statements m found i) n some ∙ one_step (n - 1) found i h k ∙ ap (one_more (statements
    (n - 1)) found) e

pub program_fail : (i : Input) (fault : Fault) (j : Input) → p.batch i ≡ Err (fault, j) → program i ≡ Err (code_of fault j, j)
unfolding program
program_fail i fault j e = ap behind_head e
