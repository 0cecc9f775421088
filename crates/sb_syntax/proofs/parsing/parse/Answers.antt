use Rattle.std.proofs.Common.{rules, arith, ◌≡◌, ◌⊎◌, inl, inr, ℕ, List, Some, None, Result, Ok, Err, length, refl, ap, subst, sym, ◌∙◌}
use Rattle.std.specs.Prelude.{IfOk, IfErr}
use Rattle.std.proofs.lemmas.Grind.{common_steps}
use Rattle.sb_tokens.specs.Lexed.{lexed}
use Rattle.sb_grammar.specs.declared.code.Code.{Code}
use Rattle.sb_grammar.specs.declared.programs.Program.{Program}
use Rattle.sb_grammar.specs.Program.{FaultIn, FirstFault, IsTextOf}
use Rattle.sb_grammar.proofs.Faults.{one_fault, no_fault}
use Rattle.sb_syntax.specs.declared.parsing.SyntaxError.{SyntaxError}
use Rattle.sb_syntax.specs.declared.parsing.SyntaxError.TheVariants.{At, NoMemory}
use Rattle.sb_syntax.specs.Answer.{Explains}
use Rattle.sb_syntax.specs.Programs.{program, start_of, offset_of}
use Rattle.sb_syntax.proofs.Answering.{Answers, program_says}
use Rattle.sb_syntax.proofs.Complete.{IsAnswer, answer_of}
use Rattle.sb_syntax.proofs.parsing.parse.Goals as goal

pub returns-in-Ok-clause-ok : goal.returns-in-Ok-clause-ok
returns-in-Ok-clause-ok c =
    let text = lexed c.args.bytes.now in
    let read : program (start_of text) ≡ Ok (c.in-Ok.program, c.program.new.tokens) = first_of (search rules, grind (arith, common_steps)) in
    subst (Answers text (length c.args.bytes.now)) read (program_says text (length c.args.bytes.now))

pub returns-in-Err-Some-clause-at : goal.returns-in-Err-Some-clause-at
unfolding offset_of
returns-in-Err-Some-clause-at c =
    let text = lexed c.args.bytes.now in
    let read : program (start_of text) ≡ Err (Some c.in-Err-Some.code, c.program.new.tokens) = first_of (search rules, grind (arith, common_steps)) in
    let offset = c.offset-offset.ensures in
    subst (λ o. FaultIn text (length c.args.bytes.now) o c.in-Err-Some.code) (sym offset) (subst (Answers text (length c.args.bytes.now)) read (program_says text (length c.args.bytes.now)))

pub returns-in-Ok-clause-every : goal.returns-in-Ok-clause-every
returns-in-Ok-clause-every c =
    let text = lexed c.args.bytes.now in
    let read : program (start_of text) ≡ Ok (c.in-Ok.program, c.program.new.tokens) = first_of (search rules, grind (arith, common_steps)) in
    λ p is. (subst (IsAnswer p) read (answer_of p text is), tt)

no_code : {A : Type 0} (why : Code) → Some why ≡ None → A
no_code why h = cc

pub returns-in-Err-Some-clause-every : goal.returns-in-Err-Some-clause-every
returns-in-Err-Some-clause-every c =
    let text = lexed c.args.bytes.now in
    let read : program (start_of text) ≡ Err (Some c.in-Err-Some.code, c.program.new.tokens) = first_of (search rules, grind (arith, common_steps)) in
    λ p is. no_code c.in-Err-Some.code (subst (IsAnswer p) read (answer_of p text is))

-- any first wrong token is the one that is answered
fault_answered : (bytes : List ℕ) (r : Result Program SyntaxError) → IfOk r (λ p. IsTextOf p bytes) → IfErr r (Explains bytes) → (offset : ℕ)
    (why : Code) → FirstFault bytes offset why → (r ≡ Err (At offset why)) ⊎ (r ≡ Err NoMemory)
fault_answered bytes (Ok p) text at offset why f = absurd (no_fault p (lexed bytes) (length bytes) offset why text f)
fault_answered bytes (Err (At o w)) text at offset why f =
    let same = one_fault (lexed bytes) (length bytes) o offset w why at f in
    inl (ap (λ x. Err (At x w)) same.0 ∙ ap (λ x. Err (At offset x)) same.1)
fault_answered bytes (Err NoMemory) text at offset why f = inr refl

pub returns-in-Ok-clause-fault : goal.returns-in-Ok-clause-fault
returns-in-Ok-clause-fault c = fault_answered c.args.bytes.now (Ok c.in-Ok.program) (returns-in-Ok-clause-ok c) tt

pub returns-in-Err-Some-clause-fault : goal.returns-in-Err-Some-clause-fault
returns-in-Err-Some-clause-fault c =
    fault_answered c.args.bytes.now (Err (At c.offset-offset.result c.in-Err-Some.code)) tt (returns-in-Err-Some-clause-at c)
