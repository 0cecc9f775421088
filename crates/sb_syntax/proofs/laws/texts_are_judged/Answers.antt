use Rattle.std.proofs.Common.{ℕ, length, Some, None, Ok, Err, inl, inr, ◌⊎◌}
use Rattle.sb_tokens.specs.Lexed.{Lexed, lexed}
use Rattle.sb_grammar.specs.declared.code.Code.{Code}
use Rattle.sb_grammar.specs.declared.programs.Program.{Program}
use Rattle.sb_grammar.specs.Program.{FaultIn, IsTextIn}
use Rattle.sb_syntax.specs.Programs.{Ends, IsAnswered, program, start_of, offset_at}
use Rattle.sb_syntax.proofs.Answering.{Answers, program_says}
use Rattle.sb_syntax.proofs.Depth.{is_answered}
use Rattle.sb_syntax.proofs.laws.texts_are_judged.Goals as goal

-- what is answered is a program or a fault; the depth that is counted down is never used up
judged : (text : Lexed) (size : ℕ) (e : Ends Program) → IsAnswered e → Answers text size e
    → ((p : Program) × IsTextIn p text) ⊎ ((offset : ℕ) × (why : Code) × FaultIn text size offset why)
judged text size (Ok p) answered says = inl (p.0, says)
judged text size (Err (None, i)) answered says = absurd answered
judged text size (Err (Some why, i)) answered says = inr (offset_at i.places i.budget.ending size, why, says)

pub returns : goal.returns
returns c = λ bytes.
    let text = lexed bytes in
    judged text (length bytes) (program (start_of text)) (is_answered text) (program_says text (length bytes))
