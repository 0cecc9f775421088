use Rattle.std.proofs.Common.{◌∙◌, sym}
use Rattle.sb_tokens.proofs.LexedSteps.{first_is_word}
use Rattle.sb_tokens.proofs.first.first_token.Goals as goal

pub returns-then-is_letter-clause-value : goal.returns-then-is_letter-clause-value
returns-then-is_letter-clause-value c =
    c.first_word.ensures.value
    ∙ first_is_word c.args.bytes.now c.in_ok-first.first.now c.in_ok-first.behind.now c.in_ok-first.ensures.cases.0 (sym c.is_letter.ensures ∙ c.if-is_letter.true)
