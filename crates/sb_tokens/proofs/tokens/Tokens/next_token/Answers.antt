use Rattle.std.proofs.Common.{◌∙◌, ◌+◌, sym, ap}
use Rattle.sb_tokens.specs.Lexed.{onto_tokens, lexed_from}
use Rattle.sb_tokens.specs.View.{token_view}
use Rattle.sb_tokens.proofs.LexedSteps.{token_at}
use Rattle.sb_tokens.proofs.tokens.Tokens.next_token.Goals as goal

-- past the gap, and past the token
pub returns-clause-token : goal.returns-clause-token
returns-clause-token c =
    let offset = c.self.inside.offset + c.gap_length-gap.result in
    sym c.self.view_is ∙ (c.gap_length-gap.ensures.value c.self.inside.offset ∙ (
    ap (lexed_from offset) (sym c.behind-rest.ensures) ∙ (
    token_at offset c.in-Some.count c.behind-rest.result.now (token_view c.in-Some.token) (rw c.behind-rest.ensures c.gap_length-gap.ensures.whole)
    c.in-Some.ensures.value c.in-Some.ensures.count c.in-Some.ensures.bounds.0 c.in-Some.ensures.bounds.1
    ∙ ap (λ rest. onto_tokens (offset, token_view c.in-Some.token) (lexed_from (offset + c.in-Some.count) rest)) (sym c.behind-self-inside.ensures)
    )
    ))
