use Rattle.sb_tokens.proofs.Quotes.{read_is_text}
use Rattle.sb_tokens.proofs.token.Quoted.to_text.Goals as goal

pub returns-clause-text : goal.returns-clause-text
returns-clause-text c = rw c.text_of.ensures (read_is_text c.args.self.raw.now c.in_ok-bytes.bytes.items c.in_ok-bytes.ensures c.args.self.is_quoted)
