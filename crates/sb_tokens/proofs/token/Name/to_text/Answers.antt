use Rattle.sb_tokens.proofs.LeadingWords.{name_is_utf8}
use Rattle.sb_tokens.proofs.token.Name.to_text.Goals as goal

pub text_of-requires : goal.text_of-requires
text_of-requires c = rw c.in_ok-bytes.ensures.items (name_is_utf8 c.args.self.bytes.now c.args.self.is_name)
