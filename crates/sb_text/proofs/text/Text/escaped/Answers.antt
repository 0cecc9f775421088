use Rattle.sb_text.proofs.EscapedTexts.{escaped_is_utf8}
use Rattle.sb_text.proofs.text.Text.escaped.Goals as goal

pub text_of-requires : goal.text_of-requires
text_of-requires c = rw (c.in_ok-escape.ensures.ok, c.new-bytes.ensures.items) (escaped_is_utf8 c.as_bytes-2.result.now c.as_bytes-2.ensures.utf8)
