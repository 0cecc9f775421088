use Rattle.std.proofs.lemmas.Str.{IsUtf8-from_is_utf8}
use Rattle.sb_tokens.proofs.token.text_of.Goals as goal

pub unreachable-requires : goal.unreachable-requires
unreachable-requires c = let none = c.in-None.ensures.utf8.1 (IsUtf8-from_is_utf8 c.args.bytes.items c.requires) in cc
