use Rattle.std.proofs.Common.{◌<◌, ◌∙◌, sym, length, arith}
use Rattle.std.proofs.lemmas.Bool.Decides.{nat_tests}
use Rattle.sb_text.proofs.EscapedTexts.{escaped_plain}
use Rattle.sb_text.proofs.escaping.is_plain_text.Goals as goal

pub returns-then-not-is_empty : goal.returns-then-not-is_empty
returns-then-not-is_empty c = λ are.
    let some : 0 < length c.args.bytes.now = grind (arith, nat_tests, c.if-not-is_empty.ensures) in
    escaped_plain c.args.bytes.now some (sym c.are_plain.ensures ∙ are)
