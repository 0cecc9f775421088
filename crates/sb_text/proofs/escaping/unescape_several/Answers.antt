use Rattle.std.proofs.Common.{◌∙◌}
use Rattle.sb_text.specs.Escape.{bytes_unescaped}
use Rattle.sb_text.proofs.Spellings.{onto_moved}
use Rattle.sb_text.proofs.escaping.unescape_several.Goals as goal

pub loop-left-preserved : goal.loop-left-preserved
loop-left-preserved c =
    rw c.in_ok-push.ensures.items
    (onto_moved c.loop-left.text.items c.in-Some.byte (bytes_unescaped c.in-Some.rest.now) ∙ rw c.in-Some.ensures.value at c.loop-left.invariant)
