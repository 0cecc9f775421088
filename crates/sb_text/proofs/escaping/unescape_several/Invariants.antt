use Rattle.std.proofs.Common.{◌≡◌, ◌++◌, length}
use Rattle.std.specs.Option.{option_map}
use Rattle.sb_text.specs.Escape.{bytes_unescaped}
use Rattle.sb_text.proofs.escaping.unescape_several.Given as goal

abbrev pub invariant-loop-left : goal.invariant-loop-left
invariant-loop-left l = option_map (λ rest. l.text.items ++ rest) (bytes_unescaped l.left) ≡ bytes_unescaped l.bytes

abbrev pub decreases-loop-left : goal.decreases-loop-left
decreases-loop-left l = length l.left
