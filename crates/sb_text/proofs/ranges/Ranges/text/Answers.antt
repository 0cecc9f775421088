use Rattle.std.proofs.Common.{refl}
use Rattle.sb_text.proofs.RangeNumbers.{ranges-numbers}
use Rattle.sb_text.proofs.ranges.Ranges.text.Goals as goal

pub returns-in-Ok-clause-ok : goal.returns-in-Ok-clause-ok
returns-in-Ok-clause-ok c = rw (c.in-Ok.ensures.ok, c.deref.ensures.value, ← c.self.view_is, ranges-numbers 0 c.self.inside.ranges.items c.self.invariant) refl
