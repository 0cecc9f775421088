use Rattle.sb_text.proofs.RangeNumbers.{all_ranges}
use Rattle.sb_text.proofs.RangeEdits.{numbers-union}
use Rattle.sb_text.proofs.ranges.Ranges.union.Goals as goal

pub put_ranges-requires-clause-others : goal.put_ranges-requires-clause-others
put_ranges-requires-clause-others c = rw c.deref-then-len-le1.ensures.value (all_ranges 0 c.other.inside.ranges.items c.other.invariant)

pub returns-then-len-le1-clause-ok : goal.returns-then-len-le1-clause-ok
returns-then-len-le1-clause-ok c =
    rw (← c.self.view_is, ← c.other.view_is)
    (numbers-union c.self.inside.ranges.items c.other.inside.ranges.items c.put_ranges.new.ranges.items c.self.invariant c.put_ranges.ensures.maximal
    (rw (c.in_ok-reserve.ensures.items, c.deref-then-len-le1.ensures.value) at c.put_ranges.ensures.covered))

pub returns-clause-ok : goal.returns-clause-ok
returns-clause-ok c =
    rw (← c.self.view_is, ← c.other.view_is)
    (numbers-union c.self.inside.ranges.items c.other.inside.ranges.items c.in_ok-self-inside.field-0.items c.self.invariant c.in_ok-self-inside.ensures.maximal
    (rw (c.deref-2.ensures.value, c.deref-3.ensures.value) at c.in_ok-self-inside.ensures.covered))
