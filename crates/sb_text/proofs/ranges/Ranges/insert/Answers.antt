use Rattle.sb_text.proofs.RangeEdits.{numbers-put}
use Rattle.sb_text.proofs.ranges.Ranges.insert.Goals as goal

pub returns-clause-ok : goal.returns-clause-ok
returns-clause-ok c =
    rw (← c.self.view_is)
    (numbers-put c.self.inside.ranges.items c.put_range.new.ranges.items c.args.number c.self.invariant c.put_range.ensures.maximal
    (rw c.in_ok-reserve.ensures.items at c.put_range.ensures.covered))
