use Rattle.sb_text.proofs.RangeEdits.{inserted, joined}
use Rattle.sb_text.proofs.maximal.put_range.Goals as goal

pub returns-then-from-to-clause-maximal : goal.returns-then-from-to-clause-maximal
returns-then-from-to-clause-maximal c = rw c.join_range.ensures.items (joined c.args.ranges.now.items c.args.range _ _ c.requires.maximal c.requires.range c.if-from-to.true (rw c.deref.ensures.value at c.place_of-from.ensures)).0

pub returns-then-from-to-clause-covered : goal.returns-then-from-to-clause-covered
returns-then-from-to-clause-covered c = rw c.join_range.ensures.items (joined c.args.ranges.now.items c.args.range _ _ c.requires.maximal c.requires.range c.if-from-to.true (rw c.deref.ensures.value at c.place_of-from.ensures)).1

pub returns-else-from-to-clause-maximal : goal.returns-else-from-to-clause-maximal
returns-else-from-to-clause-maximal c =
    (inserted c.args.ranges.now.items c.args.range _ _ _ _ c.requires.maximal c.requires.range c.if-from-to.false (rw c.deref.ensures.value at c.place_of-from.ensures)
    (c.insert.ensures.succeeds c.requires.room) c.insert.ensures.items).0

pub returns-else-from-to-clause-covered : goal.returns-else-from-to-clause-covered
returns-else-from-to-clause-covered c =
    (inserted c.args.ranges.now.items c.args.range _ _ _ _ c.requires.maximal c.requires.range c.if-from-to.false (rw c.deref.ensures.value at c.place_of-from.ensures)
    (c.insert.ensures.succeeds c.requires.room) c.insert.ensures.items).1
