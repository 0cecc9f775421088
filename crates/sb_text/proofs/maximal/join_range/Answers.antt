use Rattle.std.proofs.Common.{arith}
use Rattle.sb_text.proofs.RangeEdits.{written_over}
use Rattle.sb_text.proofs.maximal.join_range.Goals as goal

pub returns-clause-items : goal.returns-clause-items
returns-clause-items c = rw (c.drop_between.ensures.items, c.joined-one.ensures, c.deref.ensures.value) (written_over c.args.ranges.now.items c.args.from c.args.to _ (omega (arith, c.requires.some.0, c.requires.some.1)))
