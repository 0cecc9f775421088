use Rattle.std.proofs.Common.{sym}
use Rattle.sb_text.specs.MaximalRanges.{numbers_of}
use Rattle.sb_text.proofs.RangeEdits.{has_covered}
use Rattle.sb_text.proofs.Sets.{has_contains}
use Rattle.sb_text.proofs.ranges.Ranges.contains.Goals as goal

pub returns : goal.returns
returns c =
    rw (c.covers.ensures, c.deref.ensures.value, sym (has_covered c.args.number c.self.inside.ranges.items), sym c.self.view_is)
    (has_contains c.args.number (numbers_of c.self.inside.ranges.items))
