use Rattle.std.proofs.Common.{◌≡◌}
use Rattle.std.specs.Prelude.{IsTrue}
use Rattle.sb_sketch.specs.Cells.{zeros}
use Rattle.sb_sketch.specs.Places.{counted_at}
use Rattle.sb_sketch.proofs.Counting.{same_zeros}
use Rattle.sb_sketch.proofs.counts.Cells.are_zeros.Goals as goal

pub returns-in-Few : goal.returns-in-Few
returns-in-Few c =
    let view : counted_at (zeros c.in-Few.count) c.in-Few.places.items ≡ c.args.self.now = rw c.in-Few.is at c.self.view_is in
    same_zeros c.in-Few.count c.in-Few.places.items c.args.self.now (IsTrue c.are_all_zeros.result) view (rw c.as_slice.ensures.value at c.are_all_zeros.ensures)
