use Rattle.std.proofs.Common.{◌≡◌, sym, ap, ◌∙◌}
use Rattle.std.specs.Prelude.{length}
use Rattle.sb_sketch.specs.Cells.{zeros}
use Rattle.sb_sketch.specs.Places.{counted_at}
use Rattle.sb_sketch.proofs.Counting.{short_length}
use Rattle.sb_sketch.proofs.counts.Cells.len.Goals as goal

pub returns-in-Few : goal.returns-in-Few
returns-in-Few c =
    let view : counted_at (zeros c.in-Few.count) c.in-Few.places.items ≡ c.args.self.now = rw c.in-Few.is at c.self.view_is in
    c.from.ensures ∙ (sym (short_length c.in-Few.count c.in-Few.places.items) ∙ ap length view)
