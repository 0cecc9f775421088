use Rattle.std.proofs.Common.{◌≡◌, ◌<◌, ap, sym, subst, ◌∙◌}
use Rattle.std.specs.Prelude.{length, slice_get}
use Rattle.sb_sketch.specs.Cells.{zeros}
use Rattle.sb_sketch.specs.Places.{counted_at}
use Rattle.sb_sketch.proofs.Counting.{short_length}
use Rattle.sb_sketch.proofs.counts.Cells.get.Goals as goal

pub returns-in-Few : goal.returns-in-Few
returns-in-Few c =
    let count = c.in-Few.count in
    let places = c.in-Few.places.items in
    let view : counted_at (zeros count) places ≡ c.args.self.now = rw c.in-Few.is at c.self.view_is in
    let below : c.args.at < count = subst (λ n. c.args.at < n) (ap length (sym view) ∙ short_length count places) c.requires in
    ap (λ l. slice_get l c.args.at) (sym view) ∙ (rw c.as_slice-in-Few.ensures.value at c.cell_in.ensures count below)
