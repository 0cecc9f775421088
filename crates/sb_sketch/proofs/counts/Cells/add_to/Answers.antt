use Rattle.std.proofs.Common.{◌≡◌, ◌∙◌, ap}
use Rattle.sb_sketch.specs.Cells.{zeros}
use Rattle.sb_sketch.specs.Places.{counted_at}
use Rattle.sb_sketch.proofs.Counting.{added_to_full}
use Rattle.sb_sketch.proofs.counts.Cells.add_to.Goals as goal

pub returns-in-Few : goal.returns-in-Few
returns-in-Few c =
    let view : counted_at (zeros c.in-Few.count) c.in-Few.places.items ≡ c.args.self.now = rw c.in-Few.is at c.self.view_is in
    c.count_all.ensures ∙ (ap (counted_at c.args.sums.now.items) c.as_slice-in-Few.ensures.value
    ∙ added_to_full c.in-Few.count c.in-Few.places.items c.args.self.now c.args.sums.now.items view c.requires)
