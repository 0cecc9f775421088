use Rattle.std.proofs.Common.{◌≡◌, ◌∙◌, ap, sym, subst}
use Rattle.std.specs.Prelude.{length}
use Rattle.sb_sketch.specs.Cells.{zeros, AreCells}
use Rattle.sb_sketch.specs.Cms.{IsCount}
use Rattle.sb_sketch.specs.Places.{counted_at}
use Rattle.sb_sketch.proofs.Counting.{short_length}
use Rattle.sb_sketch.proofs.counts.Cells.add.Goals as goal

pub add_places-requires : goal.add_places-requires
add_places-requires c =
    let view : counted_at (zeros c.in-Few.count) c.in-Few.places.items ≡ c.args.more = rw c.in-Few.is at c.more.view_is in
    subst (λ n. AreCells n IsCount c.args.self.now) (ap length (sym view) ∙ short_length c.in-Few.count c.in-Few.places.items) c.requires.left
