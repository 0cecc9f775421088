use Rattle.std.proofs.Common.{◌≡◌, ◌∙◌, ap, sym, subst}
use Rattle.std.specs.Prelude.{length}
use Rattle.sb_sketch.specs.Cells.{AreCells}
use Rattle.sb_sketch.specs.Cms.{IsCount}
use Rattle.sb_sketch.specs.Places.{counted_at}
use Rattle.sb_sketch.proofs.Counting.{counted_is_added, short_cells}
use Rattle.sb_sketch.proofs.counts.Cells.add_places.Goals as goal

pub returns-then-count_in_place-clause-ok : goal.returns-then-count_in_place-clause-ok
returns-then-count_in_place-clause-ok c =
    (c.count_in_place.ensures.counted c.if-count_in_place.true).0
    ∙ (ap (counted_at c.args.self.now) c.as_slice.ensures.value ∙ counted_is_added c.args.count c.args.self.now c.args.places.items c.requires)

pub add_into-requires : goal.add_into-requires
add_into-requires c =
    let long : length c.count_in_place.new.self ≡ c.args.count = ap length (c.count_in_place.ensures.none c.if-count_in_place.false) ∙ c.requires.count in
    subst (λ n. AreCells n IsCount c.in_ok-sums.sums.items) (sym long)
    (subst (AreCells c.args.count IsCount) (sym c.in_ok-sums.ensures) (short_cells c.args.count c.as_slice-2.result.now))
