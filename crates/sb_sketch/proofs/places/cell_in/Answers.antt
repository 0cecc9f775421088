use Rattle.sb_sketch.proofs.Counting.{cell_whole, short_get}
use Rattle.sb_sketch.proofs.places.cell_in.Goals as goal

pub returns : goal.returns
returns c count h =
    let places = c.args.places.now in
    short_get count places c.args.at c.loop-place.cell (cell_whole c.loop-place.cell c.args.at c.loop-place.place-index places c.loop-place.invariant c.loop-place-test.false) h
