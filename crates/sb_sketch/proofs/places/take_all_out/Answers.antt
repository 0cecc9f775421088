use Rattle.std.proofs.Common.{◌≡◌, [], ◌∷◌, ◌++◌, ◌∙◌, arith}
use Rattle.sb_sketch.specs.Cells.{zeros}
use Rattle.sb_sketch.specs.Places.{counted_at, HasRoom}
use Rattle.sb_sketch.proofs.Counting.{counted_last, room_before, last_there, last_room, none_left}
use Rattle.sb_sketch.proofs.places.take_all_out.Goals as goal

pub loop-place-preserved : goal.loop-place-preserved
loop-place-preserved c count earlier counted room =
    let ps = c.pop.new.self.items in
    let p = c.in-Some.place in
    let both : (counted_at (zeros count) c.loop-place.places.items ≡ counted_at earlier (ps ++ p ∷ [])) × HasRoom earlier (ps ++ p ∷ []) = rw c.in-Some.ensures.items at c.loop-place.invariant count earlier counted room in
    (c.take_out.ensures count (counted_at earlier ps) (last_there earlier ps p both.1) (last_room earlier ps p both.1) (both.0 ∙ counted_last earlier ps p), room_before earlier ps p both.1)

pub returns : goal.returns
returns c count earlier counted room =
    none_left (counted_at (zeros count) c.loop-place.places.items) earlier c.loop-place.more.items (omega (arith, c.in_default.ensures.cases.0, c.loop-place.more.ok.0))
    (c.loop-place.invariant count earlier counted room).0
