use Rattle.std.proofs.Common.{◌≡◌, [], ◌∷◌, ◌++◌, ◌∙◌}
use Rattle.sb_sketch.specs.Places.{counted_at, HasRoom}
use Rattle.sb_sketch.proofs.Counting.{counted_last, room_before, last_there, last_room}
use Rattle.sb_sketch.proofs.places.count_back.Goals as goal

pub loop-place-preserved : goal.loop-place-preserved
loop-place-preserved c earlier counted room =
    let ps = c.pop.new.self.items in
    let p = c.in-Some.place in
    let both : (c.loop-place.cells.items ≡ counted_at earlier (ps ++ p ∷ [])) × HasRoom earlier (ps ++ p ∷ []) = rw c.in-Some.ensures.items at c.loop-place.invariant earlier counted room in
    let down = rw c.from.ensures at c.count_down.ensures in
    (down (counted_at earlier ps) (last_there earlier ps p both.1) (last_room earlier ps p both.1) (both.0 ∙ counted_last earlier ps p), room_before earlier ps p both.1)
