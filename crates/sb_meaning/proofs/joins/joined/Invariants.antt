use Rattle.std.proofs.Common.{◌≡◌, ◌++◌, map}
use Rattle.std.specs.Vec.Iter.{into_iter_items}
use Rattle.sb_service.specs.Views.{view_service}
use Rattle.sb_meaning.specs.Streams.{at_of, joined, list_at}
use Rattle.sb_meaning.proofs.joins.joined.Given as goal

abbrev pub invariant-loop-x : goal.invariant-loop-x
invariant-loop-x l = map at_of l.out.items ++ joined (list_at l.number (map view_service l.services)) (map at_of (into_iter_items l.x-iterator))
    ≡ joined (list_at l.number (map view_service l.services)) (map at_of l.fn.values.items)
