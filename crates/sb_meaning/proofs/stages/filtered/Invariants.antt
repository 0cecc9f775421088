use Rattle.std.proofs.Common.{◌≡◌, ◌++◌, map}
use Rattle.std.specs.Vec.Iter.{into_iter_items}
use Rattle.sb_meaning.specs.Streams.{at_of, filtered}
use Rattle.sb_meaning.proofs.stages.filtered.Given as goal

abbrev pub invariant-loop-x : goal.invariant-loop-x
invariant-loop-x l = map at_of l.out.items ++ filtered l.term (map at_of (into_iter_items l.x-iterator)) ≡ filtered l.term (map at_of l.fn.values.items)
