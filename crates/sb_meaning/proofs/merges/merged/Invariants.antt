use Rattle.std.proofs.Common.{◌≡◌, ◌++◌, map}
use Rattle.std.specs.Vec.Iter.{into_iter_items}
use Rattle.sb_meaning.specs.Streams.{at_of, merged}
use Rattle.sb_meaning.proofs.merges.merged.Given as goal

abbrev pub invariant-loop-x : goal.invariant-loop-x
invariant-loop-x l = map at_of l.out.items ++ merged (map at_of (into_iter_items l.x-iterator)) (map at_of l.right.items) ≡ merged (map at_of l.fn.left.items) (map at_of l.fn.right.items)
