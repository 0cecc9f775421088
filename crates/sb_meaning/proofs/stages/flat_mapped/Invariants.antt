use Rattle.std.proofs.Common.{◌≡◌, ◌++◌, drop, map}
use Rattle.sb_meaning.specs.Streams.{at_of, flat_mapped}
use Rattle.sb_meaning.proofs.stages.flat_mapped.Given as goal

abbrev pub invariant-loop-x : goal.invariant-loop-x
invariant-loop-x l = map at_of l.out.items ++ flat_mapped l.term (map at_of (drop l.x-index l.values)) ≡ flat_mapped l.term (map at_of l.values)
