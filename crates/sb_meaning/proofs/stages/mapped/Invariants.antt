use Rattle.std.proofs.Common.{◌≡◌, ◌++◌, drop, map}
use Rattle.sb_meaning.specs.Streams.{at_of, mapped}
use Rattle.sb_meaning.proofs.stages.mapped.Given as goal

abbrev pub invariant-loop-x : goal.invariant-loop-x
invariant-loop-x l = map at_of l.out.items ++ mapped l.term (map at_of (drop l.x-index l.values)) ≡ mapped l.term (map at_of l.values)
