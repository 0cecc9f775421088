use Rattle.std.proofs.Common.{◌≡◌, ◌++◌, length, map, reverse}
use Rattle.sb_meaning.specs.Streams.{at_of, elements_at}
use Rattle.sb_types.specs.ValView.{value_of}
use Rattle.sb_meaning.proofs.stages.push_elements.Given as goal

abbrev pub invariant-loop-element : goal.invariant-loop-element
invariant-loop-element l = map at_of l.out.items ++ map (λ v. (l.position, v)) (map value_of (reverse l.turned.items))
    ≡ map at_of l.fn.out.items ++ elements_at l.position (value_of l.fn.list)

abbrev pub decreases-loop-element : goal.decreases-loop-element
decreases-loop-element l = length l.turned.items
