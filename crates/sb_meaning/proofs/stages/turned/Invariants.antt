use Rattle.std.proofs.Common.{◌≡◌, ◌++◌, length, reverse}
use Rattle.sb_meaning.proofs.stages.turned.Given as goal

abbrev pub invariant-loop-last : goal.invariant-loop-last
invariant-loop-last l = l.turned.items ++ reverse l.left ≡ reverse l.fn.values

abbrev pub decreases-loop-last : goal.decreases-loop-last
decreases-loop-last l = length l.left
