use Rattle.std.proofs.Common.{◌≡◌, ◌++◌, drop, map}
use Rattle.sb_meaning.specs.Expression.{ev}
use Rattle.sb_meaning.specs.Its.{it_value}
use Rattle.sb_types.specs.ValView.{value_of}
use Rattle.sb_meaning.proofs.evaluation.+value.Given as goal

abbrev pub invariant-values-loop-term : goal.invariant-values-loop-term
invariant-values-loop-term l = map value_of l.values.items ++ map (λ f. f (it_value l.it)) (map ev (drop l.term-index l.terms)) ≡ map (λ f. f (it_value l.it)) (map ev l.terms)
