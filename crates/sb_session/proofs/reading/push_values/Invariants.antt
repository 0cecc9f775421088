use Rattle.std.proofs.Common.{◌≡◌, ◌++◌, map}
use Rattle.std.specs.Vec.Iter.{into_iter_items}
use Rattle.sb_session.proofs.reading.push_values.Given as goal

abbrev pub invariant-loop-value : goal.invariant-loop-value
invariant-loop-value g l = record {
  values : l.values.items ≡ l.fn.values.items ++ map (λ sum. sum.1) l.yielded;
  split : l.yielded ++ into_iter_items l.value-iterator ≡ l.fn.sums;
}
