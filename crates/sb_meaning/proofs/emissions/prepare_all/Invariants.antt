use Rattle.std.proofs.Common.{◌≡◌, ◌++◌, map}
use Rattle.std.specs.List.{AllByRecursion}
use Rattle.std.specs.Vec.Iter.{into_iter_items}
use Rattle.sb_kind.specs.Elements.{IsOf}
use Rattle.sb_kind.specs.KindView.{monoid_of}
use Rattle.sb_meaning.specs.Emissions.{emission, emission_of}
use Rattle.sb_meaning.specs.Streams.{at_of}
use Rattle.sb_meaning.proofs.emissions.prepare_all.Given as goal

abbrev pub invariant-loop-x : goal.invariant-loop-x
invariant-loop-x l = record {
  value : map emission_of l.all.items ++ map (emission (monoid_of l.kind)) (map at_of (into_iter_items l.x-iterator)) ≡ map (emission (monoid_of l.kind)) (map at_of l.fn.values.items);
  valid : AllByRecursion (λ e. IsOf (monoid_of l.kind) e.value) l.all.items;
}
