use Rattle.std.proofs.Common.{◌≡◌, ◌++◌, map}
use Rattle.std.specs.Vec.Iter.{into_iter_items}
use Rattle.sb_types.specs.ValView.{value_of}
use Rattle.sb_meaning.specs.Emissions.{emission_of}
use Rattle.sb_meaning.specs.Fold.{is_in, picked}
use Rattle.sb_meaning.proofs.folds.pick.Given as goal

abbrev pub invariant-loop-e : goal.invariant-loop-e
invariant-loop-e l = l.elements.items ++ picked (value_of l.key) (is_in l.take) (map emission_of (into_iter_items l.e-iterator))
    ≡ picked (value_of l.key) (is_in l.take) (map emission_of l.fn.all.items)
