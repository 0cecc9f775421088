use Rattle.std.proofs.Common.{◌++◌, List}
use Rattle.std.specs.Vec.Iter.{into_iter_items}
use Rattle.sb_feed.specs.declared.key.KeyBytes.{KeyBytes}
use Rattle.sb_feed.specs.Jobs.{AreValid, meant}
use Rattle.sb_job.specs.Sums.{HasKeySums}
use Rattle.sb_job.proofs.key_sums.KeySums.add_values.Given as goal

abbrev pub invariant-loop-key : goal.invariant-loop-key
invariant-loop-key g l =
    let d = meant g.F.M.Semigroup.valid g.F.M.Semigroup.add (g.F.Family.monoids l.fn.family) in
    record {
      valid : AreValid d l.self;
      later : AreValid d (into_iter_items l.key-iterator);
      sums : (values : List (KeyBytes × g.row.E.Denot)) → HasKeySums d values l.fn.self → HasKeySums d (values ++ l.yielded) l.self;
    }
