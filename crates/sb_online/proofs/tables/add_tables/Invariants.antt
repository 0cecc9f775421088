use Rattle.std.proofs.Common.{◌++◌, List}
use Rattle.std.specs.List.{flat_map}
use Rattle.std.specs.Vec.Iter.{into_iter_items}
use Rattle.sb_feed.specs.declared.key.KeyBytes.{KeyBytes}
use Rattle.sb_feed.specs.Jobs.{AreValid, meant}
use Rattle.sb_job.specs.Sums.{HasKeySums}
use Rattle.sb_online.proofs.tables.add_tables.Given as goal

abbrev pub invariant-loop-table : goal.invariant-loop-table
invariant-loop-table g l =
    let d = meant g.F.M.Semigroup.valid g.F.M.Semigroup.add (g.F.Family.monoids l.fn.family) in
    record {
      valid : AreValid d l.sums;
      later : AreValid d (flat_map (λ table. table) (into_iter_items l.table-iterator));
      sums : (values : List (KeyBytes × g.row.F-M-El.Denot)) → HasKeySums d values l.fn.sums → HasKeySums d (values ++ flat_map (λ table. table) l.yielded) l.sums;
    }
