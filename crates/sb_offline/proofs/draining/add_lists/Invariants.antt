use Rattle.std.proofs.Common.{◌++◌, List}
use Rattle.std.specs.Prelude.{IsTrue}
use Rattle.std.specs.List.{AllByRecursion, flat_map}
use Rattle.std.specs.FinMap.{is_sorted}
use Rattle.std.specs.Vec.Iter.{into_iter_items}
use Rattle.sb_feed.specs.declared.key.KeyBytes.{KeyBytes}
use Rattle.sb_feed.specs.Keys.{key_order}
use Rattle.sb_feed.specs.Jobs.{AreValid, meant}
use Rattle.sb_job.specs.Sums.{HasKeySums}
use Rattle.sb_offline.proofs.draining.add_lists.Given as goal

abbrev pub invariant-loop-rows : goal.invariant-loop-rows
invariant-loop-rows g l =
    let d = meant g.F.M.Semigroup.valid g.F.M.Semigroup.add (g.F.Family.monoids l.fn.family) in
    record {
      valid : AreValid d l.sums;
      later : AreValid d (flat_map (λ rows. rows) (into_iter_items l.rows-iterator));
      sums : (values : List (KeyBytes × g.row.F-M-El.Denot)) → HasKeySums d values l.fn.sums → HasKeySums d (values ++ flat_map (λ rows. rows) l.yielded) l.sums;
      rising : AllByRecursion (λ rows. IsTrue (is_sorted key_order rows)) l.yielded;
    }
