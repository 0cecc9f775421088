use Rattle.std.proofs.Common.{◌≡◌, ◌++◌, List}
use Rattle.std.specs.Vec.Iter.{drain_items, DrainKeeps}
use Rattle.sb_feed.specs.declared.key.KeyBytes.{KeyBytes}
use Rattle.sb_feed.specs.Jobs.{AreValid, meant}
use Rattle.sb_feed.specs.Stands.{keyed_values}
use Rattle.sb_job.specs.Sums.{HasKeySums}
use Rattle.sb_job.proofs.key_sums.KeySums.drain_parts.Given as goal

abbrev pub invariant-loop-part : goal.invariant-loop-part
invariant-loop-part g l =
    let d = meant g.F.M.Semigroup.valid g.F.M.Semigroup.add (g.F.Family.monoids l.fn.family) in
    record {
      next : (goal.iterator-loop-part g).can_next l.part-iterator;
      finite : (goal.iterator-loop-part g).is_finite l.part-iterator;
      keeps : DrainKeeps l.initial.part-iterator l.part-iterator;
      valid : AreValid d l.self;
      later : AreValid d (keyed_values (drain_items l.part-iterator));
      split : l.yielded ++ drain_items l.part-iterator ≡ drain_items l.initial.part-iterator;
      sums : (values : List (KeyBytes × g.row.E.Denot)) → HasKeySums d values l.fn.self → HasKeySums d (values ++ keyed_values l.yielded) l.self;
    }
