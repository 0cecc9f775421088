use Rattle.std.proofs.Common.{◌≡◌, ◌++◌, List, map}
use Rattle.std.specs.List.{AllByRecursion}
use Rattle.std.specs.Vec.Iter.{drain_items, DrainKeeps}
use Rattle.sb_feed.specs.declared.key.KeyBytes.{KeyBytes}
use Rattle.sb_feed.specs.Jobs.{AreValid}
use Rattle.sb_job.specs.Sums.{HasKeySums}
use Rattle.sb_kind.specs.declared.agg.Agg.{Agg}
use Rattle.sb_run.specs.Batching.{IsFedTo, keyed, stores}
use Rattle.sb_run.proofs.summing.add_fed.Given as goal

abbrev pub invariant-loop-one : goal.invariant-loop-one
invariant-loop-one l = record {
  next : goal.iterator-loop-one.can_next l.one-iterator;
  finite : goal.iterator-loop-one.is_finite l.one-iterator;
  keeps : DrainKeeps l.initial.one-iterator l.one-iterator;
  valid : AreValid (stores l.runner) l.sums;
  later : AllByRecursion (IsFedTo l.runner l.store) (drain_items l.one-iterator);
  split : l.yielded ++ drain_items l.one-iterator ≡ drain_items l.initial.one-iterator;
  sums : (values : List (KeyBytes × Agg)) → HasKeySums (stores l.runner) values l.fn.sums → HasKeySums (stores l.runner) (values ++ map (keyed l.store) l.yielded) l.sums;
}
