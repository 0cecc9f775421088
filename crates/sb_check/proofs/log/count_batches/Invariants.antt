use Rattle.std.proofs.Common.{◌≡◌, true, drop, map}
use Rattle.std.specs.Prelude.{fold, max}
use Rattle.sb_batcher.specs.Batches.{batch_of}
use Rattle.sb_check.specs.Log.{logged_of, are_in_batches, up_to, batch_count}
use Rattle.sb_check.proofs.log.count_batches.Given as goal

abbrev pub invariant-loop-logged : goal.invariant-loop-logged
invariant-loop-logged l = record {
  count : fold (λ most r. max most (up_to (batch_of l.batcher r.time))) l.most (map logged_of (drop l.logged-index l.records)) ≡ batch_count l.batcher (map logged_of l.records);
  within : are_in_batches l.batcher (map logged_of (drop l.logged-index l.records)) ≡ true;
}
