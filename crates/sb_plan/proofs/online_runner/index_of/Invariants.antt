use Rattle.std.proofs.Common.{◌≡◌, ◌≤◌, ◌++◌, drop, map}
use Rattle.std.specs.List.{AllByRecursion}
use Rattle.sb_feed.specs.Limits.{last_batch}
use Rattle.sb_plan.specs.Entries.{entry_record}
use Rattle.sb_plan.proofs.online_runner.index_of.Given as goal

abbrev pub invariant-loop-entry : goal.invariant-loop-entry
invariant-loop-entry l = record {
  few : AllByRecursion (λ r. r.batch ≤ last_batch) (map entry_record (drop l.entry-index l.entries));
  batches : l.index ++ map (λ r. r.batch) (map entry_record (drop l.entry-index l.entries)) ≡ map (λ r. r.batch) (map entry_record l.entries);
}
