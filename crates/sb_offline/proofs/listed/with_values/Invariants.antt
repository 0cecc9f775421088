use Rattle.std.proofs.Common.{◌≡◌, ◌++◌, drop}
use Rattle.std.specs.List.{AllByRecursion}
use Rattle.sb_laws.specs.Sums.{IsValid, sum_of}
use Rattle.sb_laws.specs.Tables.{values_at}
use Rattle.sb_feed.specs.Keys.{key_order}
use Rattle.sb_job.specs.ByBatch.{one_or_none}
use Rattle.sb_offline.proofs.listed.with_values.Given as goal

abbrev pub invariant-loop-row : goal.invariant-loop-row
invariant-loop-row g l = record {
  sum : sum_of (g.M.Semigroup.add l.m) (one_or_none l.sum ++ values_at key_order l.key (drop l.row-index l.values)) ≡ sum_of (g.M.Semigroup.add l.m) (one_or_none l.fn.sum ++ values_at key_order l.key l.values);
  valid : IsValid (g.M.Semigroup.valid l.m) l.sum;
  later : AllByRecursion (g.M.Semigroup.valid l.m) (values_at key_order l.key (drop l.row-index l.values));
}
