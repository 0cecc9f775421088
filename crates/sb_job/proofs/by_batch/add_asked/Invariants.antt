use Rattle.std.proofs.Common.{◌≡◌, drop, IsTrue}
use Rattle.std.specs.List.{AllByRecursion}
use Rattle.std.specs.Ordering.{nat_cmp}
use Rattle.std.specs.FinMap.{is_sorted}
use Rattle.sb_laws.specs.Tables.{add_all}
use Rattle.sb_job.specs.ByBatch.{asked}
use Rattle.sb_job.proofs.by_batch.add_asked.Given as goal

abbrev pub invariant-loop-part : goal.invariant-loop-part
invariant-loop-part g l = record {
  rest : add_all nat_cmp (g.M.Semigroup.add l.m) l.sums.items (asked l.key l.from l.upto (drop l.part-index l.parts)) ≡ add_all nat_cmp (g.M.Semigroup.add l.m) l.fn.sums.items (asked l.key l.from l.upto l.parts);
  rising : IsTrue (is_sorted nat_cmp l.sums.items);
  valid : AllByRecursion (λ pair. g.M.Semigroup.valid l.m pair.1) l.sums.items;
  later : AllByRecursion (λ pair. g.M.Semigroup.valid l.m pair.1) (asked l.key l.from l.upto (drop l.part-index l.parts));
}
