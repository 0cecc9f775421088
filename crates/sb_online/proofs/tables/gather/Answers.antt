use Rattle.std.proofs.Common.{drop, sym, subst}
use Rattle.std.specs.Prelude.{IsTrue}
use Rattle.std.specs.Ordering.{nat_cmp}
use Rattle.std.specs.FinMap.{is_sorted}
use Rattle.sb_laws.proofs.Tables.{is_true}
use Rattle.sb_job.proofs.Listed.{rows_rise}
use Rattle.sb_online.proofs.tables.gather.Goals as goal

pub add_asked-requires-clause-rising : goal.add_asked-requires-clause-rising
add_asked-requires-clause-rising g c = subst (λ sums. IsTrue (is_sorted nat_cmp sums)) (sym c.in_ok-sums.ensures) (is_true _ (rows_rise c.args.key.now c.args.from (drop c.args.from c.args.tables.now)))
