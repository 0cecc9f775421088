use Rattle.std.proofs.Common.{◌≡◌, ◌+◌, ◌≤◌, ◌++◌, [], List, length, map, take}
use Rattle.std.specs.List.{sum_by}
use Rattle.sb_check.specs.CheckedView.{checked_of}
use Rattle.sb_check.specs.Log.{logged_of}
use Rattle.sb_feed.specs.declared.key.KeyBytes.{KeyBytes}
use Rattle.sb_feed.specs.Jobs.{AreValid}
use Rattle.sb_job.specs.Sums.{HasKeySums}
use Rattle.sb_kind.specs.declared.agg.Agg.{Agg}
use Rattle.sb_plan.specs.Given.{planned}
use Rattle.sb_plan.specs.PathSteps.{plan_costs}
use Rattle.sb_service.specs.Views.{view_service}
use Rattle.sb_types.specs.ValView.{value_of}
use Rattle.sb_run.specs.Batching.{stores, values_below}
use Rattle.sb_run.proofs.summing.add_record.Given as goal

abbrev pub invariant-loop-store : goal.invariant-loop-store
invariant-loop-store g l = record {
  none : l.fed.items ≡ [];
  within : l.store ≤ length l.runner.monoids;
  valid : AreValid (stores l.runner) l.sums;
  fed : AreValid (stores l.runner) (values_below (planned (checked_of l.c)) (map view_service l.services) (logged_of l.logged) l.store);
  sums : (values : List (KeyBytes × Agg)) → HasKeySums (stores l.runner) values l.fn.sums
      → HasKeySums (stores l.runner) (values ++ values_below (planned (checked_of l.c)) (map view_service l.services) (logged_of l.logged) l.store) l.sums;
  counted : l.steps ≡ l.initial.steps + sum_by (λ store. store (logged_of l.logged) (map view_service l.services) (map (λ b. map value_of b.items) l.lets.items)) (take l.store (plan_costs l.plan).stores);
}
