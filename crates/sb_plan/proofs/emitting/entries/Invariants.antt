use Rattle.std.proofs.Common.{◌≡◌, ◌+◌, ◌++◌, true, drop, map}
use Rattle.std.specs.List.{AllByRecursion, sum_by}
use Rattle.sb_check.specs.Log.{are_in_batches, logged_of}
use Rattle.sb_check.specs.OnlineView.{online_of}
use Rattle.sb_feed.specs.Jobs.{IsRecord, meant}
use Rattle.sb_plan.specs.Entries.{entry_record}
use Rattle.sb_plan.specs.Parts.{IsFed, record_in}
use Rattle.sb_plan.specs.PathSteps.{plan_costs}
use Rattle.sb_plan.specs.Runners.{online_add, online_valid}
use Rattle.sb_plan.specs.Steps.{record_steps}
use Rattle.sb_service.specs.Views.{view_service}
use Rattle.sb_plan.proofs.emitting.entries.Given as goal

abbrev pub invariant-loop-logged : goal.invariant-loop-logged
invariant-loop-logged g l = record {
  value : map entry_record l.entries.items ++ map (record_in (online_of l.o) (map view_service l.services)) (map logged_of (drop l.logged-index l.records))
      ≡ map (record_in (online_of l.o) (map view_service l.services)) (map logged_of l.records);
  fed : AllByRecursion (IsFed (online_of l.o) (map view_service l.services)) (map logged_of (drop l.logged-index l.records)) → AllByRecursion (IsFed (online_of l.o) (map view_service l.services)) (map logged_of l.records);
  records : AllByRecursion (IsRecord (meant online_valid online_add l.stores.monoids)) (map entry_record l.entries.items);
  within : are_in_batches (online_of l.o).batching (map logged_of (drop l.logged-index l.records)) ≡ true;
  steps : l.steps + sum_by (record_steps (plan_costs l.plan) (map view_service l.services)) (map logged_of (drop l.logged-index l.records))
      ≡ l.fn.steps + sum_by (record_steps (plan_costs l.plan) (map view_service l.services)) (map logged_of l.records);
}
