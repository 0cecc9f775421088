use Rattle.std.proofs.Common.{◌≡◌, ◌+◌, ◌<◌, ◌≤◌, ℕ, map, length, take}
use Rattle.std.specs.List.{AllByRecursion, sum_by}
use Rattle.sb_check.specs.Log.{logged_of}
use Rattle.sb_check.specs.OnlineView.{online_of}
use Rattle.sb_feed.specs.Jobs.{AreValid, meant}
use Rattle.sb_plan.specs.Given.{fed_at, planned}
use Rattle.sb_plan.specs.Parts.{parts_below}
use Rattle.sb_plan.specs.PathSteps.{plan_costs}
use Rattle.sb_plan.specs.Runners.{online_add, online_valid, plus_at, valid_at}
use Rattle.sb_service.specs.Views.{view_service}
use Rattle.sb_types.specs.ValView.{value_of}
use Rattle.sb_plan.proofs.emitting.add_stores.Given as goal

abbrev pub invariant-loop-store : goal.invariant-loop-store
invariant-loop-store g l = record {
  within : l.store ≤ length l.stores.monoids;
  value : l.parts.items ≡ parts_below (plus_at (online_of l.o)) (λ store. fed_at (planned (online_of l.o)) (map view_service l.services) store (logged_of l.logged)) l.store;
  fed : (store : ℕ) → store < l.store → AllByRecursion (λ x. valid_at (online_of l.o) store x.1) (fed_at (planned (online_of l.o)) (map view_service l.services) store (logged_of l.logged));
  valid : AreValid (meant online_valid online_add l.stores.monoids) l.parts.items;
  steps : l.steps ≡ l.fn.steps + sum_by (λ store. store (logged_of l.logged) (map view_service l.services) (map (λ b. map value_of b.items) l.lets)) (take l.store (plan_costs l.plan).stores);
}
