use Rattle.std.proofs.Common.{◌≡◌}
use Rattle.std.specs.Prelude.{IsTrue, slice_get}
use Rattle.std.specs.FinMap.{is_sorted}
use Rattle.std.specs.List.{AllByRecursion}
use Rattle.std.specs.Vec.Iter.{into_iter_items}
use Rattle.sb_feed.specs.Jobs.{AreValid, add_by, meant, valid_by}
use Rattle.sb_feed.specs.Keys.{key_order}
use Rattle.sb_plan.specs.Parts.{with_fed}
use Rattle.sb_plan.specs.Runners.{online_add, online_valid}
use Rattle.sb_plan.proofs.emitting.add_fed.Given as goal

abbrev pub invariant-loop-text : goal.invariant-loop-text
invariant-loop-text l = record {
  rest : with_fed (add_by online_add (slice_get l.stores.monoids l.store)) l.store (into_iter_items l.text-iterator) l.parts.items
      ≡ with_fed (add_by online_add (slice_get l.stores.monoids l.store)) l.store l.fn.fed.items l.fn.parts.items;
  values : AllByRecursion (λ x. valid_by online_valid (slice_get l.stores.monoids l.store) x.1) (into_iter_items l.text-iterator);
  rising : IsTrue (is_sorted key_order l.parts.items);
  valid : AreValid (meant online_valid online_add l.stores.monoids) l.parts.items;
}
