use Rattle.std.proofs.Common.{ap, sym, subst, ◌∙◌}
use Rattle.std.specs.Prelude.{IsTrue, slice_get}
use Rattle.std.specs.FinMap.{find, is_sorted}
use Rattle.std.specs.List.{AllByRecursion}
use Rattle.std.specs.Vec.Iter.{into_iter_items}
use Rattle.sb_laws.specs.Sums.{IsValid}
use Rattle.sb_laws.specs.Tables.{add_to}
use Rattle.sb_laws.proofs.Tables.{is_true, truly, sorted_add_to}
use Rattle.sb_feed.specs.Jobs.{AreValid, add_by, meant, valid_by}
use Rattle.sb_feed.specs.Keys.{key_order}
use Rattle.sb_feed.proofs.KeyTies.{key_order_total}
use Rattle.sb_kind.specs.KindLaws.{keeps}
use Rattle.sb_plan.specs.Parts.{key_at, with_fed}
use Rattle.sb_plan.specs.Runners.{online_add, online_monoid, online_valid}
use Rattle.sb_plan.proofs.Kept.{parts_valid}
use Rattle.sb_plan.proofs.Placing.{found_valid}
use Rattle.sb_plan.proofs.emitting.add_fed.Goals as goal

pub add_part-requires-clause-there : goal.add_part-requires-clause-there
add_part-requires-clause-there c =
    subst (λ o. IsValid (valid_by online_valid o) (find key_order (key_at c.args.store c.in-Some.text) c.loop-text.parts.items)) c.monoid-m.ensures
    (found_valid (meant online_valid online_add c.args.stores.now.monoids) (key_at c.args.store c.in-Some.text) c.loop-text.parts.items c.loop-text.invariant.valid)

pub loop-text-preserved : goal.loop-text-preserved
loop-text-preserved c =
    let monoids = c.args.stores.now.monoids in
    let m = c.monoid-m.result.now in
    let key = key_at c.args.store c.in-Some.text in
    let value = c.in-Some.value in
    let before = c.loop-text.parts.items in
    let there = c.monoid-m.ensures in
    let values = subst (AllByRecursion (λ x. valid_by online_valid (slice_get monoids c.args.store) x.1)) c.in-Some.ensures.steps.0 c.loop-text.invariant.values in
    let mine = subst (λ o. valid_by online_valid o value) there values.0 in
    let is = c.in_ok-add_part.ensures in
    record {
      rest = ap (with_fed (add_by online_add (slice_get monoids c.args.store)) c.args.store (into_iter_items c.next.new.self))
          (is ∙ ap (λ o. add_to key_order (add_by online_add o) key value before) (sym there))
          ∙ (ap (λ fed. with_fed (add_by online_add (slice_get monoids c.args.store)) c.args.store fed before) (sym c.in-Some.ensures.steps.0) ∙ c.loop-text.invariant.rest);
      values = values.1;
      rising = subst (λ parts. IsTrue (is_sorted key_order parts)) (sym is) (is_true _ (sorted_add_to key_order key_order_total (online_add m) key value before (truly _ c.loop-text.invariant.rising)));
      valid = subst (AreValid (meant online_valid online_add monoids)) (sym is)
          (parts_valid online_valid online_add monoids c.args.store m there c.requires.store (keeps (online_monoid m)) c.in-Some.text value before mine c.loop-text.invariant.valid);
    }
