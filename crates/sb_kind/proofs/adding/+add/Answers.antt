use Rattle.std.proofs.Common.{◌≡◌, ◌<◌, ◌-◌, ◌++◌, [], ◌∷◌, Some, None, length, drop, rules, arith, refl, ap, sym, subst, ◌∙◌}
use Rattle.std.specs.List.{AllByRecursion}
use Rattle.std.specs.Prelude.{slice_get, slice_set, remove}
use Rattle.std.specs.Vec.Iter.{into_iter_items}
use Rattle.std.proofs.lemmas.Cmp.{on_total}
use Rattle.sb_types.specs.declared.values.Val.{Val}
use Rattle.sb_gather.specs.Entries.{AreEntries, entry_added, entries_added}
use Rattle.sb_gather.specs.EntryLaws.{one_keeps}
use Rattle.sb_gather.specs.Maps.{by_key, values_added, ValueBack}
use Rattle.sb_gather.specs.Merges.{turned, IsNotBefore}
use Rattle.sb_gather.specs.Steps.{StepBack, StepsBack}
use Rattle.sb_gather.specs.Tops.{IsRanked}
use Rattle.sb_gather.proofs.Rings.{all_after_passed, at_first, tied_there, tied_first, first_valid, joined_is_added, join_step, joined_passed, pushed_is_added, push_back_step, pushed_passed, passed_length}
use Rattle.sb_gather.proofs.Search.{ranked_rising, got, added_here, added_in_gap, set_back, get_set, remove_inserted, inserted_longer}
use Rattle.sb_gather.proofs.Undoing.{step_noted}
use Rattle.sb_kind.specs.Elements.{val_cmp, entries_in, IsOf, plus}
use Rattle.sb_kind.specs.KindLaws.{val_total}
use Rattle.sb_kind.specs.KindView.{monoid_of}
use Rattle.sb_kind.specs.Undoing.{TakesBack}
use Rattle.sb_kind.specs.declared.agg.Agg.{Agg, Map}
use Rattle.sb_kind.proofs.Undos.{map_added, map_kept, entry_laws, noted}
use Rattle.sb_kind.proofs.adding.+add.Goals as goal

pub add_entry-place_of-requires : goal.add_entry-place_of-requires
add_entry-place_of-requires t c =
    subst (IsRanked (by_key val_cmp)) (sym c.as_slice.ensures.value) (ranked_rising (by_key val_cmp) (on_total (λ entry. entry.0) val_total) c.args.list.now.items c.requires.list.rising)

pub add_entry-returns-in_ok-undone-in-Ok-clause-ok : goal.add_entry-returns-in_ok-undone-in-Ok-clause-ok
add_entry-returns-in_ok-undone-in-Ok-clause-ok t c =
    let m = monoid_of c.args.part.now in
    let xs = c.args.list.now.items in
    let there = c.index_mut.result.now in
    let place = rw c.as_slice.ensures.value at c.in-Ok.ensures in
    let here : slice_get xs c.in-Ok.at ≡ Some there = got xs c.in-Ok.at there place.0 c.index_mut.ensures.value in
    ap (λ v. slice_set xs c.in-Ok.at (there.0, v)) (c.in_ok-undone-in-Ok.ensures.ok ∙ ap (plus m there.1) c.into_part.ensures)
    ∙ sym (added_here (by_key val_cmp) (on_total (λ entry. entry.0) val_total) (values_added (plus m)) c.args.entry xs c.in-Ok.at there c.requires.list.rising here (place.1 there here))

pub add_entry-returns-in_ok-undone-in-Ok-clause-undone : goal.add_entry-returns-in_ok-undone-in-Ok-clause-undone
add_entry-returns-in_ok-undone-in-Ok-clause-undone t c =
    let xs = c.args.list.now.items in
    let there = c.index_mut.result.now in
    let place = rw c.as_slice.ensures.value at c.in-Ok.ensures in
    let here : slice_get xs c.in-Ok.at ≡ Some there = got xs c.in-Ok.at there place.0 c.index_mut.ensures.value in
    (there, (there.0, c.add.new.a), get_set xs c.in-Ok.at there (there.0, c.add.new.a) here, (refl, c.in_ok-undone-in-Ok.ensures.undone), set_back xs c.in-Ok.at there (there.0, c.add.new.a) here)

pub add_entry-returns-in_ok-insert-in-Err-clause-ok : goal.add_entry-returns-in_ok-insert-in-Err-clause-ok
add_entry-returns-in_ok-insert-in-Err-clause-ok t c =
    let gap = rw c.as_slice.ensures.value at c.in-Err.ensures in
    c.in_ok-insert-in-Err.ensures.items
    ∙ sym (added_in_gap (by_key val_cmp) (on_total (λ entry. entry.0) val_total) (values_added (plus (monoid_of c.args.part.now))) c.args.entry c.args.list.now.items c.in-Err.at gap.1.0 gap.1.1)

pub add_entry-returns-in_ok-insert-in-Err-clause-undone : goal.add_entry-returns-in_ok-insert-in-Err-clause-undone
add_entry-returns-in_ok-insert-in-Err-clause-undone t c =
    let xs = c.args.list.now.items in
    let gap = rw c.as_slice.ensures.value at c.in-Err.ensures in
    let made = sym c.in_ok-insert-in-Err.ensures.items in (
      subst (λ l. c.in-Err.at < length l) made (inserted_longer xs c.in-Err.at c.args.entry gap.0),
      subst (λ l. remove l c.in-Err.at ≡ xs) made (remove_inserted xs c.in-Err.at c.args.entry gap.0),
    )

pub add_next-returns-clause-undone : goal.add_next-returns-clause-undone
add_next-returns-clause-undone t c first h =
    let B = StepBack (ValueBack {K = Val} (TakesBack (monoid_of c.args.part.now))) in
    let noted : c.push.new.self.items ≡ c.args.steps.now.items ++ c.in_ok-step.step ∷ [] = c.in_ok-push.ensures.items ∙ ap (λ l. l ++ c.in_ok-step.step ∷ []) c.in_ok-reserve.ensures.items in
    subst (λ l. StepsBack B l c.add_entry.new.list.items first) (sym noted) (step_noted B c.args.steps.now.items c.in_ok-step.step c.add_entry.new.list.items c.args.list.now.items first c.in_ok-step.ensures.undone h)

pub add_entries-loop-entry-preserved : goal.add_entries-loop-entry-preserved
add_entries-loop-entry-preserved t c =
    let m = monoid_of c.args.part.now in
    let V = λ (entry : Val × Agg). IsOf m entry.1 in
    let rest = into_iter_items c.next.new.self in
    let i = c.loop-entry.invariant in
    let both : AllByRecursion V (c.in-Some.entry ∷ rest) = rw c.in-Some.ensures.steps.0 at i.rest in
    let one = one_keeps (by_key val_cmp) (on_total (λ entry. entry.0) val_total) V (values_added (plus m)) (entry_laws m) c.in-Some.entry c.loop-entry.list.items both.0 i.list in
    record {
      added = ap (λ l. entries_added (by_key val_cmp) (values_added (plus m)) l rest) c.in_default.ensures.ok ∙ (rw c.in-Some.ensures.steps.0 at i.added);
      list = subst (AreEntries (by_key val_cmp) V) (sym c.in_default.ensures.ok) one;
      rest = both.1;
      undone = c.in_default.ensures.undone c.args.list.now.items i.undone;
    }

pub add_entries-returns-in-Err-clause-err : goal.add_entries-returns-in-Err-clause-err
add_entries-returns-in-Err-clause-err t c =
    let B = StepBack (ValueBack {K = Val} (TakesBack (monoid_of c.args.part.now))) in
    let before = c.args.list.now.items in
    let same = c.in-Err.ensures.err in
    let steps = subst (λ s. StepsBack B s c.loop-entry.list.items before) (sym same.1) c.loop-entry.invariant.undone in
    c.take_back.ensures before (subst (λ l. StepsBack B c.add_next.new.steps.items l before) (sym same.0) steps)

pub merge_next-add-requires : goal.merge_next-add-requires
merge_next-add-requires t c =
    let V = λ (entry : Val × Agg). IsOf (monoid_of c.args.part.now) entry.1 in
    let left = c.pass_before-ties.new.left in
    let xs = c.pass_before-ties.new.ring.items in
    let y = c.index_mut.result.now in
    let here : slice_get xs 0 ≡ Some y = got xs 0 y (tied_there (by_key val_cmp) c.args.entry left xs c.if-ties.ensures.next) c.index_mut.ensures.value in
    let tie = tied_first (by_key val_cmp) c.args.entry left xs y c.if-ties.ensures.next here in
    let valid : AllByRecursion V (turned left xs) = subst (AllByRecursion V) (sym c.if-ties.ensures.list) c.requires.list in
    (search rules, (first_valid V left xs y tie.0 valid tie.1, subst (IsOf (monoid_of c.args.part.now)) (sym c.into_part.ensures) c.requires.entry))

pub merge_all-returns-in_err-merge_next-clause-undone : goal.merge_all-returns-in_err-merge_next-clause-undone
merge_all-returns-in_err-merge_next-clause-undone t c first h = c.in_err-merge_next.ensures.undone first (c.loop-entry.invariant.undone first h)

pub merge_next-returns-then-ties-clause-ok : goal.merge_next-returns-then-ties-clause-ok
merge_next-returns-then-ties-clause-ok t c =
    let join = values_added (plus (monoid_of c.args.part.now)) in
    let left = c.pass_before-ties.new.left in
    let xs = c.pass_before-ties.new.ring.items in
    let y = c.index_mut.result.now in
    let here : slice_get xs 0 ≡ Some y = got xs 0 y (tied_there (by_key val_cmp) c.args.entry left xs c.if-ties.ensures.next) c.index_mut.ensures.value in
    let tie = tied_first (by_key val_cmp) c.args.entry left xs y c.if-ties.ensures.next here in
    ap (λ v. turned left (slice_set xs 0 (y.0, v))) (c.in_ok-undone.ensures.ok ∙ ap (plus (monoid_of c.args.part.now) y.1) c.into_part.ensures)
    ∙ (joined_is_added (by_key val_cmp) join c.args.entry y tie.0 left xs c.if-ties.ensures.passed tie.1 tie.2 ∙ ap (entry_added (by_key val_cmp) join c.args.entry) c.if-ties.ensures.list)

pub merge_next-returns-then-ties-clause-undone : goal.merge_next-returns-then-ties-clause-undone
merge_next-returns-then-ties-clause-undone t c first h =
    let T = ValueBack {K = Val} (TakesBack (monoid_of c.args.part.now)) in
    let left = c.pass_before-ties.new.left in
    let xs = c.pass_before-ties.new.ring.items in
    let y = c.index_mut.result.now in
    let z : Val × Agg = (y.0, c.add.new.a) in
    let at = c.len.result - left in
    let u = c.in_ok-undone.undone in
    let here : slice_get xs 0 ≡ Some y = got xs 0 y (tied_there (by_key val_cmp) c.args.entry left xs c.if-ties.ensures.next) c.index_mut.ensures.value in
    let tie = tied_first (by_key val_cmp) c.args.entry left xs y c.if-ties.ensures.next here in
    let place : at ≡ length (drop left xs) = omega (arith, c.len.ensures, passed_length left xs c.if-ties.ensures.within) in
    let back : T u z y = (refl, c.in_ok-undone.ensures.undone) in
    let step = join_step T u y z tie.0 left xs at tie.1 back place in
    noted T c.args.steps.now.items c.push_reserved.new.self.items (at, Some u) (turned left (slice_set xs 0 z)) (turned left xs) first (c.push_reserved.ensures.items ∙ ap (λ l. l ++ (at, Some u) ∷ []) c.in_ok-reserve.ensures.items) step
    (subst (λ l. StepsBack (StepBack T) c.args.steps.now.items l first) (sym c.if-ties.ensures.list) h)

pub merge_next-returns-then-ties-clause-passed : goal.merge_next-returns-then-ties-clause-passed
merge_next-returns-then-ties-clause-passed t c =
    let left = c.pass_before-ties.new.left in
    let xs = c.pass_before-ties.new.ring.items in
    let y = c.index_mut.result.now in
    let here : slice_get xs 0 ≡ Some y = got xs 0 y (tied_there (by_key val_cmp) c.args.entry left xs c.if-ties.ensures.next) c.index_mut.ensures.value in
    let tie = tied_first (by_key val_cmp) c.args.entry left xs y c.if-ties.ensures.next here in
    joined_passed (by_key val_cmp) (on_total (λ entry. entry.0) val_total) c.args.entry y (y.0, c.add.new.a) tie.0 left xs tie.1 c.if-ties.ensures.passed

pub merge_next-returns-clause-ok : goal.merge_next-returns-clause-ok
merge_next-returns-clause-ok t c =
    let join = values_added (plus (monoid_of c.args.part.now)) in
    let left = c.pass_before-ties.new.left in
    let xs = c.pass_before-ties.new.ring.items in
    ap (turned left) c.in_ok-push_back.ensures.items
    ∙ (pushed_is_added (by_key val_cmp) join c.args.entry left xs c.if-ties.ensures.within c.if-ties.ensures.passed c.if-ties.ensures.next ∙ ap (entry_added (by_key val_cmp) join c.args.entry) c.if-ties.ensures.list)

pub merge_next-returns-clause-undone : goal.merge_next-returns-clause-undone
merge_next-returns-clause-undone t c first h =
    let T = ValueBack {K = Val} (TakesBack (monoid_of c.args.part.now)) in
    let left = c.pass_before-ties.new.left in
    let xs = c.pass_before-ties.new.ring.items in
    let at = c.len.result - left in
    let place : at ≡ length (drop left xs) = omega (arith, c.len.ensures, passed_length left xs c.if-ties.ensures.within) in
    let step = subst (λ l. StepBack T (at, None) (turned left l) (turned left xs)) (sym c.in_ok-push_back.ensures.items) (push_back_step T left xs c.args.entry at c.if-ties.ensures.within place) in
    noted T c.args.steps.now.items c.push_reserved-2.new.self.items (at, None) (turned left c.push_back.new.self.items) (turned left xs) first (c.push_reserved-2.ensures.items ∙ ap (λ l. l ++ (at, None) ∷ []) c.in_ok-reserve.ensures.items) step
    (subst (λ l. StepsBack (StepBack T) c.args.steps.now.items l first) (sym c.if-ties.ensures.list) h)

pub merge_next-returns-clause-passed : goal.merge_next-returns-clause-passed
merge_next-returns-clause-passed t c =
    let left = c.pass_before-ties.new.left in
    subst (λ l. IsNotBefore (by_key val_cmp) c.args.entry (drop left l)) (sym c.in_ok-push_back.ensures.items)
    (pushed_passed (by_key val_cmp) (on_total (λ entry. entry.0) val_total) c.args.entry left c.pass_before-ties.new.ring.items c.if-ties.ensures.within c.if-ties.ensures.passed)

pub merge_all-loop-entry-preserved : goal.merge_all-loop-entry-preserved
merge_all-loop-entry-preserved t c =
    let m = monoid_of c.args.part.now in
    let R = by_key {E = Agg} val_cmp in
    let V = λ (entry : Val × Agg). IsOf m entry.1 in
    let join = values_added (plus m) in
    let o = on_total (λ (entry : Val × Agg). entry.0) val_total in
    let rest = into_iter_items c.next.new.self in
    let i = c.loop-entry.invariant in
    let step = c.in_ok-merge_next.ensures in
    let more : AreEntries R V (c.in-Some.entry ∷ rest) = rw c.in-Some.ensures.steps.0 at i.rest in
    let one = one_keeps R o V join (entry_laws m) c.in-Some.entry (turned c.loop-entry.left c.loop-entry.ring.items) more.valid.0 i.list in
    record {
      added = ap (λ l. entries_added R join l rest) step.ok ∙ (rw c.in-Some.ensures.steps.0 at i.added);
      list = subst (AreEntries R V) (sym step.ok) one;
      rest = record { rising = more.rising.1; valid = more.valid.1 };
      within = step.within;
      passed = all_after_passed R o c.in-Some.entry rest (drop c.merge_next.new.left c.merge_next.new.ring.items) more.rising.0 step.passed;
      undone = λ first h. step.undone first (i.undone first h);
    }

pub merge_entries-returns-in-Err-clause-err : goal.merge_entries-returns-in-Err-clause-err
merge_entries-returns-in-Err-clause-err t c =
    let B = StepBack (ValueBack {K = Val} (TakesBack (monoid_of c.args.part.now))) in
    let list = c.args.list.now.items in
    let ring = c.from_vec-ring.result.items in
    let whole : c.len-left.result ≡ length ring = search rules in
    let same : ring ≡ list = search rules in
    let start = at_first B c.len-left.result ring list c.in_ok-steps.steps.items whole same c.in_ok-steps.ensures.items in
    let end : turned c.merge_all-done.new.left c.merge_all-done.new.ring.items ≡ c.into_vec.result.items = sym (c.into_vec.ensures.items ∙ c.rotate_left.ensures.items) in
    c.take_back.ensures list (subst (λ l. StepsBack B c.merge_all-done.new.steps.items l list) end (c.merge_all-done.ensures.undone list start))

pub merge_entries-returns-clause-undone : goal.merge_entries-returns-clause-undone
merge_entries-returns-clause-undone t c =
    let B = StepBack (ValueBack {K = Val} (TakesBack (monoid_of c.args.part.now))) in
    let list = c.args.list.now.items in
    let ring = c.from_vec-ring.result.items in
    let whole : c.len-left.result ≡ length ring = search rules in
    let same : ring ≡ list = search rules in
    let start = at_first B c.len-left.result ring list c.in_ok-steps.steps.items whole same c.in_ok-steps.ensures.items in
    let end : turned c.merge_all-done.new.left c.merge_all-done.new.ring.items ≡ c.into_vec.result.items = sym (c.into_vec.ensures.items ∙ c.rotate_left.ensures.items) in
    subst (λ l. StepsBack B c.merge_all-done.new.steps.items l list) end (c.merge_all-done.ensures.undone list start)

pub add-returns-in_ok-done-in-Map-clause-ok : goal.add-returns-in_ok-done-in-Map-clause-ok
add-returns-in_ok-done-in-Map-clause-ok t c =
    map_added c.args.kind.now c.in-Map.part c.get.result.now c.args.a.now c.args.b c.put.new.a c.into_entries-list.result.items c.into_entries.result.items c.add_all-done.new.list.items
    c.in-Map.is c.get.ensures c.in_ok-done-in-Map.ensures.ok (c.into_entries-list.ensures ∙ ap entries_in c.take.ensures) c.into_entries.ensures (c.put.ensures ∙ ap Map c.from_vec.ensures)

pub add-returns-in_ok-done-in-Map-clause-undone : goal.add-returns-in_ok-done-in-Map-clause-undone
add-returns-in_ok-done-in-Map-clause-undone t c =
    map_kept c.args.kind.now c.in-Map.part c.get.result.now c.args.a.now c.put.new.a c.from_vec-in-Map.result c.in_ok-done-in-Map.field-0.items c.into_entries-list.result.items c.add_all-done.new.list.items
    c.in-Map.is c.get.ensures c.requires.left (c.put.ensures ∙ ap Map c.from_vec.ensures) (c.into_entries-list.ensures ∙ ap entries_in c.take.ensures) c.from_vec-in-Map.ensures c.in_ok-done-in-Map.ensures.undone
