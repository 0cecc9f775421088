use Rattle.std.proofs.Common.{◌≡◌, Some, ap, subst, sym, rules, ◌∙◌}
use Rattle.std.specs.Prelude.{slice_get, slice_set}
use Rattle.std.proofs.lemmas.Cmp.{on_total}
use Rattle.std.proofs.lemmas.Result.{on_ok_weaker}
use Rattle.sb_types.specs.declared.values.Val.{Val}
use Rattle.sb_gather.specs.Maps.{by_key, values_added}
use Rattle.sb_gather.specs.Tops.{IsRanked}
use Rattle.sb_gather.proofs.Search.{ranked_rising, got, holds_at, added_here, added_in_gap}
use Rattle.sb_kind.specs.Elements.{IsOf, plus, val_cmp, entries_in}
use Rattle.sb_kind.specs.KindLaws.{val_total}
use Rattle.sb_kind.specs.KindView.{monoid_of}
use Rattle.sb_kind.specs.declared.agg.Agg.{Agg, Map}
use Rattle.sb_kind.proofs.Undos.{map_added}
use Rattle.sb_kind.proofs.plus.+plus.Goals as goal

pub plus-returns-in-Map-clause-ok : goal.plus-returns-in-Map-clause-ok
plus-returns-in-Map-clause-ok t c =
    on_ok_weaker c.plus_entries-done.result
    (λ sum. map_added c.args.kind.now c.in-Map.part c.get.result.now c.args.a.now c.args.b c.put-in-Map.new.a c.into_entries-list.result.items c.into_entries.result.items c.plus_entries-done.new.list.items c.in-Map.is
    c.get.ensures sum (c.into_entries-list.ensures ∙ ap entries_in c.take.ensures) c.into_entries.ensures (c.put-in-Map.ensures ∙ ap Map c.from_vec.ensures))
    c.plus_entries-done.ensures.ok

pub plus_entry-place_of-requires : goal.plus_entry-place_of-requires
plus_entry-place_of-requires t c =
    subst (IsRanked (by_key val_cmp)) (sym c.as_slice.ensures.value) (ranked_rising (by_key val_cmp) (on_total (λ entry. entry.0) val_total) c.args.list.now.items c.requires.list.rising)

pub plus_entry-plus-requires : goal.plus_entry-plus-requires
plus_entry-plus-requires t c =
    let V = λ (entry : Val × Agg). IsOf (monoid_of c.args.part.now) entry.1 in
    let xs = c.args.list.now.items in
    let there = c.index_mut.result.now in
    let place = rw c.as_slice.ensures.value at c.in-Ok.ensures in
    let here : slice_get xs c.in-Ok.at ≡ Some there = got xs c.in-Ok.at there place.0 c.index_mut.ensures.value in
    (search rules, (holds_at V xs c.in-Ok.at there c.requires.list.valid here, subst (IsOf (monoid_of c.args.part.now)) (sym c.into_part.ensures) c.requires.entry))

pub plus_entry-returns-in-Ok-clause-ok : goal.plus_entry-returns-in-Ok-clause-ok
plus_entry-returns-in-Ok-clause-ok t c =
    let m = monoid_of c.args.part.now in
    let xs = c.args.list.now.items in
    let there = c.index_mut.result.now in
    let place = rw c.as_slice.ensures.value at c.in-Ok.ensures in
    let here : slice_get xs c.in-Ok.at ≡ Some there = got xs c.in-Ok.at there place.0 c.index_mut.ensures.value in
    on_ok_weaker c.plus.result
    (λ sum. ap (λ v. slice_set xs c.in-Ok.at (there.0, v)) (sum ∙ ap (plus m there.1) c.into_part.ensures)
    ∙ sym (added_here (by_key val_cmp) (on_total (λ entry. entry.0) val_total) (values_added (plus m)) c.args.entry xs c.in-Ok.at there c.requires.list.rising here (place.1 there here)))
    c.plus.ensures.ok

pub plus_entry-returns-in_ok-insert-in-Err-clause-ok : goal.plus_entry-returns-in_ok-insert-in-Err-clause-ok
plus_entry-returns-in_ok-insert-in-Err-clause-ok t c =
    let gap = rw c.as_slice.ensures.value at c.in-Err.ensures in
    c.in_ok-insert-in-Err.ensures.items
    ∙ sym (added_in_gap (by_key val_cmp) (on_total (λ entry. entry.0) val_total) (values_added (plus (monoid_of c.args.part.now))) c.args.entry c.args.list.now.items c.in-Err.at gap.1.0 gap.1.1)
