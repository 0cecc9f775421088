use Rattle.std.proofs.Common.{◌≡◌, ◌<◌, Some, length, ap, sym, subst, ◌∙◌}
use Rattle.std.specs.Prelude.{slice_get, slice_set, remove}
use Rattle.sb_gather.specs.Tops.{IsRanked}
use Rattle.sb_gather.proofs.Search.{ranked_rising, got, added_here, added_in_gap, set_back, get_set, remove_inserted, inserted_longer}
use Rattle.sb_gather.proofs.entries.add_entry.Goals as goal

pub place_of-requires : goal.place_of-requires
place_of-requires g c =
    let d = c.args.d.now in
    subst (IsRanked (g.D.Ordered.order d)) (sym c.as_slice.ensures.value) (ranked_rising (g.D.Ordered.order d) (g.met.D.Ordered.total d) c.args.list.now.items c.requires.list.rising)

pub returns-in_ok-undone-in-Ok-clause-ok : goal.returns-in_ok-undone-in-Ok-clause-ok
returns-in_ok-undone-in-Ok-clause-ok g c =
    let d = c.args.d.now in
    let xs = c.args.list.now.items in
    let place = rw c.as_slice.ensures.value at c.in-Ok.ensures in
    let here : slice_get xs c.in-Ok.at ≡ Some c.index_mut.result.now = got xs c.in-Ok.at c.index_mut.result.now place.0 c.index_mut.ensures.value in
    ap (slice_set xs c.in-Ok.at) c.in_ok-undone-in-Ok.ensures.ok
    ∙ sym (added_here (g.D.Ordered.order d) (g.met.D.Ordered.total d) (g.D.Joining.joined d) c.args.entry xs c.in-Ok.at c.index_mut.result.now c.requires.list.rising here (place.1 c.index_mut.result.now here))

pub returns-in_ok-undone-in-Ok-clause-undone : goal.returns-in_ok-undone-in-Ok-clause-undone
returns-in_ok-undone-in-Ok-clause-undone g c =
    let xs = c.args.list.now.items in
    let place = rw c.as_slice.ensures.value at c.in-Ok.ensures in
    let here : slice_get xs c.in-Ok.at ≡ Some c.index_mut.result.now = got xs c.in-Ok.at c.index_mut.result.now place.0 c.index_mut.ensures.value in
    (c.index_mut.result.now, c.join.new.a, get_set xs c.in-Ok.at c.index_mut.result.now c.join.new.a here, c.in_ok-undone-in-Ok.ensures.undone, set_back xs c.in-Ok.at c.index_mut.result.now c.join.new.a here)

pub returns-in_ok-insert-in-Err-clause-ok : goal.returns-in_ok-insert-in-Err-clause-ok
returns-in_ok-insert-in-Err-clause-ok g c =
    let d = c.args.d.now in
    let gap = rw c.as_slice.ensures.value at c.in-Err.ensures in
    c.in_ok-insert-in-Err.ensures.items
    ∙ sym (added_in_gap (g.D.Ordered.order d) (g.met.D.Ordered.total d) (g.D.Joining.joined d) c.args.entry c.args.list.now.items c.in-Err.at gap.1.0 gap.1.1)

pub returns-in_ok-insert-in-Err-clause-undone : goal.returns-in_ok-insert-in-Err-clause-undone
returns-in_ok-insert-in-Err-clause-undone g c =
    let xs = c.args.list.now.items in
    let gap = rw c.as_slice.ensures.value at c.in-Err.ensures in
    let made = sym c.in_ok-insert-in-Err.ensures.items in (
      subst (λ l. c.in-Err.at < length l) made (inserted_longer xs c.in-Err.at c.args.entry gap.0),
      subst (λ l. remove l c.in-Err.at ≡ xs) made (remove_inserted xs c.in-Err.at c.args.entry gap.0),
    )
