use Rattle.std.proofs.Common.{◌∙◌, ap, sym, subst}
use Rattle.std.specs.Prelude.{slice_set}
use Rattle.std.proofs.lemmas.Result.{on_ok_weaker}
use Rattle.sb_feed.specs.Keys.{key_order}
use Rattle.sb_gather.specs.Maps.{by_key}
use Rattle.sb_gather.specs.Tops.{IsRanked}
use Rattle.sb_plan.proofs.Placing.{ranked, valid_here, added_there, added_between}
use Rattle.sb_plan.proofs.parts.add_part.Goals as goal

pub place_of-requires : goal.place_of-requires
place_of-requires g c = subst (IsRanked (by_key key_order)) (sym c.as_slice.ensures.value) (ranked c.args.parts.now.items c.requires.rising)

pub plus-requires-clause-left : goal.plus-requires-clause-left
plus-requires-clause-left g c =
    valid_here (g.M.Semigroup.valid c.args.m.now) c.args.part c.args.parts.now.items c.in-Ok.at c.index_mut.result.now c.requires.rising c.requires.there
    (rw c.as_slice.ensures.value at c.in-Ok.ensures) c.index_mut.ensures.value

pub returns-in-Ok : goal.returns-in-Ok
returns-in-Ok g c =
    let add = g.M.Semigroup.add c.args.m.now in
    let row = c.index_mut.result.now in
    on_ok_weaker c.plus.result (λ e.
    ap (λ sum. slice_set c.args.parts.now.items c.in-Ok.at (row.0, sum)) e
    ∙ added_there add c.args.part c.args.parts.now.items c.in-Ok.at row c.requires.rising (rw c.as_slice.ensures.value at c.in-Ok.ensures) c.index_mut.ensures.value) c.plus.ensures.ok

pub returns-in_ok-insert-in-Err : goal.returns-in_ok-insert-in-Err
returns-in_ok-insert-in-Err g c =
    c.in_ok-insert-in-Err.ensures.items
    ∙ added_between (g.M.Semigroup.add c.args.m.now) c.args.part c.args.parts.now.items c.in-Err.at (rw c.as_slice.ensures.value at c.in-Err.ensures)
