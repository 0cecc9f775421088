use Rattle.std.proofs.Common.{◌≡◌, ◌<◌, ◌≤◌, ◌++◌, length, take, sym, ap, subst, ◌∙◌, arith}
use Rattle.std.specs.Prelude.{remove, option_to_list}
use Rattle.sb_gather.proofs.Search.{inserted_longer}
use Rattle.sb_gather.proofs.Cut.{cut_away, cut_inserted, at_within, back_again}
use Rattle.sb_gather.proofs.top.put_one.Goals as goal

pub returns-then-at-places-clause-ok : goal.returns-then-at-places-clause-ok
returns-then-at-places-clause-ok g c =
    let xs = c.args.list.now.items in
    let place = rw c.as_slice.ensures.value at c.place_among-at.ensures.placed in
    let within : c.place_among-at.result ≤ length xs = rw c.as_slice.ensures.value at c.place_among-at.ensures.within in
    let past : c.args.top.now ≤ c.place_among-at.result = omega (arith, c.if-at-places.true, c.places.ensures) in
    cut_away c.args.top.now c.place_among-at.result c.args.entry xs past within c.requires.few ∙ sym (ap (take c.args.top.now) place)

pub returns-clause-ok : goal.returns-clause-ok
returns-clause-ok g c =
    let xs = c.args.list.now.items in
    let place = rw c.as_slice.ensures.value at c.place_among-at.ensures.placed in
    let within : c.place_among-at.result ≤ length xs = rw c.as_slice.ensures.value at c.place_among-at.ensures.within in
    let early : c.place_among-at.result < c.args.top.now = omega (arith, c.if-at-places.false, c.places.ensures) in
    let out = rw c.places-2.ensures at c.in_ok-out.ensures.out in
    let inside = at_within c.args.top.now c.place_among-at.result c.room_for_one.new.list.items xs c.in_ok-out.out c.in_ok-out.ensures.items out early within in
    c.in_ok-insert.ensures.items ∙ (cut_inserted c.args.top.now c.place_among-at.result c.args.entry c.room_for_one.new.list.items xs c.in_ok-out.out c.in_ok-out.ensures.items out inside ∙ sym (ap (take c.args.top.now) place))

pub returns-clause-undone : goal.returns-clause-undone
returns-clause-undone g c =
    let xs = c.args.list.now.items in
    let at = c.place_among-at.result in
    let within : at ≤ length xs = rw c.as_slice.ensures.value at c.place_among-at.ensures.within in
    let early : at < c.args.top.now = omega (arith, c.if-at-places.false, c.places.ensures) in
    let out = rw c.places-2.ensures at c.in_ok-out.ensures.out in
    let inside = at_within c.args.top.now at c.room_for_one.new.list.items xs c.in_ok-out.out c.in_ok-out.ensures.items out early within in
    let made = sym c.in_ok-insert.ensures.items in (
      subst (λ l. at < length l) made (inserted_longer c.room_for_one.new.list.items at c.args.entry inside),
      subst (λ l. remove l at ++ option_to_list c.in_ok-out.out ≡ xs) made (back_again at c.args.entry c.room_for_one.new.list.items xs c.in_ok-out.out c.in_ok-out.ensures.items inside),
    )
