use Rattle.std.proofs.Common.{◌≤◌, ◌++◌, length, subst, sym, ap, refl, ◌∙◌, arith}
use Rattle.sb_offline.specs.Offlines.{published_to}
use Rattle.sb_offline.specs.Expiries.{rows_below, IsRaised}
use Rattle.sb_offline.proofs.Settled.{raised_none, raised_is}
use Rattle.sb_offline.proofs.offline.Offline.raise.Goals as goal

pub returns-then-floor-from-clause-ok : goal.returns-then-floor-from-clause-ok
returns-then-floor-from-clause-ok g c =
    let h = c.self.inside in
    subst (λ held. IsRaised c.args.floor held held) c.self.view_is
    (raised_none c.args.floor (record { base = h.base; waiting = h.waiting.items; rows = h.rows.items; floor = h.floor }) c.self.invariant (omega (arith, c.if-floor-from.true)))

pub move_rows-requires-clause-room : goal.move_rows-requires-clause-room
move_rows-requires-clause-room g c =
    let count = c.in_ok-count.ensures ∙ ap (λ l. length (rows_below c.args.floor l)) c.as_slice.ensures.value in
    omega (arith, count, c.in_ok-reserve.ensures.ok)

pub invariant_of-self-2 : goal.invariant_of-self-2
invariant_of-self-2 g c =
    let h = c.self.inside in
    let within : c.args.floor ≤ length h.rows.items = subst (λ held. c.args.floor ≤ published_to held) (sym c.self.view_is) c.requires in
    let is = raised_is c.args.floor (record { base = h.base; waiting = h.waiting.items; rows = h.rows.items; floor = h.floor }) c.move_rows.new.lists.items c.self.invariant c.move_rows.ensures.lists within in
    record { floor = is.0; below = is.1; apart = c.self.invariant.apart }

pub returns-clause-ok : goal.returns-clause-ok
returns-clause-ok g c =
    let h = c.self.inside in
    subst (λ held. IsRaised c.args.floor held (record { base = h.base; waiting = c.move_rows.new.out.items; rows = c.move_rows.new.lists.items; floor = c.args.floor })) c.self.view_is
    (record {
      base = refl;
      waiting = c.move_rows.ensures.out ∙ ap (λ w. w ++ rows_below c.args.floor h.rows.items) c.reserve.ensures.items;
      rows = c.move_rows.ensures.lists;
      floor = omega (arith, c.if-floor-from.false);
      rising = c.move_rows.ensures.rising;
    })
