use Rattle.std.proofs.Common.{◌-◌, length, sym, arith}
use Rattle.sb_kind.specs.Read.{item_front}
use Rattle.sb_kind.proofs.ReadLists.{items_step, items_stop}
use Rattle.sb_kind.proofs.reading.lists.read_items.Goals as goal

pub returns-in_default : goal.returns-in_default
returns-in_default c =
    items_stop (item_front) (length c.args.bytes.now - c.loop-at.at) c.loop-at.at c.loop-at.items.items c.loop-at.rest.now _
    (sym (rw c.in_default.is at c.in_ok-item.ensures)) c.loop-at.invariant

pub loop-at-preserved : goal.loop-at-preserved
loop-at-preserved c =
    rw c.in_ok-push.ensures.items
    (items_step (item_front) (length c.args.bytes.now) c.loop-at.at c.loop-at.items.items c.in-Some.item c.loop-at.rest.now c.in-Some.after.now _
    (omega (arith, c.loop-at-test.true)) (sym (rw c.in-Some.is at c.in_ok-item.ensures)) c.loop-at.invariant)
