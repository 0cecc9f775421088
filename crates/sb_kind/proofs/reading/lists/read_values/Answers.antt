use Rattle.std.proofs.Common.{◌-◌, length, sym, arith}
use Rattle.sb_types.specs.TyView.{type_of}
use Rattle.sb_kind.specs.Read.{val_front}
use Rattle.sb_kind.proofs.ReadLists.{items_step, items_stop}
use Rattle.sb_kind.proofs.reading.lists.read_values.Goals as goal

pub returns-in_default : goal.returns-in_default
returns-in_default c =
    items_stop (val_front (type_of c.args.of.now)) (length c.args.bytes.now - c.loop-at.at) c.loop-at.at c.loop-at.values.items c.loop-at.rest.now _
    (sym (rw c.in_default.is at c.in_ok-value.ensures)) c.loop-at.invariant

pub loop-at-preserved : goal.loop-at-preserved
loop-at-preserved c =
    rw c.in_ok-push.ensures.items
    (items_step (val_front (type_of c.args.of.now)) (length c.args.bytes.now) c.loop-at.at c.loop-at.values.items c.in-Some.value c.loop-at.rest.now c.in-Some.after.now _
    (omega (arith, c.loop-at-test.true)) (sym (rw c.in-Some.is at c.in_ok-value.ensures)) c.loop-at.invariant)
