use Rattle.std.proofs.Common.{◌-◌, length, sym, arith}
use Rattle.sb_kind.specs.Read.{cell_front}
use Rattle.sb_kind.proofs.ReadLists.{items_step, items_stop}
use Rattle.sb_kind.proofs.reading.lists.read_cells.Goals as goal

pub returns-in_default : goal.returns-in_default
returns-in_default c =
    items_stop (cell_front) (length c.args.bytes.now - c.loop-at.at) c.loop-at.at c.loop-at.cells.items c.loop-at.rest.now _
    (sym c.in_default.ensures) c.loop-at.invariant

pub loop-at-preserved : goal.loop-at-preserved
loop-at-preserved c =
    rw c.in_ok-push.ensures.items
    (items_step (cell_front) (length c.args.bytes.now) c.loop-at.at c.loop-at.cells.items c.in-Some.cell c.loop-at.rest.now c.in-Some.after.now _
    (omega (arith, c.loop-at-test.true)) (sym c.in-Some.ensures) c.loop-at.invariant)
