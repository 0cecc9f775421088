use Rattle.std.proofs.Common.{◌≡◌, None, sym, arith}
use Rattle.sb_types.specs.TyView.{type_of, view_fields}
use Rattle.sb_types.specs.ValView.{value_of}
use Rattle.sb_types.specs.Read.{next_front, value_front, fields_front}
use Rattle.sb_types.proofs.ReadAgain.{front}
use Rattle.sb_types.proofs.ReadSteps.{further_step, further_stop, fields_end}
use Rattle.sb_types.proofs.ReadSteps.{some_front}
use Rattle.sb_types.proofs.TyViews.{type_of-List, type_of-Rec}
use Rattle.sb_types.proofs.reading.+read.Goals as goal

pub read_fields-returns : goal.read_fields-returns
read_fields-returns t c =
    fields_end c.loop-at.at c.args.fields.now c.loop-at.values.items c.loop-at.rest.now (fields_front (view_fields c.args.fields.now) c.args.bytes.now)
    (omega (arith, c.loop-at-test.false)) c.loop-at.invariant

pub read_parts-returns-in_default-2 : goal.read_parts-returns-in_default-2
read_parts-returns-in_default-2 t c =
    let next : next_front (value_front (type_of c.args.of.now)) c.loop.rest.now ≡ None = sym (rw c.in_default-2.is at c.in_ok-value.ensures) in
    further_stop (value_front (type_of c.args.of.now)) _ c.loop.values.items c.loop.rest.now _ next c.loop.invariant

pub read_parts-loop-preserved : goal.read_parts-loop-preserved
read_parts-loop-preserved t c =
    let next : next_front (value_front (type_of c.args.of.now)) c.loop.rest.now ≡ front (value_of c.in-Some-2.value) c.in-Some-2.after.now = sym (rw c.in-Some-2.is at c.in_ok-value.ensures) in
    rw c.in_ok-push-2.ensures.items
    (further_step (value_front (type_of c.args.of.now)) _ c.loop.counter c.loop.values.items c.in-Some-2.value c.loop.rest.now c.in-Some-2.after.now _
    (omega (arith, c.loop-test.true)) next c.loop.invariant)

pub value_at_front-returns-in_ok-new-in-Opt : goal.value_at_front-returns-in_ok-new-in-Opt
value_at_front-returns-in_ok-new-in-Opt t c =
    let read : front (value_of c.in-Some-4.inside) c.in-Some-4.bytes.now ≡ value_front (type_of c.in-Opt.of) c.in-Some-expect-4.bytes.now =
    rw (c.in-Some-4.is, c.get-in-Opt.ensures) at c.in_ok-inside-in-Opt.ensures in
    rw (c.in-Opt.is, c.in_ok-new-in-Opt.ensures)
    (some_front c.in-Opt.of c.args.bytes.now c.in-Some-expect-4.bytes.now c.in-Some-4.bytes.now c.in-Some-4.inside
    c.in_default-expect-3.ensures c.in-Some-expect-4.ensures read)

pub value_at_front-returns-in-List : goal.value_at_front-returns-in-List
value_at_front-returns-in-List t c = rw (c.in-List.is, type_of-List c.in-List.of c.in-List.most, sym c.get-in-List.ensures) c.read_list.ensures

pub value_at_front-returns-in-Rec : goal.value_at_front-returns-in-Rec
value_at_front-returns-in-Rec t c = rw (c.in-Rec.is, type_of-Rec c.in-Rec.fields, sym c.as_slice.ensures) c.read_record.ensures
