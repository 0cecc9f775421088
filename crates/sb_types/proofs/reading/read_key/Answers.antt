use Rattle.std.proofs.Common.{◌≡◌, Some}
use Rattle.sb_types.specs.TyView.{type_of}
use Rattle.sb_types.specs.ValView.{value_of}
use Rattle.sb_types.proofs.Keys.{key_is_value, key-spelled, key-every}
use Rattle.sb_types.proofs.ReadSpelled.{IsRead}
use Rattle.sb_types.proofs.reading.read_key.Goals as goal

pub returns-in-Some-clause-spelled : goal.returns-in-Some-clause-spelled
returns-in-Some-clause-spelled c =
    let t = type_of c.args.ty.now in
    let is : IsRead t c.args.bytes.now (value_of c.in-Some.value) = rw c.in-Some.is at c.in_ok-value.ensures.spelled in
    rw c.key_in.ensures (key-spelled t c.args.bytes.now c.in-Some.value is)

pub returns-in-Some-clause-every : goal.returns-in-Some-clause-every
returns-in-Some-clause-every c v key text =
    let t = type_of c.args.ty.now in
    let is : Some (value_of c.in-Some.value) ≡ Some v = rw c.in-Some.is at (c.in_ok-value.ensures.every v (key_is_value t v key) text) in
    rw c.key_in.ensures (key-every t c.in-Some.value v key is)

pub returns-in-None-clause-every : goal.returns-in-None-clause-every
returns-in-None-clause-every c v key text = rw c.in-None.is at (c.in_ok-value.ensures.every v (key_is_value (type_of c.args.ty.now) v key) text)
