use Rattle.std.proofs.Common.{◌<◌, arith, sym, ap, ◌∙◌}
use Rattle.std.specs.Prelude.{length, slice_set}
use Rattle.sb_sketch.proofs.Raising.{raised_beyond, raised_before, raised_now, raised_back, stands}
use Rattle.sb_sketch.proofs.registers.raise_one.Goals as goal

pub returns-then-place-len-clause-raised : goal.returns-then-place-len-clause-raised
returns-then-place-len-clause-raised c =
    raised_beyond c.args.registers.now.items c.args.at c.args.register (omega (arith, c.if-place-len.true, c.from-place.ensures, c.len.ensures))

pub returns-then-register-earlier-clause-raised : goal.returns-then-register-earlier-clause-raised
returns-then-register-earlier-clause-raised c =
    let within : c.args.at < length c.args.registers.now.items = omega (arith, c.if-place-len.false, c.from-place.ensures, c.len.ensures) in
    let there = stands c.args.registers.now.items c.args.at c.from-place.result c.index-earlier.result.now c.from-place.ensures within c.index-earlier.ensures in
    raised_before c.args.registers.now.items c.args.at c.args.register (omega (arith, c.if-register-earlier.true, there))

pub returns-clause-raised : goal.returns-clause-raised
returns-clause-raised c =
    let within : c.args.at < length c.args.registers.now.items = omega (arith, c.if-place-len.false, c.from-place.ensures, c.len.ensures) in
    let there = stands c.args.registers.now.items c.args.at c.from-place.result c.index-earlier.result.now c.from-place.ensures within c.index-earlier.ensures in
    ap (λ at. slice_set c.args.registers.now.items at c.args.register) c.from-place.ensures
    ∙ raised_now c.args.registers.now.items c.args.at c.args.register (omega (arith, c.if-register-earlier.false, there))

pub returns-clause-undo : goal.returns-clause-undo
returns-clause-undo c =
    let within : c.args.at < length c.args.registers.now.items = omega (arith, c.if-place-len.false, c.from-place.ensures, c.len.ensures) in
    let there = stands c.args.registers.now.items c.args.at c.from-place.result c.index-earlier.result.now c.from-place.ensures within c.index-earlier.ensures in
    let back = raised_back c.args.registers.now.items c.args.at c.args.register within (omega (arith, c.if-register-earlier.false, there)) in
    rw (c.from-place.ensures, sym there) back
