use Rattle.std.proofs.Common.{◌≡◌, ◌≤◌, rules, sym, subst, ◌∙◌, arith}
use Rattle.sb_sketch.specs.Hll.{AreRegisters, registers_of}
use Rattle.sb_sketch.proofs.Raising.{registers_are, register_fits}
use Rattle.sb_sketch.proofs.hll.HllM.one.Goals as goal

pub overflow_cast-at-2 : goal.overflow_cast-at-2
overflow_cast-at-2 c =
    let small : c.args.self.now ≤ 12 = subst (λ b. b ≤ 12) c.self.view_is c.self.invariant.1 in
    omega (arith, register_fits c.args.self.now c.from-bits.result c.word_of-word.result (c.from-bits.ensures ∙ c.self.view_is) small c.word_of-word.ensures.fits)

pub returns-clause-valid : goal.returns-clause-valid
returns-clause-valid c =
    let b = c.args.self.now in
    let small : b ≤ 12 = subst (λ b. b ≤ 12) c.self.view_is c.self.invariant.1 in
    let sketch : c.one.result ≡ registers_of b c.args.item.now = search rules in
    subst (AreRegisters b) (sym sketch) (registers_are b c.args.item.now small)
