use Rattle.std.proofs.Common.{◌≡◌, ◌≤◌, sym, ap, subst, ◌∙◌}
use Rattle.std.specs.Prelude.{length}
use Rattle.sb_sketch.specs.Hll.{AreRegisters}
use Rattle.sb_sketch.proofs.Raising.{register_there, raise_is, raised_are}
use Rattle.sb_sketch.proofs.hll.HllM.raise.Goals as goal

pub cell_at-register-requires : goal.cell_at-register-requires
cell_at-register-requires c =
    let same : c.from-bits.result ≡ c.args.self.now = c.from-bits.ensures ∙ c.self.view_is in
    let small : c.args.self.now ≤ 12 = subst (λ b. b ≤ 12) c.self.view_is c.self.invariant.1 in
    register_there c.args.self.now c.from-bits.result c.word_of-word.result _ same small c.word_of-word.ensures.fits (ap length c.as_slice.ensures.value ∙ c.requires.count)

pub index_mut-requires : goal.index_mut-requires
index_mut-requires c =
    let same : c.from-bits.result ≡ c.args.self.now = c.from-bits.ensures ∙ c.self.view_is in
    let small : c.args.self.now ≤ 12 = subst (λ b. b ≤ 12) c.self.view_is c.self.invariant.1 in
    register_there c.args.self.now c.from-bits.result c.word_of-word.result _ same small c.word_of-word.ensures.fits (sym c.as_slice.ensures.len ∙ (ap length c.as_slice.ensures.value ∙ c.requires.count))

pub returns-clause-raised : goal.returns-clause-raised
returns-clause-raised c =
    let same : c.from-bits.result ≡ c.args.self.now = c.from-bits.ensures ∙ c.self.view_is in
    let small : c.args.self.now ≤ 12 = subst (λ b. b ≤ 12) c.self.view_is c.self.invariant.1 in
    let here = rw c.as_slice.ensures.value at c.cell_at-register.ensures in
    raise_is c.args.self.now c.from-bits.result c.word_of-word.result c.cell_at-register.result c.first_one.result c.greater.result c.args.registers.now.items c.args.item.now
    same small c.word_of-word.ensures.word c.word_of-word.ensures.fits c.requires here c.first_one.ensures c.greater.ensures

pub returns-clause-valid : goal.returns-clause-valid
returns-clause-valid c =
    let b = c.args.self.now in
    let small : b ≤ 12 = subst (λ b. b ≤ 12) c.self.view_is c.self.invariant.1 in
    subst (AreRegisters b) (sym (returns-clause-raised c)) (raised_are b c.args.registers.now.items c.args.item.now small c.requires)
