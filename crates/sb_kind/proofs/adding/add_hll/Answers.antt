use Rattle.std.proofs.Common.{◌≡◌, ap, subst, ◌∙◌}
use Rattle.sb_sketch.specs.Undone.{RegistersBack}
use Rattle.sb_kind.specs.Elements.{registers_in}
use Rattle.sb_kind.proofs.Undos.{hll_back}
use Rattle.sb_kind.proofs.adding.add_hll.Goals as goal

pub returns-clause-undone : goal.returns-clause-undone
returns-clause-undone c =
    let before : c.into_registers-all.result ≡ registers_in c.args.a.now = c.into_registers-all.ensures ∙ ap registers_in c.take.ensures in
    let undone = c.in_ok-done.field-0 in
    let all = c.plus_recorded-done.new.a in
    (c.requires.left.0, hll_back undone all (registers_in c.args.a.now) c.put.new.a c.put.ensures (subst (RegistersBack undone all) before c.in_ok-done.ensures.undo))
