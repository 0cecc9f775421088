use Rattle.std.proofs.Common.{◌≡◌, ap, sym, subst, ◌∙◌}
use Rattle.sb_sketch.specs.Undone.{RegistersBack}
use Rattle.sb_kind.specs.Elements.{registers_in}
use Rattle.sb_kind.specs.Undoing.{registers_undone}
use Rattle.sb_kind.specs.declared.agg.Agg.{Hll}
use Rattle.sb_kind.proofs.undoing.undo_hll.Goals as goal

pub returns : goal.returns
returns c earlier h =
    let all : c.into_registers-all.result ≡ registers_in c.args.a.now = c.into_registers-all.ensures ∙ ap registers_in c.take.ensures in
    let of_all = subst (λ l. RegistersBack (registers_undone c.args.undone) l (registers_in earlier)) (sym all) h.1 in
    let back = subst (λ u. RegistersBack u c.into_registers-all.result (registers_in earlier)) (sym c.into_registers_undone.ensures) of_all in
    c.put.ensures ∙ (ap Hll (c.undo.ensures (registers_in earlier) back) ∙ sym h.0)
