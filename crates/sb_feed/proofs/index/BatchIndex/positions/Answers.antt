use Rattle.std.proofs.Common.{◌∙◌, ap, sym, length, refl, arith}
use Rattle.std.proofs.lemmas.Bool.{ltb-true, ltb-false}
use Rattle.std.proofs.lemmas.Option.{slice_get_past, slice_get_read}
use Rattle.sb_feed.specs.Index.{positions_of}
use Rattle.sb_feed.proofs.Indexed.{list_there, list_none}
use Rattle.sb_feed.proofs.index.BatchIndex.positions.Goals as goal

pub returns-in-Some : goal.returns-in-Some
returns-in-Some c =
    let there = slice_get_read c.deref.result.now _ c.args.batch c.in-Some.list.now refl (ltb-true _ _ (sym c.in-Some.ensures.lookup.0)) c.in-Some.ensures.lookup.1 in
    c.as_slice.ensures.value
    ∙ (sym (list_there c.self.inside.positions.items c.args.batch c.in-Some.list.now (rw c.deref.ensures.value at there))
    ∙ (c.self.invariant c.args.batch ∙ ap (λ batches. positions_of batches c.args.batch) c.self.view_is))

pub returns-in-None : goal.returns-in-None
returns-in-None c =
    sym (list_none c.self.inside.positions.items c.args.batch (slice_get_past c.self.inside.positions.items c.args.batch (omega (arith, ltb-false _ _ (sym c.in-None.ensures.lookup.0), ap length c.deref.ensures.value))))
    ∙ (c.self.invariant c.args.batch ∙ ap (λ batches. positions_of batches c.args.batch) c.self.view_is)
