use Rattle.std.proofs.Common.{◌∷◌, ap, sym, subst, ◌∙◌}
use Rattle.std.specs.List.{AllByRecursion}
use Rattle.std.specs.Vec.Iter.{into_iter_items}
use Rattle.sb_gather.specs.Entries.{AreEntries, entries_added}
use Rattle.sb_gather.specs.EntryLaws.{one_keeps}
use Rattle.sb_gather.proofs.entries.add_entries.Goals as goal

pub loop-entry-preserved : goal.loop-entry-preserved
loop-entry-preserved g c =
    let d = c.args.d.now in
    let R = g.D.Ordered.order d in
    let V = g.D.Joining.valid d in
    let join = g.D.Joining.joined d in
    let rest = into_iter_items c.next.new.self in
    let i = c.loop-entry.invariant in
    let both : AllByRecursion V (c.in-Some.entry ∷ rest) = rw c.in-Some.ensures.steps.0 at i.rest in
    let one = one_keeps R (g.met.D.Ordered.total d) V join (g.met.D.Joining.laws d) c.in-Some.entry c.loop-entry.list.items both.0 i.list in
    record {
      added = ap (λ l. entries_added R join l rest) c.in_default.ensures.ok ∙ (rw c.in-Some.ensures.steps.0 at i.added);
      list = subst (AreEntries R V) (sym c.in_default.ensures.ok) one;
      rest = both.1;
      undone = c.in_default.ensures.undone c.args.list.now.items i.undone;
    }
