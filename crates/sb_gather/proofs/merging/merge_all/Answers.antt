use Rattle.std.proofs.Common.{◌∷◌, drop, ap, sym, subst, ◌∙◌}
use Rattle.std.specs.Vec.Iter.{into_iter_items}
use Rattle.sb_gather.specs.Entries.{AreEntries, entries_added}
use Rattle.sb_gather.specs.EntryLaws.{one_keeps}
use Rattle.sb_gather.specs.Merges.{turned}
use Rattle.sb_gather.proofs.Rings.{all_after_passed}
use Rattle.sb_gather.proofs.merging.merge_all.Goals as goal

pub loop-entry-preserved : goal.loop-entry-preserved
loop-entry-preserved g c =
    let d = c.args.d.now in
    let R = g.D.Ordered.order d in
    let V = g.D.Joining.valid d in
    let join = g.D.Joining.joined d in
    let rest = into_iter_items c.next.new.self in
    let i = c.loop-entry.invariant in
    let step = c.in_ok-merge_next.ensures in
    let more : AreEntries R V (c.in-Some.entry ∷ rest) = rw c.in-Some.ensures.steps.0 at i.rest in
    let one = one_keeps R (g.met.D.Ordered.total d) V join (g.met.D.Joining.laws d) c.in-Some.entry (turned c.loop-entry.left c.loop-entry.ring.items) more.valid.0 i.list in
    record {
      added = ap (λ l. entries_added R join l rest) step.ok ∙ (rw c.in-Some.ensures.steps.0 at i.added);
      list = subst (AreEntries R V) (sym step.ok) one;
      rest = record { rising = more.rising.1; valid = more.valid.1 };
      within = step.within;
      passed = all_after_passed R (g.met.D.Ordered.total d) c.in-Some.entry rest (drop c.merge_next.new.left c.merge_next.new.ring.items) more.rising.0 step.passed;
      undone = λ first h. step.undone first (i.undone first h);
    }
