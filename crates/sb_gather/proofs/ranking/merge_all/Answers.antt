use Rattle.std.proofs.Common.{◌+◌, ◌≤◌, ◌++◌, ◌∷◌, suc, length, min, ap, sym, subst, ◌∙◌, arith}
use Rattle.std.specs.Vec.{vec_capacity}
use Rattle.std.specs.Vec.Iter.{into_iter_items}
use Rattle.sb_gather.specs.Tops.{placed, first_of_both, IsRanked}
use Rattle.sb_gather.specs.TopLaws.{cut_left, few_cut}
use Rattle.sb_gather.proofs.Ranks.{all_not_before, one_longer, room_after}
use Rattle.sb_gather.proofs.ranking.merge_all.Goals as goal

pub loop-entry-preserved : goal.loop-entry-preserved
loop-entry-preserved g c =
    let R = g.O.Ordered.order c.args.order.now in
    let k = c.args.places in
    let x = c.in-Some.entry in
    let rest = into_iter_items c.next.new.self in
    let i = c.loop-entry.invariant in
    let list = c.loop-entry.passed.items ++ c.loop-entry.left.items in
    let step = c.merge_next.ensures in
    let later = c.merge_next.new.passed.items ++ c.merge_next.new.left.items in
    let more : IsRanked R (x ∷ rest) = rw c.in-Some.ensures.steps.0 at i.rest in
    let longer : length later ≤ suc (length list) = subst (λ l. length l ≤ suc (length list)) (sym step.list) (one_longer R k x list) in
    let room : min k (length list + suc (length rest)) ≤ vec_capacity c.loop-entry.passed = rw c.in-Some.ensures.steps.0 at i.room in
    let noted : length c.loop-entry.steps.items + suc (length rest) ≤ vec_capacity c.loop-entry.steps = rw c.in-Some.ensures.steps.0 at i.noted in
    record {
      first = ap (λ l. first_of_both R k l rest) step.list ∙ (cut_left R k (placed R x list) rest ∙ (rw c.in-Some.ensures.steps.0 at i.first));
      few = subst (λ l. length l ≤ k) (sym step.list) (few_cut k (placed R x list));
      rest = more.1;
      passed = all_not_before R (g.met.O.Ordered.total c.args.order.now) x rest c.merge_next.new.passed.items more.0 step.passed;
      room = subst (λ n. min k (length later + length rest) ≤ n) (sym step.capacity) (room_after k (length list) (length later) (length rest) (vec_capacity c.loop-entry.passed) longer room);
      undone = step.undone c.args.left.now.items i.undone;
      noted = omega (arith, noted, step.noted.0, step.noted.1);
    }
