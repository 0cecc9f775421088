use Rattle.std.proofs.Common.{ap, sym, subst, ◌∙◌}
use Rattle.std.specs.Vec.Iter.{into_iter_items}
use Rattle.sb_gather.specs.Steps.{TopStepBack, StepsBack}
use Rattle.sb_gather.specs.Tops.{by_rank, placed, first_of_both, IsTop}
use Rattle.sb_gather.specs.TopLaws.{cut_left, top_placed, by_rank_total, by_rank_same}
use Rattle.sb_gather.proofs.top.put_all.Goals as goal

pub loop-entry-preserved : goal.loop-entry-preserved
loop-entry-preserved g c =
    let R = by_rank g.K.Ord.cmp in
    let k = c.args.top.now in
    let rest = into_iter_items c.next.new.self in
    let i = c.loop-entry.invariant in
    record {
      first = ap (λ l. first_of_both R k l rest) c.in_default.ensures.ok ∙ (cut_left R k (placed R c.in-Some.entry c.loop-entry.list.items) rest ∙ (rw c.in-Some.ensures.steps.0 at i.first));
      list = subst (IsTop R k) (sym c.in_default.ensures.ok) (top_placed R (by_rank_total g.K.Ord.cmp g.met.K.Ord.total) (by_rank_same g.K.Ord.cmp g.met.K.Key.same) k c.in-Some.entry c.loop-entry.list.items i.list);
      undone = c.in_default.ensures.undone c.args.list.now.items i.undone;
    }

pub returns-in-Err-clause-err : goal.returns-in-Err-clause-err
returns-in-Err-clause-err g c =
    let first = c.args.list.now.items in
    let same = c.in-Err.ensures.err in
    let steps = subst (λ s. StepsBack TopStepBack s c.loop-entry.list.items first) (sym same.1) c.loop-entry.invariant.undone in
    c.take_back.ensures first (subst (λ l. StepsBack TopStepBack c.put_next.new.steps.items l first) (sym same.0) steps)
