use Rattle.std.proofs.Common.{◌≡◌}
use Rattle.std.specs.Vec.Iter.{into_iter_items}
use Rattle.sb_gather.specs.Steps.{TopStepBack, StepsBack}
use Rattle.sb_gather.specs.Tops.{by_rank, first_of_both, IsTop}
use Rattle.sb_gather.proofs.top.put_all.Given as goal

abbrev pub invariant-loop-entry : goal.invariant-loop-entry
invariant-loop-entry g l = record {
  first : first_of_both (by_rank g.K.Ord.cmp) l.top l.list.items (into_iter_items l.entry-iterator) ≡ first_of_both (by_rank g.K.Ord.cmp) l.top l.fn.list.items l.fn.more.items;
  list : IsTop (by_rank g.K.Ord.cmp) l.top l.list.items;
  undone : StepsBack TopStepBack l.steps.items l.list.items l.fn.list.items;
}
