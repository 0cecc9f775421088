use Rattle.std.specs.Vec.Iter.{into_iter_items}
use Rattle.sb_plan.proofs.Gives.{AreStaged}
use Rattle.sb_plan.proofs.PathCosts.{AreCounted}
use Rattle.sb_plan.proofs.paths.staged.Given as goal

abbrev pub invariant-loop-path : goal.invariant-loop-path
invariant-loop-path l = record {
  values : AreStaged l.stage l.fn.before.items l.paths.items (into_iter_items l.path-iterator);
  steps : AreCounted l.stage l.fn.before.items l.paths.items (into_iter_items l.path-iterator);
}
