use Rattle.std.proofs.Common.{refl, sym, subst, arith}
use Rattle.std.specs.Vec.Iter.{into_iter_items}
use Rattle.sb_plan.specs.declared.paths.Path.{Path}
use Rattle.sb_plan.proofs.Gives.{AreStaged, next_staged, all_staged, nothing_left}
use Rattle.sb_plan.proofs.PathCosts.{AreCounted, next_counted, all_counted}
use Rattle.sb_plan.proofs.paths.staged.Goals as goal

pub loop-path-preserved : goal.loop-path-preserved
loop-path-preserved c =
    let all = c.args.before.items in
    let done = c.loop-path.paths.items in
    let rest = into_iter_items c.next.new.self in
    let after : Path = record { root = c.in-Some.path.root; stages = c.push.new.self } in
    record {
      values = subst (λ paths. AreStaged c.args.stage all paths rest) (sym c.in_ok-push-2.ensures.items)
          (next_staged c.args.stage all done rest c.in-Some.path after refl c.in_ok-push.ensures.items (subst (AreStaged c.args.stage all done) c.in-Some.ensures.steps.0 c.loop-path.invariant.values));
      steps = subst (λ paths. AreCounted c.args.stage all paths rest) (sym c.in_ok-push-2.ensures.items)
          (next_counted c.args.stage all done rest c.in-Some.path after refl c.in_ok-push.ensures.items (subst (AreCounted c.args.stage all done) c.in-Some.ensures.steps.0 c.loop-path.invariant.steps));
    }

pub returns-clause-values : goal.returns-clause-values
returns-clause-values c =
    all_staged c.args.stage c.args.before.items c.loop-path.paths.items
    (subst (AreStaged c.args.stage c.args.before.items c.loop-path.paths.items) (nothing_left (into_iter_items c.loop-path.path-iterator) (omega (arith, c.in-None.ensures.steps.0, c.loop-path.path-iterator.rest.ok))) c.loop-path.invariant.values)

pub returns-clause-steps : goal.returns-clause-steps
returns-clause-steps c =
    all_counted c.args.stage c.args.before.items c.loop-path.paths.items
    (subst (AreCounted c.args.stage c.args.before.items c.loop-path.paths.items) (nothing_left (into_iter_items c.loop-path.path-iterator) (omega (arith, c.in-None.ensures.steps.0, c.loop-path.path-iterator.rest.ok))) c.loop-path.invariant.steps)
