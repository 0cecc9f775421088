use Rattle.std.proofs.Common.{◌≡◌, take, arith, subst, sym, add-one}
use Rattle.std.specs.List.{AllByRecursion}
use Rattle.std.specs.declared.cmp.Ordering.TheVariants.{Less, Greater}
use Rattle.sb_gather.proofs.Search.{all_above, all_below}
use Rattle.sb_gather.proofs.place.place_of.Goals as goal

pub loop-low-preserved-in-Less : goal.loop-low-preserved-in-Less
loop-low-preserved-in-Less g c =
    let R = g.O.Ordered.order c.args.order.now in
    let before : R c.args.entry.now c.at-there.result.now ≡ Less = cc in
    record {
      low = omega arith;
      high = omega (arith, c.loop-low.invariant.high, c.loop-low.invariant.low);
      above = c.loop-low.invariant.above;
      below = all_below R (g.met.O.Ordered.total c.args.order.now) c.args.entry.now c.args.list.now _ c.at-there.result.now c.requires c.at-there.ensures before;
    }

pub loop-low-preserved : goal.loop-low-preserved
loop-low-preserved g c =
    let R = g.O.Ordered.order c.args.order.now in
    let after : R c.args.entry.now c.at-there.result.now ≡ Greater = cc in
    record {
      low = omega (arith, c.loop-low-test.true);
      high = c.loop-low.invariant.high;
      above = subst (λ n. AllByRecursion (λ y. R c.args.entry.now y ≡ Greater) (take n c.args.list.now)) (sym (add-one _)) (all_above R (g.met.O.Ordered.total c.args.order.now) c.args.entry.now c.args.list.now _ c.at-there.result.now c.requires c.at-there.ensures after);
      below = c.loop-low.invariant.below;
    }

pub returns : goal.returns
returns g c =
    let same : c.loop-low.high ≡ c.loop-low.low = omega (arith, c.loop-low.invariant.low, c.loop-low-test.false) in
    let i = c.loop-low.invariant in
    (omega (arith, i.high, i.low), (i.above, rw same at i.below))
