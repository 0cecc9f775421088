use Rattle.std.proofs.Common.{◌≡◌, take, arith, subst, sym, add-one}
use Rattle.std.specs.declared.cmp.Ordering.TheVariants.{Less, Equal, Greater}
use Rattle.sb_gather.specs.Merges.{IsAfter}
use Rattle.sb_gather.proofs.Rings.{all_one_more, next_before, next_ties}
use Rattle.sb_gather.proofs.merging.count_before.Goals as goal

pub returns-in-Less-clause-next : goal.returns-in-Less-clause-next
returns-in-Less-clause-next g c =
    let R = g.O.Ordered.order c.args.order.now in
    let before : R c.args.entry.now c.entry_at.result.now ≡ Less = cc in
    next_before R c.args.entry.now c.loop-at.at c.args.left c.args.ring.now.items c.entry_at.result.now (omega (arith, c.loop-at-test.true)) c.entry_at.ensures before

pub returns-in-Equal-clause-next : goal.returns-in-Equal-clause-next
returns-in-Equal-clause-next g c =
    let R = g.O.Ordered.order c.args.order.now in
    let tied : R c.args.entry.now c.entry_at.result.now ≡ Equal = cc in
    next_ties R c.args.entry.now c.loop-at.at c.args.left c.args.ring.now.items c.entry_at.result.now (omega (arith, c.loop-at-test.true)) c.entry_at.ensures tied

pub loop-at-preserved : goal.loop-at-preserved
loop-at-preserved g c =
    let R = g.O.Ordered.order c.args.order.now in
    let after : R c.args.entry.now c.entry_at.result.now ≡ Greater = cc in
    subst (λ n. IsAfter R c.args.entry.now (take n c.args.ring.now.items)) (sym (add-one _))
    (all_one_more (λ y. R c.args.entry.now y ≡ Greater) c.loop-at.at c.args.ring.now.items c.entry_at.result.now c.loop-at.invariant c.entry_at.ensures after)
