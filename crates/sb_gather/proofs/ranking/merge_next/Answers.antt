use Rattle.std.proofs.Common.{◌≡◌, ◌<◌, ◌≤◌, ◌++◌, length, take, rules, sym, ap, subst, ◌∙◌, arith}
use Rattle.sb_gather.specs.Steps.{TopStepBack, StepsBack}
use Rattle.sb_gather.specs.Tops.{placed}
use Rattle.sb_gather.proofs.Ranks.{full_passed, placed_next, pushed_is_placed, pushed_step}
use Rattle.sb_gather.proofs.Undoing.{step_noted}
use Rattle.sb_gather.proofs.ranking.merge_next.Goals as goal

pub returns-then-at-places-clause-list : goal.returns-then-at-places-clause-list
returns-then-at-places-clause-list g c =
    let R = g.O.Ordered.order c.args.order.now in
    let k = c.args.places in
    let passed = c.pass_all.new.passed.items in
    let left = c.pass_all.new.left.items in
    let at : c.len-at.result ≡ length passed = search rules in
    let full : k ≤ length passed = omega (arith, c.if-at-places.true, at) in
    let few : length (passed ++ left) ≤ k = subst (λ l. length l ≤ k) (sym c.pass_all.ensures.list) c.requires.few in
    full_passed k passed left c.args.entry full few
    ∙ (sym (ap (take k) (placed_next R c.args.entry passed left c.pass_all.ensures.passed c.pass_all.ensures.next)) ∙ ap (λ l. take k (placed R c.args.entry l)) c.pass_all.ensures.list)

pub returns-clause-list : goal.returns-clause-list
returns-clause-list g c =
    let R = g.O.Ordered.order c.args.order.now in
    let k = c.args.places in
    let passed = c.pass_all.new.passed.items in
    let left = c.pass_all.new.left.items in
    let kept = c.last_of_full-out.new.list.items in
    let at : c.len-at.result ≡ length passed = search rules in
    let early : length passed < k = omega (arith, c.if-at-places.false, at) in
    let out = rw at at c.last_of_full-out.ensures.out in
    ap (λ l. l ++ kept) c.push_reserved.ensures.items
    ∙ (pushed_is_placed R k passed left kept c.args.entry c.last_of_full-out.result c.last_of_full-out.ensures.items early out c.pass_all.ensures.passed c.pass_all.ensures.next
    ∙ ap (λ l. take k (placed R c.args.entry l)) c.pass_all.ensures.list)

pub returns-clause-undone : goal.returns-clause-undone
returns-clause-undone g c first h =
    let passed = c.pass_all.new.passed.items in
    let kept = c.last_of_full-out.new.list.items in
    let now = c.push_reserved.new.self.items in
    let before = c.args.passed.now.items ++ c.args.left.now.items in
    let at : c.len-at.result ≡ length passed = search rules in
    let step = pushed_step passed c.pass_all.new.left.items kept now before c.len-at.result c.args.entry c.last_of_full-out.result at c.last_of_full-out.ensures.items c.push_reserved.ensures.items c.pass_all.ensures.list in
    subst (λ l. StepsBack TopStepBack l (now ++ kept) first) (sym c.push_reserved-2.ensures.items) (step_noted TopStepBack c.args.steps.now.items (c.len-at.result, c.last_of_full-out.result) (now ++ kept) before first step h)
