use Rattle.std.proofs.Common.{◌-◌, ap, sym, subst, take, ◌∙◌}
use Rattle.sb_gather.specs.Merges.{turned, IsNext}
use Rattle.sb_gather.proofs.Rings.{same_list, left_after}
use Rattle.sb_gather.proofs.merging.pass_before.Goals as goal

pub returns-clause-list : goal.returns-clause-list
returns-clause-list g c =
    let before = c.count_before-before.result.0 in
    let xs = c.args.ring.now.items in
    ap (turned (c.args.left.now - before)) c.rotate_left.ensures.items ∙ same_list before c.args.left.now xs c.count_before-before.ensures.within c.requires.within

pub returns-clause-next : goal.returns-clause-next
returns-clause-next g c =
    let before = c.count_before-before.result.0 in
    let xs = c.args.ring.now.items in
    let left = ap (take (c.args.left.now - before)) c.rotate_left.ensures.items ∙ left_after before c.args.left.now xs c.count_before-before.ensures.within c.requires.within in
    subst (IsNext (g.O.Ordered.order c.args.order.now) c.args.entry.now c.count_before-before.result.1) (sym left) c.count_before-before.ensures.next
