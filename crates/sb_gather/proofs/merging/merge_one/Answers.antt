use Rattle.std.proofs.Common.{◌≡◌, ◌-◌, length, drop, Some, ap, sym, subst, ◌∙◌, arith}
use Rattle.std.specs.Prelude.{slice_get, slice_set, None}
use Rattle.std.specs.List.{AllByRecursion}
use Rattle.sb_gather.specs.Entries.{entry_added}
use Rattle.sb_gather.specs.Merges.{turned, IsNotBefore}
use Rattle.sb_gather.specs.Steps.{StepBack}
use Rattle.sb_gather.proofs.Search.{got}
use Rattle.sb_gather.proofs.Rings.{tied_there, tied_first, first_valid, joined_is_added, join_step, joined_passed, pushed_is_added, push_back_step, pushed_passed, passed_length}
use Rattle.sb_gather.proofs.merging.merge_one.Goals as goal

pub join-requires-clause-left : goal.join-requires-clause-left
join-requires-clause-left g c =
    let d = c.args.d.now in
    let R = g.D.Ordered.order d in
    let V = g.D.Joining.valid d in
    let left = c.pass_before-ties.new.left in
    let xs = c.pass_before-ties.new.ring.items in
    let y = c.index_mut.result.now in
    let here : slice_get xs 0 ≡ Some y = got xs 0 y (tied_there R c.args.entry left xs c.if-ties.ensures.next) c.index_mut.ensures.value in
    let tie = tied_first R c.args.entry left xs y c.if-ties.ensures.next here in
    let valid : AllByRecursion V (turned left xs) = subst (AllByRecursion V) (sym c.if-ties.ensures.list) c.requires.list in
    first_valid V left xs y tie.0 valid tie.1

pub returns-then-ties-clause-ok : goal.returns-then-ties-clause-ok
returns-then-ties-clause-ok g c =
    let d = c.args.d.now in
    let R = g.D.Ordered.order d in
    let join = g.D.Joining.joined d in
    let left = c.pass_before-ties.new.left in
    let xs = c.pass_before-ties.new.ring.items in
    let y = c.index_mut.result.now in
    let here : slice_get xs 0 ≡ Some y = got xs 0 y (tied_there R c.args.entry left xs c.if-ties.ensures.next) c.index_mut.ensures.value in
    let tie = tied_first R c.args.entry left xs y c.if-ties.ensures.next here in
    ap (λ z. turned left (slice_set xs 0 z)) c.in_ok-undone.ensures.ok
    ∙ (joined_is_added R join c.args.entry y tie.0 left xs c.if-ties.ensures.passed tie.1 tie.2 ∙ ap (entry_added R join c.args.entry) c.if-ties.ensures.list)

pub returns-then-ties-clause-undone : goal.returns-then-ties-clause-undone
returns-then-ties-clause-undone g c =
    let d = c.args.d.now in
    let R = g.D.Ordered.order d in
    let T = g.D.Joining.takes_back d in
    let left = c.pass_before-ties.new.left in
    let xs = c.pass_before-ties.new.ring.items in
    let y = c.index_mut.result.now in
    let z = c.join.new.a in
    let at = c.len.result - left in
    let u = c.in_ok-undone.undone in
    let here : slice_get xs 0 ≡ Some y = got xs 0 y (tied_there R c.args.entry left xs c.if-ties.ensures.next) c.index_mut.ensures.value in
    let tie = tied_first R c.args.entry left xs y c.if-ties.ensures.next here in
    let place : at ≡ length (drop left xs) = omega (arith, c.len.ensures, passed_length left xs c.if-ties.ensures.within) in
    subst (λ l. StepBack T (at, Some u) (turned left (slice_set xs 0 z)) l) c.if-ties.ensures.list (join_step T u y z tie.0 left xs at tie.1 c.in_ok-undone.ensures.undone place)

pub returns-then-ties-clause-passed : goal.returns-then-ties-clause-passed
returns-then-ties-clause-passed g c =
    let d = c.args.d.now in
    let R = g.D.Ordered.order d in
    let left = c.pass_before-ties.new.left in
    let xs = c.pass_before-ties.new.ring.items in
    let y = c.index_mut.result.now in
    let here : slice_get xs 0 ≡ Some y = got xs 0 y (tied_there R c.args.entry left xs c.if-ties.ensures.next) c.index_mut.ensures.value in
    let tie = tied_first R c.args.entry left xs y c.if-ties.ensures.next here in
    joined_passed R (g.met.D.Ordered.total d) c.args.entry y c.join.new.a tie.0 left xs tie.1 c.if-ties.ensures.passed

pub returns-clause-ok : goal.returns-clause-ok
returns-clause-ok g c =
    let d = c.args.d.now in
    let R = g.D.Ordered.order d in
    let join = g.D.Joining.joined d in
    let left = c.pass_before-ties.new.left in
    let xs = c.pass_before-ties.new.ring.items in
    ap (turned left) c.in_ok-push_back.ensures.items
    ∙ (pushed_is_added R join c.args.entry left xs c.if-ties.ensures.within c.if-ties.ensures.passed c.if-ties.ensures.next ∙ ap (entry_added R join c.args.entry) c.if-ties.ensures.list)

pub returns-clause-undone : goal.returns-clause-undone
returns-clause-undone g c =
    let d = c.args.d.now in
    let T = g.D.Joining.takes_back d in
    let left = c.pass_before-ties.new.left in
    let xs = c.pass_before-ties.new.ring.items in
    let at = c.len.result - left in
    let place : at ≡ length (drop left xs) = omega (arith, c.len.ensures, passed_length left xs c.if-ties.ensures.within) in
    subst (λ l. StepBack T (at, None) (turned left c.push_back.new.self.items) l) c.if-ties.ensures.list
    (subst (λ l. StepBack T (at, None) (turned left l) (turned left xs)) (sym c.in_ok-push_back.ensures.items) (push_back_step T left xs c.args.entry at c.if-ties.ensures.within place))

pub returns-clause-passed : goal.returns-clause-passed
returns-clause-passed g c =
    let d = c.args.d.now in
    let left = c.pass_before-ties.new.left in
    subst (λ l. IsNotBefore (g.D.Ordered.order d) c.args.entry (drop left l)) (sym c.in_ok-push_back.ensures.items)
    (pushed_passed (g.D.Ordered.order d) (g.met.D.Ordered.total d) c.args.entry left c.pass_before-ties.new.ring.items c.if-ties.ensures.within c.if-ties.ensures.passed)
