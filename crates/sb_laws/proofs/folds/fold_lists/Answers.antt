use Rattle.std.proofs.Common.{◌++◌, sym, subst}
use Rattle.std.specs.List.{AllByRecursion, flat_map}
use Rattle.std.specs.Vec.Iter.{into_iter_items}
use Rattle.sb_laws.specs.Sums.{SemigroupLaws, IsValid}
use Rattle.sb_laws.proofs.Sums.{both_valid, valid_right, part_valid, list_added}
use Rattle.sb_laws.proofs.folds.fold_lists.Goals as goal

pub add_both-requires-clause-right : goal.add_both-requires-clause-right
add_both-requires-clause-right g c =
    let m = c.args.m.now in
    let laws : SemigroupLaws (g.M.Semigroup.valid m) (g.M.Semigroup.add m) = record { keeps_valid = g.met.M.Semigroup.keeps_valid m; associates = g.met.M.Semigroup.associates m } in
    part_valid (g.M.Semigroup.valid m) (g.M.Semigroup.add m) laws c.in_ok-part.part c.in-Some.list.items (flat_map (λ list. list.items) (into_iter_items c.next.new.self))
    (rw c.in-Some.ensures.steps.0 at c.loop-list.invariant.rest) c.in_ok-part.ensures

pub loop-list-preserved : goal.loop-list-preserved
loop-list-preserved g c =
    let m = c.args.m.now in
    let add = g.M.Semigroup.add m in
    let V = g.M.Semigroup.valid m in
    let laws : SemigroupLaws V add = record { keeps_valid = g.met.M.Semigroup.keeps_valid m; associates = g.met.M.Semigroup.associates m } in
    let rest = flat_map (λ list. list.items) (into_iter_items c.next.new.self) in
    let pieces : AllByRecursion V (c.in-Some.list.items ++ rest) = rw c.in-Some.ensures.steps.0 at c.loop-list.invariant.rest in
    let whole = rw c.in-Some.ensures.steps.0 at c.loop-list.invariant.sum in
    let part = part_valid V add laws c.in_ok-part.part c.in-Some.list.items rest pieces c.in_ok-part.ensures in
    record {
      sum = list_added V add laws c.loop-list.sum c.in_ok-part.part c.in_ok-sum.sum _ c.in-Some.list.items rest c.loop-list.invariant.valid pieces c.in_ok-part.ensures c.in_ok-sum.ensures whole;
      valid = subst (IsValid V) (sym c.in_ok-sum.ensures) (both_valid V add laws c.loop-list.sum c.in_ok-part.part c.loop-list.invariant.valid part);
      rest = valid_right V c.in-Some.list.items rest pieces;
    }
