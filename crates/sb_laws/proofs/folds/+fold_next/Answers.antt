use Rattle.std.proofs.Common.{◌≡◌, ◌+◌, ◌-◌, ◌/◌, arith}
use Rattle.std.specs.Vec.Iter.{into_iter_items}
use Rattle.sb_laws.specs.Sums.{SemigroupLaws}
use Rattle.sb_laws.proofs.Halves.{taken_valid, dropped_valid, parts_added}
use Rattle.sb_laws.proofs.folds.+fold_next.Goals as goal

pub plus-requires-clause-left : goal.plus-requires-clause-left
plus-requires-clause-left g t c =
    let m = c.args.m.now in
    let laws : SemigroupLaws (g.M.Semigroup.valid m) (g.M.Semigroup.add m) = record { keeps_valid = g.met.M.Semigroup.keeps_valid m; associates = g.met.M.Semigroup.associates m } in
    taken_valid (g.M.Semigroup.valid m) (g.M.Semigroup.add m) laws _ (c.args.count / 2) (into_iter_items c.args.items.now) c.requires.valid c.in_ok-sum.ensures.sum

pub plus-requires-clause-right : goal.plus-requires-clause-right
plus-requires-clause-right g t c =
    let m = c.args.m.now in
    let laws : SemigroupLaws (g.M.Semigroup.valid m) (g.M.Semigroup.add m) = record { keeps_valid = g.met.M.Semigroup.keeps_valid m; associates = g.met.M.Semigroup.associates m } in
    dropped_valid (g.M.Semigroup.valid m) (g.M.Semigroup.add m) laws _ (c.args.count / 2) (c.args.count - c.args.count / 2) (into_iter_items c.args.items.now) _ c.requires.valid c.in_ok-sum.ensures.rest c.in_ok-right.ensures.sum

pub returns-clause-sum : goal.returns-clause-sum
returns-clause-sum g t c =
    let m = c.args.m.now in
    let laws : SemigroupLaws (g.M.Semigroup.valid m) (g.M.Semigroup.add m) = record { keeps_valid = g.met.M.Semigroup.keeps_valid m; associates = g.met.M.Semigroup.associates m } in
    let halves : c.args.count ≡ c.args.count / 2 + (c.args.count - c.args.count / 2) = omega arith in
    parts_added (g.M.Semigroup.valid m) (g.M.Semigroup.add m) laws c.in_ok-sum.sum c.in_ok-right.right c.plus.new.a (c.args.count / 2) (c.args.count - c.args.count / 2) c.args.count (into_iter_items c.args.items.now) _
    c.requires.valid halves c.in_ok-sum.ensures.rest c.in_ok-sum.ensures.sum c.in_ok-right.ensures.sum c.in_ok-plus.ensures.ok
