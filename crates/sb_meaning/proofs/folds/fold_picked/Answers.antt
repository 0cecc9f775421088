use Rattle.sb_kind.specs.KindView.{monoid_of}
use Rattle.sb_types.specs.ValView.{value_of}
use Rattle.sb_meaning.specs.Fold.{is_in}
use Rattle.sb_meaning.proofs.Picked.{valid_picked}
use Rattle.sb_meaning.proofs.folds.fold_picked.Goals as goal

pub fold_list-requires : goal.fold_list-requires
fold_list-requires c =
    rw c.in_ok-elements.ensures (valid_picked (monoid_of c.args.m.now.kind) (value_of c.args.key.now) (is_in c.args.take.now) c.args.all.items c.requires)
