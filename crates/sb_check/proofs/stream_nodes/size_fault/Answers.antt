use Rattle.sb_types.specs.TyView.{type_of}
use Rattle.sb_check.proofs.Widths.{narrow}
use Rattle.sb_check.proofs.stream_nodes.size_fault.Goals as goal

pub returns-clause-narrow : goal.returns-clause-narrow
returns-clause-narrow c = narrow c.args.width (type_of c.args.ty.now) (rw c.count_leaves.ensures at c.if-width-count_leaves-gt-MOST_LEAVES.false)
