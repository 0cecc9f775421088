use Rattle.std.proofs.Common.{sym}
use Rattle.sb_types.specs.TyView.{type_of}
use Rattle.sb_check.proofs.Widths.{capped_elements}
use Rattle.sb_check.proofs.stream_nodes.times_sized.Goals as goal

pub returns : goal.returns
returns c = rw (sym (capped_elements c.args.flow c.args.width c.args.most (type_of c.args.of)), sym c.capped.ensures) c.flow_sized.ensures
