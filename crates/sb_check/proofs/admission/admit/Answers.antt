use Rattle.std.proofs.Common.{sym}
use Rattle.sb_check.specs.CheckedView.{checked_of}
use Rattle.sb_check.proofs.Ordered.{none_ordered}
use Rattle.sb_check.proofs.StoresAt.{refused}
use Rattle.sb_check.proofs.admission.admit.Goals as goal

pub new-requires : goal.new-requires
new-requires c = none_ordered 0 (checked_of c.args.c).declared.stores (rw c.stores.ensures at (sym c.in-None.ensures.first))

pub returns-in-Some : goal.returns-in-Some
returns-in-Some c free = refused (checked_of c.args.c) c.stores.result.now c.in-Some.at c.refusal.result c.stores.ensures c.in-Some.ensures.first (c.refusal.ensures free)
