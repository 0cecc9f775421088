use Rattle.std.proofs.Common.{arith}
use Rattle.sb_types.proofs.TyViews.{type_of-Rec}
use Rattle.sb_terms.proofs.sizes.+nodes.Goals as goal

pub count_nodes-returns-in-Rec : goal.count_nodes-returns-in-Rec
count_nodes-returns-in-Rec t c = rw (c.in-Rec.is, type_of-Rec c.in-Rec.fields, c.capped-in-Rec.ensures, c.count_field_nodes.ensures, c.as_slice.ensures) (omega arith)
