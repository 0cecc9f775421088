use Rattle.std.proofs.Common.{arith}
use Rattle.sb_types.specs.TyView.{type_of}
use Rattle.sb_types.proofs.TyViews.{type_of-List, type_of-Rec}
use Rattle.sb_terms.proofs.Caps.{capped_product}
use Rattle.sb_terms.specs.Sizes.{leaves}
use Rattle.sb_terms.proofs.sizes.+leaves.Goals as goal

pub count_leaves-returns-in-List : goal.count_leaves-returns-in-List
count_leaves-returns-in-List t c =
    rw (c.in-List.is, type_of-List c.in-List.of c.in-List.most, c.capped-in-List-2.ensures, c.capped-in-List.ensures, c.count_leaves-in-List.ensures, c.get-in-List.ensures)
    (capped_product c.in-List.most (leaves (type_of c.in-List.of)))

pub count_leaves-returns-in-Rec : goal.count_leaves-returns-in-Rec
count_leaves-returns-in-Rec t c = rw (c.in-Rec.is, type_of-Rec c.in-Rec.fields, c.max.ensures, c.count_field_leaves.ensures, c.as_slice.ensures) (omega arith)
