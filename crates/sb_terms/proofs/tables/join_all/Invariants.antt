use Rattle.std.proofs.Common.{◌≡◌, drop, map}
use Rattle.sb_terms.specs.Tables.{joined_with}
use Rattle.sb_types.specs.TyView.{type_of}
use Rattle.sb_terms.proofs.tables.join_all.Given as goal

abbrev pub invariant-loop-part : goal.invariant-loop-part
invariant-loop-part l = joined_with (type_of l.joint) (map type_of (drop l.part-index l.parts)) ≡ joined_with (type_of l.fn.joint) (map type_of l.parts)
