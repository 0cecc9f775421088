use Rattle.std.proofs.Common.{◌≡◌, ◌+◌, ◌≤◌, drop}
use Rattle.std.specs.Prelude.{min}
use Rattle.sb_terms.specs.Sizes.{field_leaves}
use Rattle.sb_types.specs.TyView.{view_fields}
use Rattle.sb_terms.proofs.sizes.+leaves.Given as goal

abbrev pub invariant-count_field_leaves-loop-field : goal.invariant-count_field_leaves-loop-field
invariant-count_field_leaves-loop-field l = record {
  sum : min (l.sum + field_leaves (view_fields (drop l.field-index l.fields))) 1025 ≡ min (field_leaves (view_fields l.fields)) 1025;
  bound : l.sum ≤ 1025;
}
