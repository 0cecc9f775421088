use Rattle.std.proofs.Common.{◌≡◌, ◌+◌, ◌≤◌, drop}
use Rattle.std.specs.Prelude.{min}
use Rattle.sb_terms.specs.Sizes.{field_nodes}
use Rattle.sb_types.specs.TyView.{view_fields}
use Rattle.sb_terms.proofs.sizes.+nodes.Given as goal

abbrev pub invariant-count_field_nodes-loop-field : goal.invariant-count_field_nodes-loop-field
invariant-count_field_nodes-loop-field l = record {
  sum : min (l.sum + field_nodes (view_fields (drop l.field-index l.fields))) 1025 ≡ min (field_nodes (view_fields l.fields)) 1025;
  bound : l.sum ≤ 1025;
}
