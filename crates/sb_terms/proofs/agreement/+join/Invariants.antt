use Rattle.std.proofs.Common.{◌≡◌, ◌≤◌, drop, length}
use Rattle.std.specs.Prelude.{option_map}
use Rattle.sb_terms.specs.Agreement.{fields_joined}
use Rattle.sb_types.specs.TyView.{view_fields}
use Rattle.sb_terms.proofs.Fields.{onto_fields}
use Rattle.sb_terms.proofs.agreement.+join.Given as goal

abbrev pub invariant-join_fields-loop-at : goal.invariant-join_fields-loop-at
invariant-join_fields-loop-at l = record {
  rest : option_map (onto_fields (view_fields l.fields.items)) (fields_joined (view_fields (drop l.at l.left)) (view_fields (drop l.at l.right))) ≡ fields_joined (view_fields l.left) (view_fields l.right);
  within : l.at ≤ length l.right;
}
