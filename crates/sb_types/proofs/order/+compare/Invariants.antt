use Rattle.std.proofs.Common.{◌≡◌, ◌≤◌, drop, length}
use Rattle.sb_types.specs.Order.{values_cmp}
use Rattle.sb_types.specs.ValView.{view_values}
use Rattle.sb_types.proofs.order.+compare.Given as goal

abbrev pub invariant-compare_lists-loop-at : goal.invariant-compare_lists-loop-at
invariant-compare_lists-loop-at l = record {
  rest : values_cmp (view_values (drop l.at l.left)) (view_values (drop l.at l.right)) ≡ values_cmp (view_values l.left) (view_values l.right);
  within : l.at ≤ length l.right;
}
