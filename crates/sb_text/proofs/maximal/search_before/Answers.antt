use Rattle.std.proofs.Common.{arith, ltb, ltb-true, ltb-false, rules}
use Rattle.std.proofs.lemmas.List.Sorted.{IsPartitionPoint-from_clause}
use Rattle.sb_text.proofs.RangeEdits.{last_partitioned}
use Rattle.sb_text.proofs.maximal.search_before.Goals as goal

pub returns-clause-before : goal.returns-clause-before
returns-clause-before c =
    let point = IsPartitionPoint-from_clause (λ range. ltb range.1 c.args.number) _ _ c.partition_point.ensures.partitioned (last_partitioned c.args.ranges.now c.args.number c.requires) (λ a r q k. search rules) in
    λ k less. ltb-true _ _ (point.0 k (0, 0) (omega arith) less)

pub returns-clause-after : goal.returns-clause-after
returns-clause-after c =
    let point = IsPartitionPoint-from_clause (λ range. ltb range.1 c.args.number) _ _ c.partition_point.ensures.partitioned (last_partitioned c.args.ranges.now c.args.number c.requires) (λ a r q k. search rules) in
    λ k le within. ltb-false _ _ (point.1 k (0, 0) le within)
