use Rattle.std.proofs.Common.{◌≡◌, ◌++◌, drop, map, take, length}
use Rattle.sb_plan.proofs.online_runner.push_parts.Given as goal

abbrev pub invariant-loop-part : goal.invariant-loop-part
invariant-loop-part l = record {
  parts : l.out.items ++ map (λ part. record { key = part.0; batch = l.entry.batch; value = part.1 }) (drop l.part-index l.entry.parts.items)
      ≡ l.fn.out.items ++ map (λ part. record { key = part.0; batch = l.entry.batch; value = part.1 }) l.entry.parts.items;
  front : take (length l.fn.out.items) l.out.items ≡ l.fn.out.items;
}
