use Rattle.std.proofs.Common.{◌≡◌, ◌≤◌, ◌-◌, ◌++◌, map, length}
use Rattle.sb_meaning.specs.Streams.{at_of, before, behind}
use Rattle.sb_meaning.proofs.merges.pass_before.Given as goal

abbrev pub invariant-loop : goal.invariant-loop
invariant-loop l = record {
  passed : map at_of l.out.items ++ before l.position (map at_of l.right.items) ≡ map at_of l.fn.out.items ++ before l.position (map at_of l.fn.right.items);
  left : behind l.position (map at_of l.right.items) ≡ behind l.position (map at_of l.fn.right.items);
  few : length l.right.items ≤ l.end - l.counter;
}
