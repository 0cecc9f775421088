use Rattle.std.proofs.Common.{◌≡◌, ◌++◌, drop, take}
use Rattle.sb_types.specs.Read.{leaf, after_leaf}
use Rattle.sb_types.proofs.leaves.split_leaf.Given as goal

abbrev pub invariant-loop-at : goal.invariant-loop-at
invariant-loop-at l = record {
  leaf : take l.at l.bytes ++ leaf (drop l.at l.bytes) ≡ leaf l.bytes;
  rest : after_leaf (drop l.at l.bytes) ≡ after_leaf l.bytes;
}
