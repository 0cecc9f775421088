use Rattle.std.proofs.Common.{◌≡◌, drop}
use Rattle.sb_feed.specs.Keys.{fnv_1a}
use Rattle.sb_feed.proofs.cut.hash_onto.Given as goal

abbrev pub invariant-loop-byte : goal.invariant-loop-byte
invariant-loop-byte l = fnv_1a l.hash (drop l.byte-index l.bytes) ≡ fnv_1a l.fn.hash l.bytes
