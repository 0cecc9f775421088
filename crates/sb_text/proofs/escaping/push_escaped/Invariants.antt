use Rattle.std.proofs.Common.{◌≡◌, ◌++◌, drop, take, length}
use Rattle.std.specs.List.{flat_map}
use Rattle.sb_text.specs.Escape.{escaped_byte}
use Rattle.sb_text.proofs.escaping.push_escaped.Given as goal

abbrev pub invariant-loop-byte : goal.invariant-loop-byte
invariant-loop-byte l = record {
  written : l.out.items ++ flat_map escaped_byte (drop l.byte-index l.bytes) ≡ l.fn.out.items ++ flat_map escaped_byte l.bytes;
  front : take (length l.fn.out.items) l.out.items ≡ l.fn.out.items;
}
