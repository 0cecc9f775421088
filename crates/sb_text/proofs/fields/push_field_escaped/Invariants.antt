use Rattle.std.proofs.Common.{◌≡◌, ◌++◌, drop, take, length}
use Rattle.sb_text.specs.Field.{field_escaped}
use Rattle.sb_text.proofs.fields.push_field_escaped.Given as goal

abbrev pub invariant-loop-byte : goal.invariant-loop-byte
invariant-loop-byte l = record {
  written : l.out.items ++ field_escaped (drop l.byte-index l.bytes) ≡ l.fn.out.items ++ field_escaped l.bytes;
  front : take (length l.fn.out.items) l.out.items ≡ l.fn.out.items;
}
