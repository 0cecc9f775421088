use Rattle.std.proofs.Common.{◌≡◌, ◌∷◌, ◌++◌, drop, take, length, flat_map}
use Rattle.sb_tokens.specs.Quote.{quoted_byte}
use Rattle.sb_tokens.proofs.writing.push_quoted.Given as goal

abbrev pub invariant-loop-byte : goal.invariant-loop-byte
invariant-loop-byte l = record {
  written : l.out.items ++ flat_map quoted_byte (drop l.byte-index l.value) ≡ l.fn.out.items ++ 34 ∷ flat_map quoted_byte l.value;
  front : take (length l.fn.out.items) l.out.items ≡ l.fn.out.items;
}
