use Rattle.std.proofs.Common.{◌≡◌, ◌++◌, drop, take}
use Rattle.std.specs.Option.{option_map}
use Rattle.sb_text.specs.Field.{field_unescaped}
use Rattle.sb_text.proofs.fields.are_plain.Given as goal

abbrev pub invariant-loop-byte : goal.invariant-loop-byte
invariant-loop-byte l = option_map (λ rest. take l.byte-index l.bytes ++ rest) (field_unescaped (drop l.byte-index l.bytes)) ≡ field_unescaped l.bytes
