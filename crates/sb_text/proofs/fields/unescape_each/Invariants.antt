use Rattle.std.proofs.Common.{◌≡◌, ◌++◌, drop}
use Rattle.std.specs.Option.{option_map}
use Rattle.sb_text.specs.Field.{field_unescaped, unescaped_rest}
use Rattle.sb_text.proofs.fields.unescape_each.Given as goal

abbrev pub invariant-loop-byte : goal.invariant-loop-byte
invariant-loop-byte l = option_map (λ rest. l.text.items ++ rest) (unescaped_rest l.escaping (drop l.byte-index l.bytes)) ≡ field_unescaped l.bytes
