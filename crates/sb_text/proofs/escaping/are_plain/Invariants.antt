use Rattle.std.proofs.Common.{◌≡◌, drop}
use Rattle.std.specs.List.{list_all}
use Rattle.sb_text.specs.Escape.{is_plain}
use Rattle.sb_text.proofs.escaping.are_plain.Given as goal

abbrev pub invariant-loop-byte : goal.invariant-loop-byte
invariant-loop-byte l = list_all is_plain (drop l.byte-index l.bytes) ≡ list_all is_plain l.bytes
