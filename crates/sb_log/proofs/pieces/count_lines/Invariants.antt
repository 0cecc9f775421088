use Rattle.std.proofs.Common.{◌≡◌, ◌+◌, length}
use Rattle.sb_text.specs.Lines.{lines_of}
use Rattle.sb_log.proofs.pieces.count_lines.Given as goal

abbrev pub invariant-loop : goal.invariant-loop
invariant-loop l = l.count + length l.iterator' ≡ length (lines_of l.bytes)
