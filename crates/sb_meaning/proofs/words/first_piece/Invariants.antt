use Rattle.std.proofs.Common.{take}
use Rattle.sb_meaning.proofs.Blanks.{LacksBlanks}
use Rattle.sb_meaning.proofs.words.first_piece.Given as goal

abbrev pub invariant-loop-at : goal.invariant-loop-at
invariant-loop-at l = LacksBlanks (take l.at l.bytes)
