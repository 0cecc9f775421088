-- The lines of a text.
use Rattle.std.specs.Prelude.{ℕ, ◌+◌, ◌==◌, Bool, true, false, List, [], ◌∷◌, if◌then◌else◌}
use Rattle.sb_text.specs.declared.lines.Line as rust

-- a line: its number in the text, its bytes without the LF, and whether an LF ends it
pub record Line : Type 0 where
  pub number : ℕ
  pub bytes : List ℕ
  pub ended : Bool

-- a byte in front of the first line; where there is none, it is a line that nothing ends
abbrev pub onto_first : ℕ → ℕ → List Line → List Line
onto_first number byte [] = record { number = number; bytes = byte ∷ []; ended = false } ∷ []
onto_first number byte (line ∷ lines) = record { number = line.number; bytes = byte ∷ line.bytes; ended = line.ended } ∷ lines

-- the lines of a text, numbered from `number` on: each LF ends one, and what stands after the last LF is one more
abbrev pub lines_from : ℕ → List ℕ → List Line
lines_from number [] = []
lines_from number (byte ∷ bytes) =
    if byte == 10 then record { number = number; bytes = []; ended = true } ∷ lines_from (number + 1) bytes
    else onto_first number byte (lines_from number bytes)

-- the lines of a text, numbered from 1
abbrev pub lines_of : List ℕ → List Line
lines_of = lines_from 1

-- what contracts see of a line that is lent
abbrev pub line_view : rust.Line → Line
line_view line = record { number = line.number; bytes = line.bytes.now; ended = line.ended }
