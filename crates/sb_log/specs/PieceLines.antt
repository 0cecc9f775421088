-- Pieces of a text: lines that stand behind others.
use Rattle.std.specs.Prelude.{◌≡◌, ℕ, ◌+◌, List, [], ◌++◌, length, map, Option, Some, None}
use Rattle.std.specs.Borrow.{Bor}
use Rattle.sb_text.specs.Lines.{Line, lines_from}
use Rattle.sb_log.specs.declared.pieces.Piece.{Piece}

-- a line of a piece as the line of the text that it is, behind so many
abbrev pub line_behind : ℕ → Line → Line
line_behind before line = record { number = before + line.number; bytes = line.bytes; ended = line.ended }

abbrev pub lines_behind : ℕ → List Line → List Line
lines_behind before = map (line_behind before)

-- the lines of a text that a piece has
abbrev pub piece_lines : Piece → List Line
piece_lines piece = lines_from (piece.before + 1) piece.bytes.now

-- a piece tells how many lines it has
abbrev pub IsPiece : Piece → Type 0
IsPiece piece = piece.lines ≡ length (piece_lines piece)

-- the lines of a text are those of a first part, and then those of the rest
abbrev pub SplitsLines : List ℕ → List ℕ → List ℕ → Type 0
SplitsLines bytes first rest = (number : ℕ) → lines_from number bytes ≡ lines_from number first ++ lines_from (number + length (lines_from number first)) rest

-- the lines of a piece that may be missing
abbrev pub lines_in : Option (Bor Piece) → List Line
lines_in None = []
lines_in (Some piece) = piece_lines piece.now
