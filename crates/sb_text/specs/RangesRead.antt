-- How the text of a set is read, piece by piece.
use Rattle.std.specs.Prelude.{ℕ, ◌+◌, ◌-◌, ◌^◌, ◌==◌, nat_le, List, [], ◌∷◌, Option, Some, None, option_map, option_and_then, bytes_eq, codes, if◌then◌else◌}
use Rattle.std.specs.Borrow.{Bor}
use Rattle.sb_text.specs.Columns.{pieces}
use Rattle.sb_text.specs.Decimal.{natural}
use Rattle.sb_text.specs.Ranges.{Range}

-- the greatest number that a set may have
abbrev pub most : ℕ
most = 2 ^ 32 - 1

-- a range whose first number isn't above its last
abbrev pub ordered_range : ℕ → ℕ → Option Range
ordered_range low high = if nat_le low high then Some (low, high) else None

-- what stands before the first separator and what follows it
abbrev pub cut : ℕ → List ℕ → Option (List ℕ × List ℕ)
cut separator [] = None
cut separator (b ∷ bytes) = if b == separator then Some ([], bytes) else option_map (λ parts. (b ∷ parts.0, parts.1)) (cut separator bytes)

-- the range that two numbers with a hyphen between them spell
abbrev pub range_read : List ℕ → Option Range
range_read text =
    option_and_then (λ parts. option_and_then (λ low. option_and_then (λ high. ordered_range low high) (natural most parts.1)) (natural most parts.0)) (cut 45 text)

-- the ranges that the pieces spell, of which the first begins at `least` or above, and each further one leaves a
-- number out
abbrev pub ranges_from : ℕ → List (List ℕ) → Option (List Range)
ranges_from least [] = Some []
ranges_from least (piece ∷ rest) =
    option_and_then (λ range. if nat_le least range.0 then option_map (λ ranges. range ∷ ranges) (ranges_from (range.1 + 2) rest) else None) (range_read piece)

-- the pieces that are left: those of what follows the last comma, and none after the last piece
abbrev pub pieces_left : Option (Bor (List ℕ)) → List (List ℕ)
pieces_left None = []
pieces_left (Some rest) = pieces 44 rest.now

-- the ranges that the text of a set spells
abbrev pub ranges_read : List ℕ → Option (List Range)
ranges_read text = if bytes_eq text (codes "none") then Some [] else ranges_from 0 (pieces 44 text)
