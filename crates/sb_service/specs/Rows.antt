-- The rows of a service.
use Rattle.std.specs.Prelude.{ℕ, ◌&&◌, nat_le, List, [], ◌∷◌, length, Option, None, option_map, option_and_then, if◌then◌else◌, Some}
use Rattle.std.specs.BTreeMap.{is_at}
use Rattle.std.specs.Map.{lookup}
use Rattle.sb_text.specs.Columns.{columns_of}
use Rattle.sb_text.specs.Lines.{Line}
use Rattle.sb_types.specs.Order.{value_cmp}
use Rattle.sb_types.specs.Value.{Value}
use Rattle.sb_types.specs.ValueType.{ValueType}
use Rattle.sb_service.specs.Fields.{value_in}

-- the most bytes of a line, without its LF
abbrev pub most_line_bytes : ℕ
most_line_bytes = 16384

-- a row is a key and the value that the service has at it
abbrev pub Row : Type 0
Row = Value × Value

-- the rows of a service stand in rising order of their keys, and no two have one key
abbrev pub Rows : Type 0
Rows = List Row

-- the value of the row that has this key
abbrev pub row_of : Value → Rows → Option Value
row_of key rows = lookup (is_at (value_cmp key)) rows

-- ---- lines

-- the row in these columns, where there are two, and each is a field of its type
abbrev pub row_in : ValueType → ValueType → List (List ℕ) → Option Row
row_in key value [] = None
row_in key value (first ∷ []) = None
row_in key value (first ∷ second ∷ []) =
    option_and_then (λ k. option_map (λ v. (k, v)) (value_in value second)) (value_in key first)
row_in key value (first ∷ second ∷ third ∷ others) = None

-- the row that a line says
abbrev pub row_on : ValueType → ValueType → Line → Option Row
row_on key value line =
    if nat_le (length line.bytes) most_line_bytes && line.ended then row_in key value (columns_of line.bytes) else None

-- ---- the lines in their order

abbrev pub onto_rows : Option Row → Rows → Rows
onto_rows None rows = rows
onto_rows (Some row) rows = row ∷ rows

-- the rows that lines say, in the order of the lines
abbrev pub rows_said : ValueType → ValueType → List Line → Rows
rows_said key value [] = []
rows_said key value (line ∷ lines) = onto_rows (row_on key value line) (rows_said key value lines)
