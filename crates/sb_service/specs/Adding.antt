-- A service's text: its rows line by line, or its first fault.
use Rattle.std.specs.Prelude.{ℕ, List, [], ◌∷◌, map, Option, Some, None, option_map, Result, Ok, Err}
use Rattle.std.specs.BTreeMap.{insert_entry, is_at}
use Rattle.std.specs.Map.{lookup}
use Rattle.sb_text.specs.Lines.{Line, lines_of}
use Rattle.sb_types.specs.Order.{value_cmp}
use Rattle.sb_types.specs.Value.{Value}
use Rattle.sb_types.specs.ValueType.{ValueType}
use Rattle.sb_service.specs.Rows.{Row, Rows, row_on}
use Rattle.sb_service.specs.declared.service_error.ServiceError.{ServiceError}
use Rattle.sb_service.specs.declared.service_error.ServiceError.TheVariants.{BadRow, TwiceKey}

-- the value of a row, and the number of its line
pub record PlacedValue : Type 0 where
  pub value : Value
  pub line : ℕ

-- the rows so far, in rising order of their keys
abbrev pub PlacedRows : Type 0
PlacedRows = List (Value × PlacedValue)

abbrev pub unplaced : PlacedRows → Rows
unplaced = map (λ row. (row.0, row.1.value))

-- the line of the row that has this key
abbrev pub line_of : Value → PlacedRows → Option ℕ
line_of key rows = option_map (λ row. row.line) (lookup (is_at (value_cmp key)) rows)

-- the row of a line goes to its place, where no earlier line has its key
abbrev pub row_placed : ℕ → PlacedRows → Row → Option ℕ → Result PlacedRows ServiceError
row_placed line rows row (Some first) = Err (TwiceKey line first)
row_placed line rows row None =
    Ok (insert_entry value_cmp rows row.0 (record { value = row.1; line = line }))

abbrev pub row_added : ℕ → PlacedRows → Row → Result PlacedRows ServiceError
row_added line rows row = row_placed line rows row (line_of row.0 rows)

abbrev pub line_added : ℕ → PlacedRows → Option Row → Result PlacedRows ServiceError
line_added line rows None = Err (BadRow line)
line_added line rows (Some row) = row_added line rows row

abbrev pub and_then : {A B : Type 0} → Result A ServiceError → (A → Result B ServiceError) → Result B ServiceError
and_then (Ok a) f = f a
and_then (Err e) f = Err e

-- these rows with those of the lines; the first line with a fault decides
abbrev pub lines_added : ValueType → ValueType → PlacedRows → List Line → Result PlacedRows ServiceError
lines_added key value rows [] = Ok rows
lines_added key value rows (line ∷ lines) =
    and_then (line_added line.number rows (row_on key value line)) (λ more. lines_added key value more lines)

-- the rows of a text, whose fields are of these types, or its first fault
abbrev pub service_of : ValueType → ValueType → List ℕ → Result Rows ServiceError
service_of key value bytes = and_then (lines_added key value [] (lines_of bytes)) (λ rows. Ok (unplaced rows))
