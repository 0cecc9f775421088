-- What contracts see of the rows that are held.
use Rattle.std.specs.Prelude.{◌≡◌, ◌≢◌, map, Result, Ok, Err}
use Rattle.std.specs.BTreeMap.{BTreeMap}
use Rattle.sb_types.specs.ValView.{value_of}
use Rattle.sb_types.specs.declared.values.Val.{Val}
use Rattle.sb_service.specs.Adding.{PlacedRows, PlacedValue, unplaced}
use Rattle.sb_service.specs.Rows.{Row, Rows}
use Rattle.sb_service.specs.declared.rows.Placed.{Placed}
use Rattle.sb_service.specs.declared.service.Service.{Service}
use Rattle.sb_service.specs.declared.service_error.ServiceError.{ServiceError}
use Rattle.sb_service.specs.declared.service_error.ServiceError.TheVariants.{NoMemory}

abbrev pub row_view : Val × Val → Row
row_view row = (value_of row.0, value_of row.1)

abbrev pub placed_value : Placed → PlacedValue
placed_value row = record { value = value_of row.value; line = row.line }

abbrev pub placed_view : BTreeMap Val Placed → PlacedRows
placed_view rows = map (λ row. (value_of row.0, placed_value row.1)) rows.entries

-- the rows of a service
abbrev pub view_service : Service → Rows
view_service service = unplaced (placed_view service.rows)

-- the rows after a line are those that are due; want of memory is free
abbrev pub Adds : Result PlacedRows ServiceError → BTreeMap Val Placed → Result (Unit {0}) ServiceError → Type 0
Adds due after (Ok done) = due ≡ Ok (placed_view after)
Adds due after (Err e) = e ≢ NoMemory → due ≡ Err e
