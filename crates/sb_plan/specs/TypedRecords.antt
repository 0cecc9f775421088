-- Records, rows and what lets give, of the types that a program declares. What holds of texts is a premise.
use Rattle.std.specs.Prelude.{◌≤◌, ℕ, List, length, slice_get, IfSome}
use Rattle.std.specs.List.{AllByRecursion}
use Rattle.sb_types.specs.Value.{Value}
use Rattle.sb_types.specs.ValueType.{records}
use Rattle.sb_service.specs.Rows.{Rows}
use Rattle.sb_check.specs.Declarations.{Declarations}
use Rattle.sb_check.specs.Log.{Logged}
use Rattle.sb_meaning.specs.Streams.{fields_of_record, list_at}
use Rattle.sb_meaning.specs.Shaped.{IsValueWith}

-- the fields of the record are of the types that its source says
abbrev pub IsDeclared : (List ℕ → Type 0) → Declarations → Logged → Type 0
IsDeclared P d r = IfSome (slice_get d.sources r.source) (λ s. IsValueWith P (records s.fields) (fields_of_record r))

-- the rows of each service are of its types
abbrev pub AreRowsOf : (List ℕ → Type 0) → Declarations → List Rows → Type 0
AreRowsOf P d services =
    (n : ℕ) → IfSome (slice_get d.services n) (λ s. AllByRecursion (λ row. IsValueWith P s.key row.0 × IsValueWith P s.value row.1) (list_at n services))

-- each let gives values of its type, and no more than its width says
abbrev pub AreLetsOf : (List ℕ → Type 0) → Declarations → List (List Value) → Type 0
AreLetsOf P d lets =
    (n : ℕ) → IfSome (slice_get d.lets n) (λ l. AllByRecursion (IsValueWith P l.stream.type) (list_at n lets) × (length (list_at n lets) ≤ l.stream.width))
