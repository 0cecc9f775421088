-- What a store's stream emits, over the whole log.
use Rattle.std.specs.Prelude.{ℕ, List, [], map, Option, Some, None, slice_get}
use Rattle.sb_types.specs.Value.{Value}
use Rattle.sb_types.specs.ValView.{value_of, val_of}
use Rattle.sb_kind.specs.Monoids.{Monoid, sums}
use Rattle.sb_kind.specs.Prepared.{prepared}
use Rattle.sb_kind.specs.declared.agg.Agg.{Agg}
use Rattle.sb_check.specs.Declarations.{Store}
use Rattle.sb_check.specs.Log.{Logged, logged_of}
use Rattle.sb_check.specs.LogView.{view_log}
use Rattle.sb_check.specs.declared.log.Log.{Log}
use Rattle.sb_check.specs.Programs.{CheckedProgram}
use Rattle.sb_service.specs.Rows.{Rows}
use Rattle.sb_meaning.specs.Operations.{first_in, second_in}
use Rattle.sb_meaning.specs.Streams.{Placed, stream_of, lets_of}
use Rattle.sb_meaning.specs.declared.emissions.Emitted.{Emitted}

-- the position of a record, a key, and the element that the value at it gives
pub record Emission : Type 0 where
  pub position : ℕ
  pub key : Value
  pub value : Agg

abbrev pub emission_of : Emitted → Emission
emission_of e = record { position = e.position; key = value_of e.key; value = e.value }

-- the records of a log
abbrev pub logged_in : Log → List Logged
logged_in log = map logged_of (view_log log).records

-- what a pair of a key and a value gives
abbrev pub emission : Monoid → Placed → Emission
emission m x = record { position = x.0; key = first_in x.1; value = prepared m (val_of (second_in x.1)) }

-- the streams of the program's lets
abbrev pub let_lists : CheckedProgram → List Logged → List Rows → List (List Placed)
let_lists c log services = lets_of log services [] (map (λ l. l.stream.flow) c.declared.lets)

abbrev pub emissions_into : CheckedProgram → List Logged → List Rows → Option Store → List Emission
emissions_into c log services None = []
emissions_into c log services (Some s) = map (emission s.monoid) (stream_of s.flow log services (let_lists c log services))

-- the emissions into the store of this number, in the order of the log
abbrev pub emissions : CheckedProgram → List Logged → List Rows → ℕ → List Emission
emissions c log services store = emissions_into c log services (slice_get c.declared.stores store)

abbrev pub monoid_in : Option Store → Monoid
monoid_in None = sums
monoid_in (Some s) = s.monoid

-- the monoid of the store of this number
abbrev pub monoid_at : CheckedProgram → ℕ → Monoid
monoid_at c store = monoid_in (slice_get c.declared.stores store)
