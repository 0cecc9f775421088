-- What streams give of one record, and what a record adds to stores.
use Rattle.std.specs.Prelude.{ℕ, ◌==◌, List, [], ◌∷◌, ◌++◌, map, filter, Option, Some, None, slice_get, if◌then◌else◌}
use Rattle.std.specs.List.{flat_map}
use Rattle.sb_types.specs.Text.{value_text}
use Rattle.sb_types.specs.Value.{Value}
use Rattle.sb_types.specs.ValView.{val_of}
use Rattle.sb_terms.specs.declared.flow.Flow.{Flow}
use Rattle.sb_terms.specs.declared.flow.Flow.TheOpen as layer
use Rattle.sb_terms.specs.declared.flow.Flow.TheOpen.{Flow-F}
use Rattle.sb_terms.specs.declared.flow.Flow.TheFolds.{fold-Flow}
use Rattle.sb_check.specs.Declarations.{Store}
use Rattle.sb_check.specs.Log.{Logged}
use Rattle.sb_check.specs.Programs.{CheckedProgram}
use Rattle.sb_kind.specs.Monoids.{Monoid}
use Rattle.sb_kind.specs.Prepared.{prepared}
use Rattle.sb_kind.specs.declared.agg.Agg.{Agg}
use Rattle.sb_service.specs.Rows.{Rows}
use Rattle.sb_meaning.specs.Expression.{ev}
use Rattle.sb_meaning.specs.Operations.{first_in, second_in, elements_in}
use Rattle.sb_meaning.specs.Streams.{fields_of_record, is_true, join_with, list_at}

-- what a stream gives of a record, by the rows of each service and by what each let before it gives of the record
abbrev pub OfRecord : Type 0
OfRecord = Logged → List Rows → List (List Value) → List Value

-- the record, where it is of this source
abbrev pub of_source : ℕ → Logged → List Value
of_source n r = if r.source == n then fields_of_record r ∷ [] else []

abbrev pub given_layer : Flow-F OfRecord → OfRecord
given_layer (layer.Source n) r services lets = of_source n r
given_layer (layer.Let n) r services lets = list_at n lets
given_layer (layer.Merge a b) r services lets = a r services lets ++ b r services lets
given_layer (layer.Map a e) r services lets = map (ev e) (a r services lets)
given_layer (layer.Filter a e) r services lets = filter (is_true e) (a r services lets)
given_layer (layer.FlatMap a e) r services lets = flat_map (λ v. elements_in (ev e v)) (a r services lets)
given_layer (layer.Join a n) r services lets = map (join_with (list_at n services)) (a r services lets)

-- the values that a stream gives of a record, in their order
abbrev pub given : Flow → OfRecord
given = fold-Flow OfRecord given_layer

-- what lets give of a record, each by those before it
abbrev pub lets_given : Logged → List Rows → List (List Value) → List OfRecord → List (List Value)
lets_given r services done [] = done
lets_given r services done (g ∷ gs) = lets_given r services (done ++ g r services done ∷ []) gs

-- the text of a key and the element that a pair gives
abbrev pub fed : Monoid → Value → List ℕ × Agg
fed m v = (value_text (first_in v), prepared m (val_of (second_in v)))

-- how a store is fed: its monoid, and the texts of keys and the elements that a record gives
pub record Feeding : Type 0 where
  pub monoid : Monoid
  pub gives : Logged → List Rows → List (List Value) → List (List ℕ × Agg)

abbrev pub feeding_of : Store → Feeding
feeding_of s = record { monoid = s.monoid; gives = λ r services lets. map (fed s.monoid) (given s.flow r services lets) }

-- what each let gives of a record, and how each store is fed
pub record Planned : Type 0 where
  pub lets : List OfRecord
  pub stores : List Feeding

abbrev pub planned : CheckedProgram → Planned
planned c = record { lets = map (λ l. given l.stream.flow) c.declared.lets; stores = map feeding_of c.declared.stores }

abbrev pub let_values : Planned → Logged → List Rows → List (List Value)
let_values p r services = lets_given r services [] p.lets

abbrev pub fed_by : Option Feeding → Logged → List Rows → List (List Value) → List (List ℕ × Agg)
fed_by None r services lets = []
fed_by (Some f) r services lets = f.gives r services lets

-- what a record adds to the store of this number, in its order
abbrev pub fed_at : Planned → List Rows → ℕ → Logged → List (List ℕ × Agg)
fed_at p services store r = fed_by (slice_get p.stores store) r services (let_values p r services)
