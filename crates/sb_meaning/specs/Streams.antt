-- Streams: lists of values at positions, over the whole log.
use Rattle.std.specs.Prelude.{ℕ, zero, suc, ◌==◌, Bool, nat_lt, List, [], ◌∷◌, ◌++◌, map, filter, Option, Some, None, if◌then◌else◌}
use Rattle.std.specs.List.{flat_map}
use Rattle.sb_types.specs.Value.{Value, pair, none, some, rec, values_of}
use Rattle.sb_types.specs.ValView.{value_of}
use Rattle.sb_types.specs.declared.values.Val.{Val}
use Rattle.sb_terms.specs.declared.term.Term.{Term}
use Rattle.sb_terms.specs.declared.flow.Flow.{Flow}
use Rattle.sb_terms.specs.declared.flow.Flow.TheOpen as layer
use Rattle.sb_terms.specs.declared.flow.Flow.TheOpen.{Flow-F}
use Rattle.sb_terms.specs.declared.flow.Flow.TheFolds.{fold-Flow}
use Rattle.sb_check.specs.Log.{Logged}
use Rattle.sb_service.specs.Rows.{Rows, row_of}
use Rattle.sb_meaning.specs.Expression.{ev}
use Rattle.sb_meaning.specs.Operations.{truth_in, first_in, second_in, elements_in}

-- a value at the position of the record that gave it
abbrev pub Placed : Type 0
Placed = ℕ × Value

abbrev pub at_of : ℕ × Val → Placed
at_of x = (x.0, value_of x.1)

-- ---- sources

abbrev pub fields_of_record : Logged → Value
fields_of_record r = rec (values_of r.fields)

-- the records of a source
abbrev pub records : ℕ → List Logged → List Placed
records source log = map (λ r. (r.position, fields_of_record r)) (filter (λ r. r.source == source) log)

-- ---- each value in its place

abbrev pub mapped : Term → List Placed → List Placed
mapped e = map (λ x. (x.0, ev e x.1))

abbrev pub is_true : Term → Value → Bool
is_true e v = truth_in (ev e v)

-- the values of which the expression is true
abbrev pub filtered : Term → List Placed → List Placed
filtered e = filter (λ x. is_true e x.1)

abbrev pub elements_at : ℕ → Value → List Placed
elements_at position v = map (λ element. (position, element)) (elements_in v)

-- the elements of each list, in their order
abbrev pub flat_mapped : Term → List Placed → List Placed
flat_mapped e = flat_map (λ x. elements_at x.0 (ev e x.1))

-- ---- joins

abbrev pub option_value : Option Value → Value
option_value None = none
option_value (Some v) = some v

-- a pair with what the rows have at its key
abbrev pub join_with : Rows → Value → Value
join_with rows v = pair (first_in v) (pair (second_in v) (option_value (row_of (first_in v) rows)))

abbrev pub joined : Rows → List Placed → List Placed
joined rows = map (λ x. (x.0, join_with rows x.1))

-- the list of this number, and an empty one where there is none
abbrev pub list_at : {A : Type 0} → ℕ → List (List A) → List A
list_at n [] = []
list_at zero (xs ∷ lists) = xs
list_at (suc n) (xs ∷ lists) = list_at n lists

-- ---- the stable merge

-- the values at the front that are before a position, and those from the first on that isn't
abbrev pub before : ℕ → List Placed → List Placed
before position [] = []
before position (y ∷ ys) = if nat_lt y.0 position then y ∷ before position ys else []

abbrev pub behind : ℕ → List Placed → List Placed
behind position [] = []
behind position (y ∷ ys) = if nat_lt y.0 position then behind position ys else y ∷ ys

-- two lists in one, by position: each left value stands behind the right ones of earlier positions
abbrev pub merged : List Placed → List Placed → List Placed
merged [] ys = ys
merged (x ∷ xs) ys = before x.0 ys ++ x ∷ merged xs (behind x.0 ys)

-- ---- streams

-- what a stream is over a log, the rows of each service, and the lists of the lets before it
abbrev pub Meaning : Type 0
Meaning = List Logged → List Rows → List (List Placed) → List Placed

-- one layer, in which each stage before has a list already
abbrev pub flow_layer : Flow-F Meaning → Meaning
flow_layer (layer.Source n) log services lets = records n log
flow_layer (layer.Let n) log services lets = list_at n lets
flow_layer (layer.Merge a b) log services lets = merged (a log services lets) (b log services lets)
flow_layer (layer.Map a e) log services lets = mapped e (a log services lets)
flow_layer (layer.Filter a e) log services lets = filtered e (a log services lets)
flow_layer (layer.FlatMap a e) log services lets = flat_mapped e (a log services lets)
flow_layer (layer.Join a n) log services lets = joined (list_at n services) (a log services lets)

-- the list of a stream
abbrev pub stream_of : Flow → Meaning
stream_of = fold-Flow Meaning flow_layer

-- the lists of lets, each over those before it
abbrev pub lets_of : List Logged → List Rows → List (List Placed) → List Flow → List (List Placed)
lets_of log services done [] = done
lets_of log services done (f ∷ fs) = lets_of log services (done ++ stream_of f log services done ∷ []) fs
