-- Nodes of streams, each with its flow, its type and its width, or with what is wrong with it.
use Rattle.std.specs.Prelude.{ℕ, ◌+◌, ◌*◌, nat_lt, Option, Some, None, option_map, Ok, Err, if◌then◌else◌}
use Rattle.sb_types.specs.ValueType.{ValueType, truths, pairs, options, lists}
use Rattle.sb_terms.specs.declared.fault.Fault.{Fault}
use Rattle.sb_terms.specs.declared.fault.Fault.TheVariants.{TooLarge, TooWide}
use Rattle.sb_terms.specs.declared.flow.Flow.{Flow}
use Rattle.sb_terms.specs.declared.flow.Flow.TheVariants as flow
use Rattle.sb_terms.specs.Agreement.{joined}
use Rattle.sb_terms.specs.Nodes.{TypedTerm}
use Rattle.sb_terms.specs.Outcome.{Outcome, and_then, or_mistyped}
use Rattle.sb_terms.specs.Sizes.{nodes, leaves, most_nodes, most_leaves}
use Rattle.sb_check.specs.Declarations.{TypedFlow, Service}

-- what is too much in a stream of this width and this type
unfoldable pub size_fault : ℕ → ValueType → Option Fault
size_fault w t =
    if nat_lt most_nodes (nodes t) then Some TooLarge
    else (if nat_lt most_leaves (w * leaves t) then Some TooWide else None)

-- what follows, where there is no fault before it
abbrev pub unless : {A : Type 0} → Option Fault → Outcome A → Outcome A
unless None next = next
unless (Some fault) next = Err fault

-- the stream, where it isn't too large or too wide
abbrev pub flow_sized : Flow → ℕ → ValueType → Outcome TypedFlow
flow_sized f w t = unless (size_fault w t) (Ok (record { flow = f; type = t; width = w }))

abbrev pub flow_node : Flow → ℕ → Option ValueType → Outcome TypedFlow
flow_node f w t = and_then (or_mistyped t) (flow_sized f w)

-- a test leaves the type as it is
abbrev pub filtered : ValueType → ValueType → Option ValueType
filtered t truths = Some t
filtered t _ = None

-- the type of a list's elements, and how many there are at most
abbrev pub elements : ValueType → Option (ValueType × ℕ)
elements (lists t most) = Some (t, most)
elements _ = None

-- pairs whose key is the service's get, beside their value, what the service may have at the key
abbrev pub join_type : Service → ValueType → Option ValueType
join_type s (pairs k v) = option_map (λ same. pairs k (pairs v (options s.value))) (joined k s.key)
join_type s _ = None

abbrev pub map_node : TypedFlow → TypedTerm → Outcome TypedFlow
map_node s e = flow_node (flow.Map s.flow e.term) s.width (Some e.type)

abbrev pub filter_node : TypedFlow → TypedTerm → Outcome TypedFlow
filter_node s e = flow_node (flow.Filter s.flow e.term) s.width (filtered s.type e.type)

abbrev pub flat_node : TypedFlow → TypedTerm → Outcome TypedFlow
flat_node s e =
    and_then (or_mistyped (elements e.type))
    (λ of. flow_sized (flow.FlatMap s.flow e.term) (s.width * of.1) of.0)

abbrev pub join_node : TypedFlow → ℕ × Service → Outcome TypedFlow
join_node s service = flow_node (flow.Join s.flow service.0) s.width (join_type service.1 s.type)

abbrev pub merge_node : TypedFlow → TypedFlow → Outcome TypedFlow
merge_node a b = flow_node (flow.Merge a.flow b.flow) (a.width + b.width) (joined a.type b.type)
