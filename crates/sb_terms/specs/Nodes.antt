-- Nodes of expressions, each with its term and its type, or with what is wrong with it.
use Rattle.std.specs.Prelude.{ℕ, pos, ◌^◌, nat_lt, Bool, List, map, Option, Ok, Err, if◌then◌else◌}
use Rattle.sb_types.specs.ValueType.{ValueType, ints}
use Rattle.sb_types.specs.TyView.{type_of}
use Rattle.sb_types.specs.declared.values.Val.{Val}
use Rattle.sb_types.specs.declared.values.Val.TheVariants as val
use Rattle.sb_terms.specs.declared.fault.Fault.TheVariants.{TooLarge, TooWide, Mistyped}
use Rattle.sb_terms.specs.declared.term.Single.{Single}
use Rattle.sb_terms.specs.declared.term.Single.TheVariants as single
use Rattle.sb_terms.specs.declared.term.Double.{Double}
use Rattle.sb_terms.specs.declared.term.Term.{Term}
use Rattle.sb_terms.specs.declared.term.Term.TheVariants as term
use Rattle.sb_terms.specs.declared.typed.Typed.{Typed}
use Rattle.sb_terms.specs.Outcome.{Outcome, and_then, or_mistyped}
use Rattle.sb_terms.specs.Sizes.{nodes, leaves, most_nodes, most_leaves}
use Rattle.sb_terms.specs.Tables.{one_type, two_type, if_type, list_type, place_in}

-- an expression with its type
pub record TypedTerm : Type 0 where
  pub term : Term
  pub type : ValueType

abbrev pub typed_of : Typed → TypedTerm
typed_of typed = record { term = typed.term; type = type_of typed.ty }

-- the expression of this type: first its nodes are counted, then its leaves
unfoldable pub sized : Term → ValueType → Outcome TypedTerm
sized e t =
    if nat_lt most_nodes (nodes t) then Err TooLarge
    else (if nat_lt most_leaves (leaves t) then Err TooWide else Ok (record { term = e; type = t }))

abbrev pub node : Term → Option ValueType → Outcome TypedTerm
node e t = and_then (or_mistyped t) (sized e)

abbrev pub one_node : Single → TypedTerm → Outcome TypedTerm
one_node op a = node (term.One op a.term) (one_type op a.type)

abbrev pub two_node : Double → TypedTerm → TypedTerm → Outcome TypedTerm
two_node op a b = node (term.Two op a.term b.term) (two_type op a.type b.type)

abbrev pub if_node : TypedTerm → TypedTerm → TypedTerm → Outcome TypedTerm
if_node c a b = node (term.If c.term a.term b.term) (if_type c.type a.type b.type)

abbrev pub list_of : List Term → List ValueType → Outcome TypedTerm
list_of terms types = node (term.List terms) (list_type types)

abbrev pub list_node : List TypedTerm → Outcome TypedTerm
list_node parts = list_of (map (λ p. p.term) parts) (map (λ p. p.type) parts)

-- a constant of this type
abbrev pub constant_node : Val → ValueType → Outcome TypedTerm
constant_node v t = sized (term.Constant v) t

-- the numbers of a program are below 2^63
abbrev pub is_number : ℕ → Bool
is_number n = nat_lt n (2 ^ 63)

abbrev pub int_node : ℕ → Outcome TypedTerm
int_node n = if is_number n then constant_node (val.Int (pos n)) ints else Err Mistyped

-- a field goes by its place
abbrev pub field_node : List ℕ → TypedTerm → Outcome TypedTerm
field_node name a =
    and_then (or_mistyped (place_in name a.type)) (λ place. one_node (single.Field place) a)
