-- The types of expressions, by the types of their parts: a table for each number of parts. None is
-- where there is no type.
use Rattle.std.specs.Prelude.{ℕ, zero, suc, ◌+◌, List, [], ◌∷◌, length, Option, Some, None, option_map, option_and_then, if◌then◌else◌, bytes_eq}
use Rattle.sb_types.specs.ValueType.{ValueType, ints, texts, truths, pairs, options, lists, records, Fields, no_field, field}
use Rattle.sb_terms.specs.declared.term.Single.{Single}
use Rattle.sb_terms.specs.declared.term.Single.TheVariants as single
use Rattle.sb_terms.specs.declared.term.Double.{Double}
use Rattle.sb_terms.specs.declared.term.Double.TheVariants as double
use Rattle.sb_terms.specs.Agreement.{joined}

-- the place of the first field of this name
abbrev pub field_place : List ℕ → Fields → Option ℕ
field_place name no_field = None
field_place name (field other t fields) =
    if bytes_eq name other then Some 0 else option_map (λ n. n + 1) (field_place name fields)

abbrev pub place_in : List ℕ → ValueType → Option ℕ
place_in name (records fields) = field_place name fields
place_in name _ = None

-- the type of the field at a place
abbrev pub field_type : ℕ → Fields → Option ValueType
field_type n no_field = None
field_type zero (field name t fields) = Some t
field_type (suc n) (field name t fields) = field_type n fields

abbrev pub one_type : Single → ValueType → Option ValueType
one_type single.First (pairs a b) = Some a
one_type single.Second (pairs a b) = Some b
one_type (single.Field place) (records fields) = field_type place fields
one_type single.Wrap t = Some (options t)
one_type single.Has (options t) = Some truths
one_type single.Lower texts = Some texts
one_type (single.Words most) texts = Some (lists texts most)
one_type single.Len texts = Some ints
one_type single.Len (lists t most) = Some ints
one_type single.Not truths = Some truths
one_type single.Minus ints = Some ints
one_type (single.Over n) ints = Some ints
one_type (single.Modulo n) ints = Some ints
one_type _ _ = None

-- values of types that agree are compared
abbrev pub compared : ValueType → ValueType → Option ValueType
compared a b = option_map (λ joint. truths) (joined a b)

abbrev pub two_type : Double → ValueType → ValueType → Option ValueType
two_type double.Pair a b = Some (pairs a b)
two_type double.Orelse (options a) b = joined a b
two_type double.Starts texts texts = Some truths
two_type double.Or truths truths = Some truths
two_type double.And truths truths = Some truths
two_type (double.Compare comparison) a b = compared a b
two_type double.Plus ints ints = Some ints
two_type double.Minus ints ints = Some ints
two_type double.Times ints ints = Some ints
two_type _ _ _ = None

-- of a test and the two values that it chooses from
abbrev pub if_type : ValueType → ValueType → ValueType → Option ValueType
if_type truths a b = joined a b
if_type _ a b = None

-- the join of a type with others, from the left
abbrev pub joined_with : ValueType → List ValueType → Option ValueType
joined_with t [] = Some t
joined_with t (u ∷ us) = option_and_then (λ joint. joined_with joint us) (joined t u)

-- of a list of parts of these types, at most as many as there are
abbrev pub list_type : List ValueType → Option ValueType
list_type [] = None
list_type (t ∷ ts) = option_map (λ joint. lists joint (length ts + 1)) (joined_with t ts)
