-- The elements that hold values of a type.
use Rattle.std.specs.Prelude.{◌≡◌, ℕ, ℤ, List, FitsSigned, IsUtf8}
use Rattle.std.specs.Int.{w64}
use Rattle.std.specs.List.{AllByRecursion}
use Rattle.sb_types.specs.Typed.{IsValueOf}
use Rattle.sb_types.specs.ValueType.{ValueType, pairs as pair_types}
use Rattle.sb_types.specs.ValView.{value_of}
use Rattle.sb_types.specs.declared.values.Val.{Val}
use Rattle.sb_kind.specs.Elements.{value_in, values_in, scored_in, left_in, right_in, entries_in}
use Rattle.sb_kind.specs.Monoids.{Monoid, sums, least, greatest, firsts, lasts, concats, sets, tops, sketches, registers, pairs, maps}
use Rattle.sb_kind.specs.declared.agg.Agg.{Agg}

abbrev pub IsVal : ValueType → Val → Type 0
IsVal t v = IsValueOf t (value_of v)

-- a score is an i64, and an item is UTF-8
abbrev pub IsScored : ℤ × List ℕ → Type 0
IsScored item = FitsSigned w64 item.0 × IsUtf8 item.1

-- an element of the monoid whose values are of this type, or whose keys and parts are of the two types of a pair;
-- numbers and sketches hold no values, and a top holds scores and texts whatever the type
abbrev pub IsTyped : Monoid → ValueType → Agg → Type 0
IsTyped sums t a = Unit {0}
IsTyped least t a = Unit {0}
IsTyped greatest t a = Unit {0}
IsTyped firsts t a = IsVal t (value_in a)
IsTyped lasts t a = IsVal t (value_in a)
IsTyped concats t a = AllByRecursion (IsVal t) (values_in a)
IsTyped sets t a = AllByRecursion (IsVal t) (values_in a)
IsTyped (tops k) t a = AllByRecursion IsScored (scored_in a)
IsTyped (sketches d w) t a = Unit {0}
IsTyped (registers b) t a = Unit {0}
IsTyped (pairs m n) t a = (b : ValueType) × (c : ValueType) × (t ≡ pair_types b c) × (IsTyped m b (left_in a) × IsTyped n c (right_in a))
IsTyped (maps m) t a = (b : ValueType) × (c : ValueType) × (t ≡ pair_types b c) × AllByRecursion (λ entry. IsVal b entry.0 × IsTyped m c entry.1) (entries_in a)
