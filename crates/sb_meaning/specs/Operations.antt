-- What operations do with values. Of values of another type than its own an operation's answer is any value.
use Rattle.std.specs.Prelude.{ℕ, zero, suc, ◌-◌, ◌^◌, min, ℤ, pos, Bool, true, false, ◌&&◌, ◌||◌, not, List, [], length, map, nat_eq, int_lt, Option, Some, None, if◌then◌else◌}
use Rattle.std.specs.Borrow.{Bor}
use Rattle.std.specs.declared.cmp.Ordering.{Ordering}
use Rattle.std.specs.Ordering.{is_lt, is_eq, is_gt}
use Rattle.std.specs.List.{starts_with}
use Rattle.std.specs.Int.{w64, int_wrapping_add, int_wrapping_sub, int_wrapping_mul, int_wrapping_neg, int_div_euclid, int_rem_euclid}
use Rattle.sb_types.specs.Order.{value_cmp}
use Rattle.sb_types.specs.Value.{Value, Values, int, text, truth, pair, some, list, rec, end, more, values_of, items_of}
use Rattle.sb_types.specs.ValView.{value_of}
use Rattle.sb_types.specs.declared.values.Val.{Val}
use Rattle.sb_terms.specs.declared.term.Comparison.{Comparison}
use Rattle.sb_terms.specs.declared.term.Comparison.TheVariants as comparison
use Rattle.sb_terms.specs.declared.term.Single.{Single}
use Rattle.sb_terms.specs.declared.term.Single.TheVariants as single
use Rattle.sb_terms.specs.declared.term.Double.{Double}
use Rattle.sb_terms.specs.declared.term.Double.TheVariants as double
use Rattle.sb_meaning.specs.Words.{lowered, words_of}

abbrev pub number_in : Value → ℤ
number_in (int n) = n
number_in v = pos 0

abbrev pub bytes_in : Value → List ℕ
bytes_in (text t) = t
bytes_in v = []

abbrev pub truth_in : Value → Bool
truth_in (truth b) = b
truth_in v = false

abbrev pub first_in : Value → Value
first_in (pair v w) = v
first_in v = int (pos 0)

abbrev pub second_in : Value → Value
second_in (pair v w) = w
second_in v = int (pos 0)

abbrev pub nth : ℕ → Values → Value
nth n end = int (pos 0)
nth zero (more v vs) = v
nth (suc n) (more v vs) = nth n vs

-- the field at a place of a record, from 0
abbrev pub field_in : ℕ → Value → Value
field_in n (rec vs) = nth n vs
field_in n v = int (pos 0)

abbrev pub is_something : Value → Bool
is_something (some v) = true
is_something v = false

abbrev pub elements_in : Value → List Value
elements_in (list vs) = items_of vs
elements_in v = []

-- the bytes of a text, or the elements of a list, counted
abbrev pub size_in : Value → ℕ
size_in (text t) = length t
size_in (list vs) = length (items_of vs)
size_in v = 0

-- no text and no list in memory is longer than an i64 can say
abbrev pub length_in : Value → ℤ
length_in v = pos (min (size_in v) (2 ^ 63 - 1))

-- what is in the option, else the other value
abbrev pub in_or : Value → Value → Value
in_or (some v) other = v
in_or v other = other

-- the floor of the quotient, and what it leaves; a divisor is above 0
abbrev pub quotient : ℤ → ℤ → ℤ
quotient a n = if int_lt (pos 0) n then int_div_euclid a n else pos 0

abbrev pub remainder : ℤ → ℤ → ℤ
remainder a n = if int_lt (pos 0) n then int_rem_euclid a n else pos 0

-- the value of a part that is lent, and 0 where there is none
abbrev pub part_value : Option (Bor Val) → Value
part_value None = int (pos 0)
part_value (Some part) = value_of part.now

-- what is done with one value
abbrev pub one : Single → Value → Value
one single.First v = first_in v
one single.Second v = second_in v
one (single.Field place) v = field_in place v
one single.Wrap v = some v
one single.Has v = truth (is_something v)
one single.Lower v = text (lowered (bytes_in v))
one (single.Words most) v = list (values_of (map text (words_of most (bytes_in v))))
one single.Len v = int (length_in v)
one single.Not v = truth (not (truth_in v))
one single.Minus v = int (int_wrapping_neg w64 (number_in v))
one (single.Over n) v = int (quotient (number_in v) n)
one (single.Modulo n) v = int (remainder (number_in v) n)

-- whether an order of two values is the one that is asked for
abbrev pub is_so : Comparison → Ordering → Bool
is_so comparison.Equal order = is_eq order
is_so comparison.Unequal order = not (is_eq order)
is_so comparison.Less order = is_lt order
is_so comparison.AtMost order = not (is_gt order)
is_so comparison.Greater order = is_gt order
is_so comparison.AtLeast order = not (is_lt order)

-- what of two values makes a truth or a number
abbrev pub plain : Double → Value → Value → Value
plain double.Pair v w = int (pos 0)
plain double.Orelse v w = int (pos 0)
plain double.Starts v w = truth (starts_with nat_eq (bytes_in v) (bytes_in w))
plain double.Or v w = truth (truth_in v || truth_in w)
plain double.And v w = truth (truth_in v && truth_in w)
plain (double.Compare op) v w = truth (is_so op (value_cmp v w))
plain double.Plus v w = int (int_wrapping_add w64 (number_in v) (number_in w))
plain double.Minus v w = int (int_wrapping_sub w64 (number_in v) (number_in w))
plain double.Times v w = int (int_wrapping_mul w64 (number_in v) (number_in w))

-- what is done with two values
abbrev pub two : Double → Value → Value → Value
two double.Pair v w = pair v w
two double.Orelse v w = in_or v w
two op v w = plain op v w
