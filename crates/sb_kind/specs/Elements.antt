-- The elements of each monoid, and their plus.
use Rattle.std.specs.Prelude.{◌≡◌, ◌++◌, ℕ, ℤ, pos, List, [], FitsSigned}
use Rattle.std.specs.Int.{w64, int_wrapping_add, int_min, int_max}
use Rattle.std.specs.Ordering.{nat_cmp, on}
use Rattle.std.specs.Cmp.Lexicographic.{slice_cmp}
use Rattle.std.specs.declared.cmp.Ordering.{Ordering}
use Rattle.sb_types.specs.Order.{value_cmp}
use Rattle.sb_types.specs.ValView.{value_of}
use Rattle.sb_types.specs.declared.values.Val.{Val, Int}
use Rattle.sb_gather.specs.Entries.{AreEntries, entry_added}
use Rattle.sb_gather.specs.Maps.{AnyKey, union, by_key, values_added, maps_added}
use Rattle.sb_gather.specs.Tops.{by_rank, IsTop, first_of_both}
use Rattle.sb_sketch.specs.Cells.{counts_added, greatest_of_both}
use Rattle.sb_sketch.specs.Cms.{AreCounts}
use Rattle.sb_sketch.specs.Hll.{AreRegisters}
use Rattle.sb_kind.specs.Monoids.{Monoid, sums, least, greatest, firsts, lasts, concats, sets, tops, sketches, registers, pairs, maps}
use Rattle.sb_kind.specs.declared.agg.Agg.{Agg, out-Agg, Sum, Min, Max, First, Last, Concat, Set, Top, Cms, Hll, Pair, Map}
use Rattle.sb_kind.specs.declared.agg.Agg.TheOpen as layer
use Rattle.sb_kind.specs.declared.agg.Agg.TheOpen.{Agg-F}

-- the orders of values, and of texts
abbrev pub val_cmp : Val → Val → Ordering
val_cmp = on value_of value_cmp

abbrev pub text_cmp : List ℕ → List ℕ → Ordering
text_cmp = slice_cmp nat_cmp

abbrev number_layer : Agg-F Agg → ℤ
number_layer (layer.Sum n) = n
number_layer (layer.Min n) = n
number_layer (layer.Max n) = n
number_layer other = pos 0

-- the number of a sum, a least or a greatest
abbrev pub number_in : Agg → ℤ
number_in a = number_layer (out-Agg a)

abbrev value_layer : Agg-F Agg → Val
value_layer (layer.First v) = v
value_layer (layer.Last v) = v
value_layer other = Int (pos 0)

-- the value of a first or a last
abbrev pub value_in : Agg → Val
value_in a = value_layer (out-Agg a)

abbrev values_layer : Agg-F Agg → List Val
values_layer (layer.Concat vs) = vs
values_layer (layer.Set vs) = vs
values_layer other = []

-- the values of a list or a set
abbrev pub values_in : Agg → List Val
values_in a = values_layer (out-Agg a)

abbrev scored_layer : Agg-F Agg → List (ℤ × List ℕ)
scored_layer (layer.Top items) = items
scored_layer other = []

-- the scored items of a top
abbrev pub scored_in : Agg → List (ℤ × List ℕ)
scored_in a = scored_layer (out-Agg a)

abbrev cells_layer : Agg-F Agg → List ℕ
cells_layer (layer.Cms cells) = cells
cells_layer other = []

-- the cells of a count-min sketch
abbrev pub cells_in : Agg → List ℕ
cells_in a = cells_layer (out-Agg a)

abbrev registers_layer : Agg-F Agg → List ℕ
registers_layer (layer.Hll items) = items
registers_layer other = []

-- the registers of a HyperLogLog
abbrev pub registers_in : Agg → List ℕ
registers_in a = registers_layer (out-Agg a)

abbrev pub left_layer : Agg-F Agg → Agg
left_layer (layer.Pair x y) = x
left_layer other = Sum (pos 0)

abbrev pub right_layer : Agg-F Agg → Agg
right_layer (layer.Pair x y) = y
right_layer other = Sum (pos 0)

-- the parts of a pair
abbrev pub left_in : Agg → Agg
left_in a = left_layer (out-Agg a)

abbrev pub right_in : Agg → Agg
right_in a = right_layer (out-Agg a)

abbrev pub entries_layer : Agg-F Agg → List (Val × Agg)
entries_layer (layer.Map entries) = entries
entries_layer other = []

-- the keys of a map with their parts
abbrev pub entries_in : Agg → List (Val × Agg)
entries_in a = entries_layer (out-Agg a)

-- the elements of a monoid: each is of the monoid's variant, and what it holds is valid
abbrev pub IsOf : Monoid → Agg → Type 0
IsOf sums a = (a ≡ Sum (number_in a)) × FitsSigned w64 (number_in a)
IsOf least a = (a ≡ Min (number_in a)) × FitsSigned w64 (number_in a)
IsOf greatest a = (a ≡ Max (number_in a)) × FitsSigned w64 (number_in a)
IsOf firsts a = a ≡ First (value_in a)
IsOf lasts a = a ≡ Last (value_in a)
IsOf concats a = a ≡ Concat (values_in a)
IsOf sets a = (a ≡ Set (values_in a)) × AreEntries val_cmp AnyKey (values_in a)
IsOf (tops k) a = (a ≡ Top (scored_in a)) × IsTop (by_rank text_cmp) k (scored_in a)
IsOf (sketches d w) a = (a ≡ Cms (cells_in a)) × AreCounts (record { rows = d; width = w }) (cells_in a)
IsOf (registers b) a = (a ≡ Hll (registers_in a)) × AreRegisters b (registers_in a)
IsOf (pairs m n) a = (a ≡ Pair (left_in a) (right_in a)) × IsOf m (left_in a) × IsOf n (right_in a)
IsOf (maps m) a = (a ≡ Map (entries_in a)) × AreEntries (by_key val_cmp) (λ entry. IsOf m entry.1) (entries_in a)

-- two elements of a monoid added
abbrev pub plus : Monoid → Agg → Agg → Agg
plus sums a b = Sum (int_wrapping_add w64 (number_in a) (number_in b))
plus least a b = Min (int_min (number_in a) (number_in b))
plus greatest a b = Max (int_max (number_in a) (number_in b))
plus firsts a b = a
plus lasts a b = b
plus concats a b = Concat (values_in a ++ values_in b)
plus sets a b = Set (union val_cmp (values_in a) (values_in b))
plus (tops k) a b = Top (first_of_both (by_rank text_cmp) k (scored_in a) (scored_in b))
plus (sketches d w) a b = Cms (counts_added (cells_in a) (cells_in b))
plus (registers r) a b = Hll (greatest_of_both (registers_in a) (registers_in b))
plus (pairs m n) a b = Pair (plus m (left_in a) (left_in b)) (plus n (right_in a) (right_in b))
plus (maps m) a b = Map (maps_added val_cmp (plus m) (entries_in a) (entries_in b))

-- the entries of a map whose parts are elements of the monoid
abbrev pub AreEntriesOf : Monoid → List (Val × Agg) → Type 0
AreEntriesOf m = AreEntries (by_key val_cmp) (λ entry. IsOf m entry.1)

-- such entries with one more, and with those of another map
abbrev pub entry_plus : Monoid → Val × Agg → List (Val × Agg) → List (Val × Agg)
entry_plus m = entry_added (by_key val_cmp) (values_added (plus m))

abbrev pub entries_plus : Monoid → List (Val × Agg) → List (Val × Agg) → List (Val × Agg)
entries_plus m = maps_added val_cmp (plus m)
