-- The element that one value gives.
use Rattle.std.specs.Prelude.{ℕ, ℤ, pos, List, [], ◌∷◌}
use Rattle.sb_types.specs.declared.values.Val.{Val, out-Val, Int}
use Rattle.sb_types.specs.declared.values.Val.TheOpen as layer
use Rattle.sb_types.specs.declared.values.Val.TheOpen.{Val-F}
use Rattle.sb_sketch.specs.Cms.{counts_of}
use Rattle.sb_sketch.specs.Hll.{registers_of}
use Rattle.sb_kind.specs.Monoids.{Monoid, sums, least, greatest, firsts, lasts, concats, sets, tops, sketches, registers, pairs, maps}
use Rattle.sb_kind.specs.declared.agg.Agg.{Agg, Sum, Min, Max, First, Last, Concat, Set, Top, Cms, Hll, Pair, Map}

abbrev int_layer : Val-F Val → ℤ
int_layer (layer.Int n) = n
int_layer other = pos 0

-- the number of an int, and 0 for other values
abbrev pub int_in : Val → ℤ
int_in v = int_layer (out-Val v)

abbrev text_layer : Val-F Val → List ℕ
text_layer (layer.Text t) = t
text_layer other = []

-- the bytes of a text, and none for other values
abbrev pub text_in : Val → List ℕ
text_in v = text_layer (out-Val v)

abbrev first_layer : Val-F Val → Val
first_layer (layer.Pair v w) = v
first_layer other = Int (pos 0)

abbrev second_layer : Val-F Val → Val
second_layer (layer.Pair v w) = w
second_layer other = Int (pos 0)

-- the parts of a pair, and 0 for other values
abbrev pub first_in : Val → Val
first_in v = first_layer (out-Val v)

abbrev pub second_in : Val → Val
second_in v = second_layer (out-Val v)

-- the element that a value of the monoid's value type gives
abbrev pub prepared : Monoid → Val → Agg
prepared sums v = Sum (int_in v)
prepared least v = Min (int_in v)
prepared greatest v = Max (int_in v)
prepared firsts v = First v
prepared lasts v = Last v
prepared concats v = Concat (v ∷ [])
prepared sets v = Set (v ∷ [])
prepared (tops k) v = Top ((int_in (first_in v), text_in (second_in v)) ∷ [])
prepared (sketches d w) v = Cms (counts_of (record { rows = d; width = w }) (text_in v))
prepared (registers b) v = Hll (registers_of b (text_in v))
prepared (pairs m n) v = Pair (prepared m (first_in v)) (prepared n (second_in v))
prepared (maps m) v = Map ((first_in v, prepared m (second_in v)) ∷ [])
