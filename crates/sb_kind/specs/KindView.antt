-- The monoid that a `Kind` stands for.
use Rattle.sb_kind.specs.Monoids.{Monoid, sums, least, greatest, firsts, lasts, concats, sets, tops, sketches, registers, pairs, maps}
use Rattle.sb_kind.specs.declared.kind.Kind.{Kind}
use Rattle.sb_kind.specs.declared.kind.Kind.TheOpen as layer
use Rattle.sb_kind.specs.declared.kind.Kind.TheOpen.{Kind-F}
use Rattle.sb_kind.specs.declared.kind.Kind.TheFolds.{fold-Kind}

-- one layer, in which each part is seen already
abbrev pub kind_layer : Kind-F Monoid → Monoid
kind_layer layer.Sum = sums
kind_layer layer.Min = least
kind_layer layer.Max = greatest
kind_layer layer.First = firsts
kind_layer layer.Last = lasts
kind_layer layer.Concat = concats
kind_layer layer.Set = sets
kind_layer (layer.Top k) = tops k
kind_layer (layer.Cms shape) = sketches shape.rows shape.width
kind_layer (layer.Hll b) = registers b
kind_layer (layer.Pair m n) = pairs m n
kind_layer (layer.Map m) = maps m

abbrev pub monoid_of : Kind → Monoid
monoid_of = fold-Kind Monoid kind_layer
