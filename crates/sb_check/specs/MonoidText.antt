-- The text of a monoid in a comment: its tokens, each with a space behind it.
use Rattle.std.specs.Prelude.{ℕ, codes, decimal, List, ◌++◌}
use Rattle.sb_kind.specs.Monoids.{Monoid, sums, least, greatest, firsts, lasts, concats, sets, tops, sketches, registers, pairs, maps}

abbrev pub monoid_text : Monoid → List ℕ
monoid_text sums = codes "sum "
monoid_text least = codes "min "
monoid_text greatest = codes "max "
monoid_text firsts = codes "first "
monoid_text lasts = codes "last "
monoid_text concats = codes "concat "
monoid_text sets = codes "set "
monoid_text (tops k) = codes "top ( " ++ (decimal k ++ codes " ) ")
monoid_text (sketches d w) =
    codes "cms ( " ++ (decimal d ++ (codes " , " ++ (decimal w ++ codes " ) ")))
monoid_text (registers b) = codes "hll ( " ++ (decimal b ++ codes " ) ")
monoid_text (pairs m n) =
    codes "pair ( " ++ (monoid_text m ++ (codes ", " ++ (monoid_text n ++ codes ") ")))
monoid_text (maps m) = codes "map ( " ++ (monoid_text m ++ codes ") ")
