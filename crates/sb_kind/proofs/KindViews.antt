-- The equations of `monoid_of` at kinds with parts.
use Rattle.std.proofs.Common.{◌≡◌, ◌∙◌, ap, sym}
use Rattle.sb_kind.specs.KindView.{monoid_of, kind_layer}
use Rattle.sb_kind.specs.Monoids.{Monoid, pairs, maps}
use Rattle.sb_kind.specs.declared.kind.Kind.{Kind, Pair, Map}
use Rattle.sb_kind.specs.declared.kind.Kind.TheOpen as layer
use Rattle.sb_kind.specs.declared.kind.Kind.TheFolds.{fold-roll-Kind}
use Rattle.sb_kind.specs.declared.kind.Kind.TheVariants.{rolls-Pair, rolls-Map}

pub monoid_of-Pair : (k l r : Kind) → k ≡ Pair l r → monoid_of k ≡ pairs (monoid_of l) (monoid_of r)
monoid_of-Pair k l r is = ap monoid_of (is ∙ sym (rolls-Pair l r)) ∙ fold-roll-Kind Monoid kind_layer (layer.Pair l r)

pub monoid_of-Map : (k p : Kind) → k ≡ Map p → monoid_of k ≡ maps (monoid_of p)
monoid_of-Map k p is = ap monoid_of (is ∙ sym (rolls-Map p)) ∙ fold-roll-Kind Monoid kind_layer (layer.Map p)
