-- The equality of keys, and their order.
use Rattle.std.proofs.Common.{◌≡◌, ◌&&◌, refl, ap, ◌∙◌}
use Rattle.std.specs.Prelude.{◌==◌}
use Rattle.std.specs.declared.cmp.Ordering.{Ordering}
use Rattle.std.specs.declared.cmp.Ordering.TheVariants.{Less, Equal, Greater}
use Rattle.std.specs.Ordering.{nat_cmp, on, eq_of_both, ordering_then, is_eq}
use Rattle.std.specs.Cmp.{IsTotalOrder, then_total, on_total, nat_cmp_total, unsigned_ties}
use Rattle.std.specs.Cmp.Lexicographic.{pointwise, slice_cmp, texts_ties, lists_total}
use Rattle.sb_feed.specs.declared.key.KeyBytes.{KeyBytes}
use Rattle.sb_feed.specs.Keys.{key_order, same_key}

both_equal : (a b : Ordering) → (is_eq a && is_eq b) ≡ is_eq (ordering_then a b)
both_equal Less b = refl
both_equal Equal b = refl
both_equal Greater b = refl

-- `==` tells the same store and text
pub equals_same : (a b : KeyBytes) → eq_of_both (on (λ k. k.store) ◌==◌) (on (λ k. k.text) (pointwise ◌==◌)) a b ≡ same_key a b
equals_same a b =
    ap (λ t. t && pointwise ◌==◌ a.text b.text) (unsigned_ties a.store b.store)
    ∙ (ap (λ t. is_eq (nat_cmp a.store b.store) && t) (texts_ties a.text b.text)
    ∙ both_equal (nat_cmp a.store b.store) (slice_cmp nat_cmp a.text b.text))

pub key_order_total : IsTotalOrder key_order
key_order_total = then_total (on_total (λ k. k.store) nat_cmp_total) (on_total (λ k. k.text) (lists_total nat_cmp_total))
