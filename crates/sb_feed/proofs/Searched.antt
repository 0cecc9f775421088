-- What a binary search among entries with rising keys finds.
use Rattle.std.proofs.Common.{◌≡◌, ◌≢◌, ℕ, zero, suc, ◌<◌, ◌≤◌, cond, T, ◌⊎◌, inl, inr, false, List, [], ◌∷◌, length, get_or, Some, None, refl, sym, ap, ◌∙◌, arith}
use Rattle.std.specs.declared.cmp.Ordering.{Ordering}
use Rattle.std.specs.declared.cmp.Ordering.TheVariants.{Less, Equal, Greater}
use Rattle.std.specs.Ordering.{is_eq, ordering_index, ordering_reverse}
use Rattle.std.specs.Cmp.{IsTotalOrder}
use Rattle.std.specs.FinMap.{find, is_sorted}
use Rattle.std.specs.FinMap.Entries.{below_all}
use Rattle.std.specs.List.Sorted.{IsNonDecreasingBy, IsPartitionPoint}
use Rattle.std.proofs.lemmas.List.Sorted.{IsNonDecreasingBy-from_default}
use Rattle.sb_laws.proofs.Tables.{first, second, less}

same_or_less : (i j : ℕ) → i ≤ j → (i ≡ j) ⊎ (i < j)
same_or_less zero zero h = inl refl
same_or_less zero (suc j) h = inr (omega arith)
same_or_less (suc i) zero h = absurd (omega (arith, h))
same_or_less (suc i) (suc j) h = later (same_or_less i j (omega (arith, h)))
  where
    later : (i ≡ j) ⊎ (i < j) → (suc i ≡ suc j) ⊎ (suc i < suc j)
    later (inl e) = inl (ap suc e)
    later (inr l) = inr (omega (arith, l))

not_equal : (o : Ordering) → o ≢ Equal → is_eq o ≡ false
not_equal Less h = refl
not_equal Equal h = absurd (h refl)
not_equal Greater h = refl

module _ {K : Type 0} (R : K → K → Ordering) (o : IsTotalOrder R) (q : K) where
  -- what is below a key that ties with q is below q
  before_tied : (x y : K) → R x y ≡ Less → R y q ≡ Equal → R q x ≡ Greater
  before_tied x y p e = sym (o.congr y q x e) ∙ (o.antisymm y x ∙ ap ordering_reverse p)

  no_later : (x y : K) → R x y ≡ Less → ordering_index (R x q) ≤ ordering_index (R y q)
  no_later x y p = by (R y q) refl (R x q) refl
    where
      by : (b : Ordering) → R y q ≡ b → (a : Ordering) → R x q ≡ a → ordering_index (R x q) ≤ ordering_index (R y q)
      by Less e a f = rw (o.trans x y q p e, e) (omega arith)
      by Equal e a f = rw (o.antisymm x q ∙ ap ordering_reverse (before_tied x y p e), e) (omega arith)
      by Greater e Less f = rw (e, f) (omega arith)
      by Greater e Equal f = rw (e, f) (omega arith)
      by Greater e Greater f = rw (e, f) (omega arith)

module _ {K E : Type 0} (R : K → K → Ordering) (o : IsTotalOrder R) where
  -- the first key is below those behind it
  below_at : (x : K) (es : List (K × E)) (i : ℕ) (d : K × E) → T (below_all R x es) → i < length es → R x (get_or es i d).0 ≡ Less
  below_at x [] i d h k = absurd (omega (arith, k))
  below_at x (e ∷ es) zero d h k = less _ (first _ _ h)
  below_at x (e ∷ es) (suc i) d h k = below_at x es i d (second _ _ h) (omega (arith, k))

  rising_at : (es : List (K × E)) (i j : ℕ) (d : K × E) → T (is_sorted R es) → i < j → j < length es → R (get_or es i d).0 (get_or es j d).0 ≡ Less
  rising_at [] i j d h l k = absurd (omega (arith, k))
  rising_at (e ∷ es) i zero d h l k = absurd (omega (arith, l))
  rising_at (e ∷ es) zero (suc j) d h l k = below_at e.0 es j d (first _ _ h) (omega (arith, k))
  rising_at (e ∷ es) (suc i) (suc j) d h l k = rising_at es i j d (second _ _ h) (omega (arith, l)) (omega (arith, k))

  module _ (q : K) where
    -- the comparisons with q never fall
    comparisons_rise : (es : List (K × E)) → T (is_sorted R es) → IsNonDecreasingBy (λ e. ordering_index (R e.0 q)) es
    comparisons_rise [] h = λ i j d l k. absurd (omega (arith, k))
    comparisons_rise (e ∷ es) h = IsNonDecreasingBy-from_default (λ x. ordering_index (R x.0 q)) (e ∷ es) e (λ i j l k. at i j k (same_or_less i j l))
      where
        at : (i j : ℕ) → j < length (e ∷ es) → (i ≡ j) ⊎ (i < j) → ordering_index (R (get_or (e ∷ es) i e).0 q) ≤ ordering_index (R (get_or (e ∷ es) j e).0 q)
        at i j k (inl same) = rw same (omega arith)
        at i j k (inr l) = no_later R o q _ _ (rising_at (e ∷ es) i j e h l k)

    -- at a tie stands the value of q
    pub found_at : (es : List (K × E)) (at : ℕ) (d : K × E) → T (is_sorted R es) → at < length es → R (get_or es at d).0 q ≡ Equal → find R q es ≡ Some (get_or es at d).1
    found_at [] at d h k e = absurd (omega (arith, k))
    found_at (x ∷ es) zero d h k e = ap (λ r. cond (is_eq r) (Some x.1) (find R q es)) (o.antisymm q x.0 ∙ ap ordering_reverse e)
    found_at (x ∷ es) (suc at) d h k e =
        let up = below_at x.0 es at d (first _ _ h) (omega (arith, k)) in
        ap (λ r. cond (is_eq r) (Some x.1) (find R q es)) (before_tied R o q x.0 (get_or es at d).0 up e)
        ∙ found_at es at d (second _ _ h) (omega (arith, k)) e

    -- where none ties, q isn't there
    absent : (es : List (K × E)) → ((i : ℕ) (d : K × E) → i < length es → R (get_or es i d).0 q ≢ Equal) → find R q es ≡ None
    absent [] h = refl
    absent (x ∷ es) h =
        ap (λ b. cond b (Some x.1) (find R q es)) (not_equal (R q x.0) (λ e. h zero x (omega arith) (o.antisymm x.0 q ∙ ap ordering_reverse e)))
        ∙ absent es (λ i d k. h (suc i) d (omega (arith, k)))

    -- in a gap between what is less and what is greater
    pub absent_in_gap : (es : List (K × E)) (at : ℕ) → T (is_sorted R es)
        → (IsNonDecreasingBy (λ e. ordering_index (R e.0 q)) es → IsPartitionPoint (λ e. R e.0 q ≡ Less) (λ e. R e.0 q ≡ Greater) es at) → find R q es ≡ None
    absent_in_gap es at h parted = absent es (λ i d k. apart i d k (split i at))
      where
        split : (i at : ℕ) → (i < at) ⊎ (at ≤ i)
        split i zero = inr (omega arith)
        split zero (suc at) = inl (omega arith)
        split (suc i) (suc at) = later (split i at)
          where
            later : (i < at) ⊎ (at ≤ i) → (suc i < suc at) ⊎ (suc at ≤ suc i)
            later (inl l) = inl (omega (arith, l))
            later (inr l) = inr (omega (arith, l))

        apart : (i : ℕ) (d : K × E) → i < length es → (i < at) ⊎ (at ≤ i) → R (get_or es i d).0 q ≢ Equal
        apart i d k (inl l) e = (let less = (parted (comparisons_rise es h)).0 i d (omega arith) l in cc)
        apart i d k (inr l) e = (let greater = (parted (comparisons_rise es h)).1 i d l k in cc)
