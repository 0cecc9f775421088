-- The laws of the first k of two ranked lists together, for any total order whose ties are equal.
use Rattle.std.proofs.Common.{◌≡◌, ◌≢◌, ℕ, zero, suc, ◌≤◌, List, [], ◌∷◌, length, take, refl, sym, ap, subst, ◌∙◌, arith}
use Rattle.std.specs.List.{AllByRecursion}
use Rattle.std.specs.declared.cmp.Ordering.{Ordering}
use Rattle.std.specs.declared.cmp.Ordering.TheVariants.{Less, Equal, Greater}
use Rattle.std.specs.Ordering.{int_cmp, ordering_then}
use Rattle.std.specs.Cmp.{IsTotalOrder}
use Rattle.std.specs.FinMap.{IsAntisymmetric, int_cmp-IsAntisymmetric}
use Rattle.std.proofs.lemmas.Cmp.{on_total, back_total, then_total, int_cmp_total}
use lib.IntN.{ℤ}
use Rattle.std.specs.FinMap.Entries.{by_order}
use Rattle.sb_gather.specs.EntryLaws.{less_back, greater_back}
use Rattle.sb_gather.specs.Tops.{by_rank, IsRanked, placed, together, first_of_both, IsTop}

by_less : (P : Type 0) (r : Ordering) → (r ≡ Less → P) → (r ≢ Less → P) → P
by_less P Less so not_so = so refl
by_less P Equal so not_so = not_so (λ e. cc)
by_less P Greater so not_so = not_so (λ e. cc)

greater_not_less : (r : Ordering) → r ≡ Greater → r ≢ Less
greater_not_less r p e = cc

module _ {X : Type 0} where
  pub few_cut : (k : ℕ) (xs : List X) → length (take k xs) ≤ k
  few_cut zero xs = omega arith
  few_cut (suc k) [] = omega arith
  few_cut (suc k) (x ∷ xs) = omega (arith, few_cut k xs)

  pub uncut : (k : ℕ) (xs : List X) → length xs ≤ k → take k xs ≡ xs
  uncut zero [] h = refl
  uncut zero (x ∷ xs) h = absurd (omega (arith, h))
  uncut (suc k) [] h = refl
  uncut (suc k) (x ∷ xs) h = ap (λ l. x ∷ l) (uncut k xs (omega (arith, h)))

module _ {X : Type 0} (R : X → X → Ordering) where
  pub placed_before : (x y : X) (ys : List X) → R x y ≡ Less → placed R x (y ∷ ys) ≡ x ∷ y ∷ ys
  placed_before x y ys p = ap (λ r. by_order r (x ∷ y ∷ ys) (y ∷ placed R x ys) (y ∷ placed R x ys)) p

  pub placed_after : (x y : X) (ys : List X) → R x y ≢ Less → placed R x (y ∷ ys) ≡ y ∷ placed R x ys
  placed_after x y ys p = elim (R x y) as (λ r. R x y ≡ r → by_order r (x ∷ y ∷ ys) (y ∷ placed R x ys) (y ∷ placed R x ys) ≡ y ∷ placed R x ys) [
    | Less ↦ λ e. absurd (p e)
    | Equal ↦ λ e. refl
    | Greater ↦ λ e. refl
  ] refl

  -- the cut at k sees only the first k
  cut_twice : (k : ℕ) (xs : List X) → take k (take k xs) ≡ take k xs
  cut_twice zero xs = refl
  cut_twice (suc k) [] = refl
  cut_twice (suc k) (x ∷ xs) = ap (λ l. x ∷ l) (cut_twice k xs)

  cut_shorter : (k : ℕ) (xs : List X) → take k (take (suc k) xs) ≡ take k xs
  cut_shorter zero xs = refl
  cut_shorter (suc k) [] = refl
  cut_shorter (suc k) (x ∷ xs) = ap (λ l. x ∷ l) (cut_shorter k xs)

  pub cut_placed : (k : ℕ) (x : X) (xs : List X) → take k (placed R x (take k xs)) ≡ take k (placed R x xs)
  cut_placed zero x xs = refl
  cut_placed (suc k) x [] = refl
  cut_placed (suc k) x (y ∷ ys) =
      elim (R x y) as (λ r. take (suc k) (by_order r (x ∷ y ∷ take k ys) (y ∷ placed R x (take k ys)) (y ∷ placed R x (take k ys))) ≡ take (suc k) (by_order r (x ∷ y ∷ ys) (y ∷ placed R x ys) (y ∷ placed R x ys))) [
        | Less ↦ ap (λ l. x ∷ l) (cut_shorter k (y ∷ ys))
        | Equal ↦ ap (λ l. y ∷ l) (cut_placed k x ys)
        | Greater ↦ ap (λ l. y ∷ l) (cut_placed k x ys)
      ]

  same_cut : (k : ℕ) (x : X) (xs ys : List X) → take k xs ≡ take k ys → take k (placed R x xs) ≡ take k (placed R x ys)
  same_cut k x xs ys e = sym (cut_placed k x xs) ∙ (ap (λ l. take k (placed R x l)) e ∙ cut_placed k x ys)

  same_cuts : (k : ℕ) (xs ys zs : List X) → take k xs ≡ take k ys → take k (together R xs zs) ≡ take k (together R ys zs)
  same_cuts k xs ys [] e = e
  same_cuts k xs ys (z ∷ zs) e = same_cuts k (placed R z xs) (placed R z ys) zs (same_cut k z xs ys e)

  -- the left may be cut first
  pub cut_left : (k : ℕ) (xs ys : List X) → take k (together R (take k xs) ys) ≡ take k (together R xs ys)
  cut_left k xs ys = same_cuts k (take k xs) xs ys (cut_twice k xs)

module _ {X : Type 0} (R : X → X → Ordering) (o : IsTotalOrder R) (same : (x y : X) → R x y ≡ Equal → x ≡ y) where
  not_before : (x y : X) → R x y ≡ Less → R y x ≢ Less
  not_before x y p = greater_not_less (R y x) (less_back R o x y p)

  turn_less : (x y : X) (zs : List X) → R x y ≡ Less → placed R x (placed R y zs) ≡ placed R y (placed R x zs)
  turn_less x y [] p = placed_before R x y [] p ∙ sym (placed_after R y x [] (not_before x y p))
  turn_less x y (z ∷ zs) p = by_less _ (R y z)
      (λ yz. ap (placed R x) (placed_before R y z zs yz) ∙ (placed_before R x y (z ∷ zs) p
      ∙ (sym (ap (λ l. x ∷ l) (placed_before R y z zs yz)) ∙ (sym (placed_after R y x (z ∷ zs) (not_before x y p)) ∙ sym (ap (placed R y) (placed_before R x z zs (o.trans x y z p yz)))))))
      (λ yz. by_less _ (R x z)
      (λ xz. ap (placed R x) (placed_after R y z zs yz) ∙ (placed_before R x z (placed R y zs) xz
      ∙ (sym (ap (λ l. x ∷ l) (placed_after R y z zs yz)) ∙ (sym (placed_after R y x (z ∷ zs) (not_before x y p)) ∙ sym (ap (placed R y) (placed_before R x z zs xz))))))
      (λ xz. ap (placed R x) (placed_after R y z zs yz) ∙ (placed_after R x z (placed R y zs) xz
      ∙ (ap (λ l. z ∷ l) (turn_less x y zs p) ∙ (sym (placed_after R y z (placed R x zs) yz) ∙ sym (ap (placed R y) (placed_after R x z zs xz)))))))

  -- two entries may be placed in either order
  pub placed_turn : (x y : X) (zs : List X) → placed R x (placed R y zs) ≡ placed R y (placed R x zs)
  placed_turn x y zs = elim (R x y) as (λ r. R x y ≡ r → placed R x (placed R y zs) ≡ placed R y (placed R x zs)) [
    | Less ↦ λ e. turn_less x y zs e
    | Equal ↦ λ e. let is = same x y e in ap (λ w. placed R w (placed R y zs)) is ∙ ap (λ w. placed R y (placed R w zs)) (sym is)
    | Greater ↦ λ e. sym (turn_less y x zs (greater_back R o x y e))
  ] refl

  through : (x : X) (xs ys : List X) → together R (placed R x xs) ys ≡ placed R x (together R xs ys)
  through x xs [] = refl
  through x xs (y ∷ ys) = ap (λ l. together R l ys) (placed_turn y x xs) ∙ through x (placed R y xs) ys

  -- a list with an entry more is put together as the list and then the entry
  together_placed : (x : X) (xs ys : List X) → together R xs (placed R x ys) ≡ placed R x (together R xs ys)
  together_placed x xs [] = refl
  together_placed x xs (y ∷ ys) = by_less _ (R x y)
      (λ e. ap (together R xs) (placed_before R x y ys e) ∙ through x xs (y ∷ ys))
      (λ e. ap (together R xs) (placed_after R x y ys e) ∙ together_placed x (placed R y xs) ys)

  together_associates : (a b c : List X) → together R (together R a b) c ≡ together R a (together R b c)
  together_associates a b [] = refl
  together_associates a b (x ∷ c) = ap (λ l. together R l c) (sym (together_placed x a b)) ∙ together_associates a (placed R x b) c

  -- an entry that none of a list is before stands first
  pub first_placed : (x : X) (xs : List X) → IsRanked R (x ∷ xs) → x ∷ xs ≡ placed R x xs
  first_placed x [] h = refl
  first_placed x (y ∷ ys) h = elim (R x y) as (λ r. R x y ≡ r → x ∷ y ∷ ys ≡ by_order r (x ∷ y ∷ ys) (y ∷ placed R x ys) (y ∷ placed R x ys)) [
    | Less ↦ λ e. refl
    | Equal ↦ λ e. let is = same x y e in
        ap (λ w. w ∷ y ∷ ys) is ∙ (ap (λ l. y ∷ l) (first_placed y ys h.1) ∙ ap (λ w. y ∷ placed R w ys) (sym is))
    | Greater ↦ λ e. absurd (h.0.0 (greater_back R o x y e))
  ] refl

  pub onto_nothing : (xs : List X) → IsRanked R xs → together R [] xs ≡ xs
  onto_nothing [] h = refl
  onto_nothing (x ∷ xs) h = through x [] xs ∙ (ap (placed R x) (onto_nothing xs h.1) ∙ sym (first_placed x xs h))

  together_commutes : (a b : List X) → IsRanked R a → IsRanked R b → together R a b ≡ together R b a
  together_commutes [] b p q = onto_nothing b q
  together_commutes (x ∷ a) b p q =
      ap (λ l. together R l b) (first_placed x a p)
      ∙ (through x a b ∙ (ap (placed R x) (together_commutes a b p.1 q) ∙ sym (through x b a)))

  none_before_first : (x y : X) (ys : List X) → R x y ≡ Less → AllByRecursion (λ z. R z y ≢ Less) ys → AllByRecursion (λ z. R z x ≢ Less) ys
  none_before_first x y [] p h = tt
  none_before_first x y (z ∷ ys) p h = (λ e. h.0 (o.trans z x y e p), none_before_first x y ys p h.1)

  none_before_placed : (x y : X) (ys : List X) → R x y ≢ Less → AllByRecursion (λ z. R z y ≢ Less) ys → AllByRecursion (λ z. R z y ≢ Less) (placed R x ys)
  none_before_placed x y [] p h = (p, tt)
  none_before_placed x y (z ∷ ys) p h = elim (R x z) as (λ r. AllByRecursion (λ z. R z y ≢ Less) (by_order r (x ∷ z ∷ ys) (z ∷ placed R x ys) (z ∷ placed R x ys))) [
    | Less ↦ (p, h)
    | Equal ↦ (h.0, none_before_placed x y ys p h.1)
    | Greater ↦ (h.0, none_before_placed x y ys p h.1)
  ]

  pub ranked_placed : (x : X) (ys : List X) → IsRanked R ys → IsRanked R (placed R x ys)
  ranked_placed x [] h = (tt, tt)
  ranked_placed x (y ∷ ys) h = by_less _ (R x y)
      (λ e. subst (IsRanked R) (sym (placed_before R x y ys e)) ((not_before x y e, none_before_first x y ys e h.0), h))
      (λ e. subst (IsRanked R) (sym (placed_after R x y ys e)) (none_before_placed x y ys e h.0, ranked_placed x ys h.1))

  pub ranked_together : (xs ys : List X) → IsRanked R xs → IsRanked R (together R xs ys)
  ranked_together xs [] h = h
  ranked_together xs (y ∷ ys) h = ranked_together (placed R y xs) ys (ranked_placed y xs h)

  none_before_cut : (k : ℕ) (x : X) (ys : List X) → AllByRecursion (λ z. R z x ≢ Less) ys → AllByRecursion (λ z. R z x ≢ Less) (take k ys)
  none_before_cut zero x ys h = tt
  none_before_cut (suc k) x [] h = tt
  none_before_cut (suc k) x (y ∷ ys) h = (h.0, none_before_cut k x ys h.1)

  pub ranked_cut : (k : ℕ) (xs : List X) → IsRanked R xs → IsRanked R (take k xs)
  ranked_cut zero xs h = tt
  ranked_cut (suc k) [] h = tt
  ranked_cut (suc k) (x ∷ xs) h = (none_before_cut k x xs h.0, ranked_cut k xs h.1)

  cut_right : (k : ℕ) (xs ys : List X) → IsRanked R xs → IsRanked R ys → take k (together R xs (take k ys)) ≡ take k (together R xs ys)
  cut_right k xs ys p q =
      ap (take k) (together_commutes xs (take k ys) p (ranked_cut k ys q))
      ∙ (cut_left R k ys xs ∙ ap (take k) (together_commutes ys xs q p))

  pub top_placed : (k : ℕ) (x : X) (xs : List X) → IsTop R k xs → IsTop R k (take k (placed R x xs))
  top_placed k x xs p = record { ranked = ranked_cut k _ (ranked_placed x xs p.ranked); few = few_cut k (placed R x xs) }

  pub top_keeps : (k : ℕ) (a b : List X) → IsTop R k a → IsTop R k b → IsTop R k (first_of_both R k a b)
  top_keeps k a b p q = record { ranked = ranked_cut k _ (ranked_together a b p.ranked); few = few_cut k (together R a b) }

  pub top_associates : (k : ℕ) (a b c : List X) → IsTop R k a → IsTop R k b → IsTop R k c
      → first_of_both R k (first_of_both R k a b) c ≡ first_of_both R k a (first_of_both R k b c)
  top_associates k a b c p q r =
      cut_left R k (together R a b) c
      ∙ (ap (take k) (together_associates a b c) ∙ sym (cut_right k a (together R b c) p.ranked (ranked_together b c q.ranked)))

  pub top_commutes : (k : ℕ) (a b : List X) → IsTop R k a → IsTop R k b → first_of_both R k a b ≡ first_of_both R k b a
  top_commutes k a b p q = ap (take k) (together_commutes a b p.ranked q.ranked)

  pub top_of_nothing : (k : ℕ) (a : List X) → IsTop R k a → first_of_both R k [] a ≡ a
  top_of_nothing k a p = ap (take k) (onto_nothing a p.ranked) ∙ uncut k a p.few

  pub top_and_nothing : (k : ℕ) (a : List X) → IsTop R k a → first_of_both R k a [] ≡ a
  top_and_nothing k a p = uncut k a p.few

  pub nothing_is_top : (k : ℕ) → IsTop R k []
  nothing_is_top k = record { ranked = tt; few = omega arith }

module _ {K : Type 0} (R : K → K → Ordering) (o : IsTotalOrder R) where
  pub by_rank_total : IsTotalOrder (by_rank R)
  by_rank_total = then_total (back_total (on_total (λ (x : ℤ × K). x.0) int_cmp_total)) (on_total (λ x. x.1) o)

second_tied : (p q : Ordering) → ordering_then p q ≡ Equal → (p ≡ Equal) × (q ≡ Equal)
second_tied Less q e = absurd cc
second_tied Equal q e = (refl, e)
second_tied Greater q e = absurd cc

-- two that tie in rank are equal
pub by_rank_same : {K : Type 0} (R : K → K → Ordering) → IsAntisymmetric R → IsAntisymmetric (by_rank R)
by_rank_same R same x y e =
    let ties = second_tied (int_cmp y.0 x.0) (R x.1 y.1) e in
    λ i. (sym (int_cmp-IsAntisymmetric y.0 x.0 ties.0) i, same x.1 y.1 ties.1 i)

pub top_of_one : {X : Type 0} (R : X → X → Ordering) (k : ℕ) (x : X) → 1 ≤ k → IsTop R k (x ∷ [])
top_of_one R k x h = record { ranked = (tt, tt); few = omega (arith, h) }
