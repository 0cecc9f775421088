-- The ranked permutation of a list: there is one, and no two.
use Rattle.std.proofs.Common.{◌≡◌, ◌∙◌, ℕ, zero, suc, ◌<◌, List, [], ◌∷◌, ◌++◌, length, get_or, set, take, append-nil, refl, sym, ap, subst, arith}
use Rattle.std.specs.Prelude.{swap, IsPermutation}
use Rattle.std.specs.declared.cmp.Ordering.{Ordering}
use Rattle.std.specs.declared.cmp.Ordering.TheVariants.{Less, Equal, Greater}
use Rattle.std.specs.Cmp.{IsTotalOrder}
use Rattle.std.specs.FinMap.Entries.{by_order}
use Rattle.std.proofs.lemmas.List.Sorted.{IsPermutation-keeps, IsPermutation-refl, IsPermutation-sym, IsPermutation-trans, IsPermutation-cons, IsPermutation-middle, IsPermutation-append_left}
use Rattle.sb_gather.specs.Tops.{IsRanked, placed, together, first_of_both}
use Rattle.sb_gather.specs.TopLaws.{placed_turn, onto_nothing, ranked_together}

module _ {X : Type 0} (R : X → X → Ordering) where
  placed_moves : (x : X) (ys : List X) → IsPermutation (x ∷ ys) (placed R x ys)
  placed_moves x [] = IsPermutation-refl (x ∷ [])
  placed_moves x (y ∷ ys) =
      let behind = IsPermutation-trans (x ∷ y ∷ ys) (y ∷ x ∷ ys) (y ∷ placed R x ys)
      (IsPermutation-sym (y ∷ x ∷ ys) (x ∷ y ∷ ys) (IsPermutation-middle (y ∷ []) x ys)) (IsPermutation-cons y (x ∷ ys) (placed R x ys) (placed_moves x ys)) in
      elim (R x y) as (λ r. IsPermutation (x ∷ y ∷ ys) (by_order r (x ∷ y ∷ ys) (y ∷ placed R x ys) (y ∷ placed R x ys))) [
        | Less ↦ IsPermutation-refl (x ∷ y ∷ ys)
        | Equal ↦ behind
        | Greater ↦ behind
      ]

  pub together_moves : (xs ys : List X) → IsPermutation (xs ++ ys) (together R xs ys)
  together_moves xs [] = subst (λ l. IsPermutation l xs) (sym (append-nil xs)) (IsPermutation-refl xs)
  together_moves xs (y ∷ ys) =
      IsPermutation-trans (xs ++ y ∷ ys) (y ∷ (xs ++ ys)) (together R (placed R y xs) ys) (IsPermutation-middle xs y ys)
      (IsPermutation-trans ((y ∷ xs) ++ ys) (placed R y xs ++ ys) (together R (placed R y xs) ys)
      (IsPermutation-append_left ys (y ∷ xs) (placed R y xs) (placed_moves y xs)) (together_moves (placed R y xs) ys))

module _ {X : Type 0} (R : X → X → Ordering) (o : IsTotalOrder R) (same : (x y : X) → R x y ≡ Equal → x ≡ y) where
  turn : (x y : X) (zs : List X) → placed R x (placed R y zs) ≡ placed R y (placed R x zs)
  turn = placed_turn R o same

  -- an entry before a list changes places with one in it
  exchange : (s : List X) (x : X) (xs : List X) (j : ℕ) (d : X) → j < length xs
      → together R (placed R (get_or xs j d) s) (set xs j x) ≡ together R (placed R x s) xs
  exchange s x [] j d within = absurd (omega arith)
  exchange s x (y ∷ xs) zero d within = ap (λ l. together R l xs) (turn x y s)
  exchange s x (y ∷ xs) (suc j) d within =
      ap (λ l. together R l (set xs j x)) (turn y (get_or xs j d) s)
      ∙ (exchange (placed R y s) x xs j d (omega arith) ∙ ap (λ l. together R l xs) (turn x y s))

  abbrev swapped : X → List X → ℕ → ℕ → List X
  swapped d xs i j = set (set xs i (get_or xs j d)) j (get_or xs i d)

  swap_same : (s : List X) (d : X) (xs : List X) (i j : ℕ) → i < length xs → j < length xs → together R s (swapped d xs i j) ≡ together R s xs
  swap_same s d [] i j a b = absurd (omega arith)
  swap_same s d (x ∷ xs) zero zero a b = refl
  swap_same s d (x ∷ xs) zero (suc j) a b = exchange s x xs j d (omega arith)
  swap_same s d (x ∷ xs) (suc i) zero a b = exchange s x xs i d (omega arith)
  swap_same s d (x ∷ xs) (suc i) (suc j) a b = swap_same (placed R x s) d xs i j (omega arith) (omega arith)

  swap_keeps : (ys xs : List X) (i j : ℕ) → i < length xs → j < length xs → together R [] xs ≡ together R [] ys → together R [] (swap xs i j) ≡ together R [] ys
  swap_keeps ys [] i j a b h = absurd (omega arith)
  swap_keeps ys (d ∷ xs) i j a b h = swap_same [] d (d ∷ xs) i j a b ∙ h

  -- the order in which entries come together doesn't matter
  together_permuted : (xs ys : List X) → IsPermutation xs ys → together R [] ys ≡ together R [] xs
  together_permuted xs ys moved = IsPermutation-keeps xs (λ l. together R [] l ≡ together R [] xs) refl (swap_keeps xs) ys moved

  pub one_ranking : (xs ys : List X) → IsRanked R xs → IsRanked R ys → IsPermutation xs ys → xs ≡ ys
  one_ranking xs ys first second moved =
      sym (onto_nothing R o same xs first) ∙ (sym (together_permuted xs ys moved) ∙ onto_nothing R o same ys second)

  pub ranking_of : (xs : List X) → (all : List X) × IsRanked R all × IsPermutation xs all
  ranking_of xs = (together R [] xs, ranked_together R o same [] xs tt, together_moves R [] xs)

  pub first_of_ranking : (k : ℕ) (a b all : List X) → IsRanked R a → IsRanked R all → IsPermutation (a ++ b) all → first_of_both R k a b ≡ take k all
  first_of_ranking k a b all ranked ranking moved =
      ap (take k) (one_ranking (together R a b) all (ranked_together R o same a b ranked) ranking
      (IsPermutation-trans (together R a b) (a ++ b) all (IsPermutation-sym (a ++ b) (together R a b) (together_moves R a b)) moved))
