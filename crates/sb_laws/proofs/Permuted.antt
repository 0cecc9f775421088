-- A commuting sum doesn't depend on the order.
use Rattle.std.proofs.Common.{◌≡◌, ℕ, zero, suc, ◌<◌, List, [], ◌∷◌, length, get_or, set, Some, refl, sym, ap, ◌∙◌, arith}
use Rattle.std.specs.Prelude.{swap, IsPermutation}
use Rattle.std.specs.List.{AllByRecursion}
use Rattle.std.proofs.lemmas.List.Sorted.{IsPermutation-keeps}
use Rattle.sb_laws.specs.Sums.{sum_onto, sum_of, CommutingLaws}

module _ {E : Type 0} (V : E → Type 0) (add : E → E → E) (laws : CommutingLaws V add) where
  turn : (s x y : E) → V s → V x → V y → add (add s x) y ≡ add (add s y) x
  turn s x y p q r = laws.semigroup.associates s x y p q r ∙ (ap (add s) (laws.commutes x y q r) ∙ sym (laws.semigroup.associates s y x p r q))

  valid_at : (xs : List E) (j : ℕ) (d : E) → AllByRecursion V xs → j < length xs → V (get_or xs j d)
  valid_at [] j d h k = absurd (omega arith)
  valid_at (x ∷ xs) zero d h k = h.0
  valid_at (x ∷ xs) (suc j) d h k = valid_at xs j d h.1 (omega arith)

  valid_set : (xs : List E) (j : ℕ) (x : E) → AllByRecursion V xs → V x → AllByRecursion V (set xs j x)
  valid_set [] j x h p = tt
  valid_set (y ∷ xs) zero x h p = (p, h.1)
  valid_set (y ∷ xs) (suc j) x h p = (h.0, valid_set xs j x h.1 p)

  -- the summand before a list changes places with one in it
  exchange : (s x : E) (xs : List E) (j : ℕ) (d : E) → V s → V x → AllByRecursion V xs → j < length xs
      → sum_onto add (add s (get_or xs j d)) (set xs j x) ≡ sum_onto add (add s x) xs
  exchange s x [] j d p q h k = absurd (omega arith)
  exchange s x (y ∷ xs) zero d p q h k = ap (λ z. sum_onto add z xs) (turn s y x p h.0 q)
  exchange s x (y ∷ xs) (suc j) d p q h k =
      let v = valid_at xs j d h.1 (omega arith) in
      ap (λ z. sum_onto add z (set xs j x)) (turn s (get_or xs j d) y p v h.0)
      ∙ (exchange (add s y) x xs j d (laws.semigroup.keeps_valid s y p h.0) q h.1 (omega arith) ∙ ap (λ z. sum_onto add z xs) (turn s y x p h.0 q))

  exchange_first : (x : E) (xs : List E) (j : ℕ) (d : E) → V x → AllByRecursion V xs → j < length xs
      → sum_onto add (get_or xs j d) (set xs j x) ≡ sum_onto add x xs
  exchange_first x [] j d q h k = absurd (omega arith)
  exchange_first x (y ∷ xs) zero d q h k = ap (λ z. sum_onto add z xs) (laws.commutes y x h.0 q)
  exchange_first x (y ∷ xs) (suc j) d q h k =
      let v = valid_at xs j d h.1 (omega arith) in
      ap (λ z. sum_onto add z (set xs j x)) (laws.commutes (get_or xs j d) y v h.0)
      ∙ (exchange y x xs j d h.0 q h.1 (omega arith) ∙ ap (λ z. sum_onto add z xs) (laws.commutes y x h.0 q))

  abbrev swapped : E → List E → ℕ → ℕ → List E
  swapped d xs i j = set (set xs i (get_or xs j d)) j (get_or xs i d)

  swap_onto : (s d : E) (xs : List E) (i j : ℕ) → V s → AllByRecursion V xs → i < length xs → j < length xs → sum_onto add s (swapped d xs i j) ≡ sum_onto add s xs
  swap_onto s d [] i j p h a b = absurd (omega arith)
  swap_onto s d (x ∷ xs) zero zero p h a b = refl
  swap_onto s d (x ∷ xs) zero (suc j) p h a b = exchange s x xs j d p h.0 h.1 (omega arith)
  swap_onto s d (x ∷ xs) (suc i) zero p h a b = exchange s x xs i d p h.0 h.1 (omega arith)
  swap_onto s d (x ∷ xs) (suc i) (suc j) p h a b = swap_onto (add s x) d xs i j (laws.semigroup.keeps_valid s x p h.0) h.1 (omega arith) (omega arith)

  swap_sum : (d : E) (xs : List E) (i j : ℕ) → AllByRecursion V xs → i < length xs → j < length xs → sum_of add (swapped d xs i j) ≡ sum_of add xs
  swap_sum d [] i j h a b = absurd (omega arith)
  swap_sum d (x ∷ xs) zero zero h a b = refl
  swap_sum d (x ∷ xs) zero (suc j) h a b = ap Some (exchange_first x xs j d h.0 h.1 (omega arith))
  swap_sum d (x ∷ xs) (suc i) zero h a b = ap Some (exchange_first x xs i d h.0 h.1 (omega arith))
  swap_sum d (x ∷ xs) (suc i) (suc j) h a b = ap Some (swap_onto x d xs i j h.0 h.1 (omega arith) (omega arith))

  swap_keeps : (ys xs : List E) (i j : ℕ) → i < length xs → j < length xs → AllByRecursion V xs × (sum_of add xs ≡ sum_of add ys)
      → AllByRecursion V (swap xs i j) × (sum_of add (swap xs i j) ≡ sum_of add ys)
  swap_keeps ys [] i j a b h = absurd (omega arith)
  swap_keeps ys (d ∷ xs) i j a b h = (
    valid_set (set (d ∷ xs) i (get_or (d ∷ xs) j d)) j (get_or (d ∷ xs) i d) (valid_set (d ∷ xs) i (get_or (d ∷ xs) j d) h.0 (valid_at (d ∷ xs) j d h.0 b)) (valid_at (d ∷ xs) i d h.0 a),
    swap_sum d (d ∷ xs) i j h.0 a b ∙ h.1,
  )

  -- a list with the same elements as often has the same sum
  pub sum_permuted : (xs ys : List E) → AllByRecursion V xs → IsPermutation xs ys → sum_of add ys ≡ sum_of add xs
  sum_permuted xs ys h p = (IsPermutation-keeps xs (λ l. AllByRecursion V l × (sum_of add l ≡ sum_of add xs)) (h, refl) (swap_keeps xs) ys p).1
