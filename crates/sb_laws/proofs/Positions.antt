-- Folds over sets of positions, put together and taken apart.
use Rattle.std.proofs.Common.{◌≡◌, ℕ, Bool, true, false, cond, ◌&&◌, List, [], ◌∷◌, map, filter, Option, Some, None, refl, sym, ap, ◌∙◌}
use Rattle.std.specs.List.{AllByRecursion}
use Rattle.sb_laws.specs.Sums.{sum_of, both_sums, IsValid, SemigroupLaws, CommutingLaws}
use Rattle.sb_laws.specs.Folds.{fold_over, IsSplit}
use Rattle.sb_laws.proofs.Sums.{both_associates, both_commutes, sum_valid, sum_first}

pub ap_both : {A B C : Type 0} (f : A → B → C) {a a' : A} {b b' : B} → a ≡ a' → b ≡ b' → f a b ≡ f a' b'
ap_both f {a} {a'} {b} {b'} p q = ap (λ x. f x b) p ∙ ap (f a') q

pub filter_same : {A : Type 0} (s t : A → Bool) → ((x : A) → s x ≡ t x) → (xs : List A) → filter s xs ≡ filter t xs
filter_same s t h [] = refl
filter_same {A = A} s t h (x ∷ xs) =
    ap (λ (b : Bool). cond b (x ∷ filter s xs) (filter s xs)) (h x) ∙ ap (λ (l : List A). cond (t x) (x ∷ l) l) (filter_same s t h xs)

-- the fold is the same over equal sets
pub fold_same : {E : Type 0} (add : E → E → E) (xs : List (ℕ × E)) (s t : ℕ → Bool) → ((i : ℕ) → s i ≡ t i) → fold_over add xs s ≡ fold_over add xs t
fold_same add xs s t h = ap (λ l. sum_of add (map (λ x. x.1) l)) (filter_same (λ x. s x.0) (λ x. t x.0) (λ x. h x.0) xs)

filter_none : {A : Type 0} (xs : List A) → filter (λ x. false) xs ≡ []
filter_none [] = refl
filter_none (x ∷ xs) = filter_none xs

-- nothing passes: the fold is none
pub fold_none : {E : Type 0} (add : E → E → E) (xs : List (ℕ × E)) (s : ℕ → Bool) → ((i : ℕ) → s i ≡ false) → fold_over add xs s ≡ None
fold_none add xs s h = fold_same add xs s (λ i. false) h ∙ ap (λ l. sum_of add (map (λ x. x.1) l)) (filter_none xs)

-- a condition that doesn't look at the position
pub fold_if : {E : Type 0} (add : E → E → E) (xs : List (ℕ × E)) (b : Bool) (s : ℕ → Bool) → fold_over add xs (λ i. b && s i) ≡ cond b (fold_over add xs s) None
fold_if add xs true s = refl
fold_if add xs false s = fold_none add xs (λ i. false) (λ i. refl)

-- a value before a sum, where its position passes
abbrev pub added_if : {E : Type 0} → (E → E → E) → Bool → E → Option E → Option E
added_if add true x r = both_sums add (Some x) r
added_if add false x r = r

module _ {E : Type 0} (V : E → Type 0) where
  pub kept_valid : (xs : List (ℕ × E)) (s : ℕ → Bool) → AllByRecursion (λ x. V x.1) xs → AllByRecursion V (map (λ x. x.1) (filter (λ x. s x.0) xs))
  kept_valid [] s h = tt
  kept_valid (x ∷ xs) s h = elim (s x.0) as (λ b. AllByRecursion V (map (λ (y : ℕ × E). y.1) (cond b (x ∷ filter (λ y. s y.0) xs) (filter (λ y. s y.0) xs)))) [
    | true ↦ (h.0, kept_valid xs s h.1)
    | false ↦ kept_valid xs s h.1
  ]

module _ {E : Type 0} (V : E → Type 0) (add : E → E → E) (laws : SemigroupLaws V add) where
  pub fold_valid : (xs : List (ℕ × E)) (s : ℕ → Bool) → AllByRecursion (λ x. V x.1) xs → IsValid V (fold_over add xs s)
  fold_valid xs s h = sum_valid V add laws _ (kept_valid V xs s h)

  -- one value more at the front
  pub fold_first : (x : ℕ × E) (xs : List (ℕ × E)) (s : ℕ → Bool) → V x.1 → AllByRecursion (λ x. V x.1) xs
      → fold_over add (x ∷ xs) s ≡ added_if add (s x.0) x.1 (fold_over add xs s)
  fold_first x xs s p h = elim (s x.0) as (λ b. sum_of add (map (λ (y : ℕ × E). y.1) (cond b (x ∷ filter (λ y. s y.0) xs) (filter (λ y. s y.0) xs))) ≡ added_if add b x.1 (fold_over add xs s)) [
    | true ↦ sum_first V add laws x.1 _ p (kept_valid V xs s h)
    | false ↦ refl
  ]

module _ {E : Type 0} (V : E → Type 0) (add : E → E → E) (laws : CommutingLaws V add) where
  -- two sums before a third change places
  pub both_turn : (a b c : Option E) → IsValid V a → IsValid V b → IsValid V c → both_sums add a (both_sums add b c) ≡ both_sums add b (both_sums add a c)
  both_turn a b c p q r =
      sym (both_associates V add laws.semigroup a b c p q r)
      ∙ (ap (λ z. both_sums add z c) (both_commutes V add laws.commutes a b p q) ∙ both_associates V add laws.semigroup b a c q p r)

  split_first : (u s t : Bool) → IsSplit u s t → (x : E) (a b : Option E) → V x → IsValid V a → IsValid V b
      → added_if add u x (both_sums add a b) ≡ both_sums add (added_if add s x a) (added_if add t x b)
  split_first true true false k x a b p q r = sym (both_associates V add laws.semigroup (Some x) a b p q r)
  split_first true false true k x a b p q r = both_turn (Some x) a b p q r
  split_first false false false k x a b p q r = refl
  split_first true true true k x a b p q r = absurd k
  split_first true false false k x a b p q r = absurd k
  split_first false true true k x a b p q r = absurd k
  split_first false true false k x a b p q r = absurd k
  split_first false false true k x a b p q r = absurd k

  -- the fold over a union of two sets that share nothing is the sum of the folds
  pub fold_splits : (xs : List (ℕ × E)) (u s t : ℕ → Bool) → AllByRecursion (λ x. V x.1) xs → ((i : ℕ) → IsSplit (u i) (s i) (t i))
      → fold_over add xs u ≡ both_sums add (fold_over add xs s) (fold_over add xs t)
  fold_splits [] u s t h k = refl
  fold_splits (x ∷ xs) u s t h k =
      fold_first V add laws.semigroup x xs u h.0 h.1
      ∙ (ap (added_if add (u x.0) x.1) (fold_splits xs u s t h.1 k)
      ∙ (split_first (u x.0) (s x.0) (t x.0) (k x.0) x.1 _ _ h.0 (fold_valid V add laws.semigroup xs s h.1) (fold_valid V add laws.semigroup xs t h.1)
      ∙ ap_both (both_sums add) (sym (fold_first V add laws.semigroup x xs s h.0 h.1)) (sym (fold_first V add laws.semigroup x xs t h.0 h.1))))
