-- The members of a union.
use Rattle.std.proofs.Common.{◌≡◌, ℕ, zero, suc, ◌<◌, List, [], ◌∷◌, length, Contains, ◌↔◌, ◌⊎◌, inl, inr, refl, sym, subst, arith}
use Rattle.std.specs.Prelude.{slice_index_or}
use Rattle.std.specs.declared.cmp.Ordering.{Ordering}
use Rattle.std.specs.declared.cmp.Ordering.TheVariants.{Less, Equal, Greater}
use Rattle.std.specs.FinMap.{IsAntisymmetric}
use Rattle.std.specs.FinMap.Entries.{by_order}
use Rattle.std.proofs.lemmas.List.Elements.{Contains-append_right}
use Rattle.sb_gather.specs.Entries.{entry_added}
use Rattle.sb_gather.specs.Maps.{left_of, union}

module _ {X : Type 0} where
  first_in : (x : X) (xs : List X) → Contains (x ∷ xs) x
  first_in x xs = (0, omega arith, refl)

  later_in : (x : X) (xs : List X) (q : X) → Contains xs q → Contains (x ∷ xs) q
  later_in x xs q has = Contains-append_right (x ∷ []) xs q has

  first_or_later : (x : X) (xs : List X) (q : X) → Contains (x ∷ xs) q → (x ≡ q) ⊎ Contains xs q
  first_or_later x xs q has = at has.0 has.1 has.2 where
    at : (k : ℕ) → k < length (x ∷ xs) → slice_index_or (x ∷ xs) k q ≡ q → (x ≡ q) ⊎ Contains xs q
    at zero within is = inl is
    at (suc k) within is = inr (k, omega arith, is)

  none_in : (q : X) → Contains [] q → ⊥
  none_in q has = absurd (omega (arith, has.1))

module _ {K : Type 0} (R : K → K → Ordering) (same : IsAntisymmetric R) where
  abbrev added : K → List K → List K
  added x ys = entry_added R left_of x ys

  new_in : (x : K) (ys : List K) → Contains (added x ys) x
  new_in x [] = first_in x []
  new_in x (y ∷ ys) = elim (R x y) as (λ r. R x y ≡ r → Contains (by_order r (x ∷ y ∷ ys) (y ∷ ys) (y ∷ added x ys)) x) [
    | Less ↦ λ e. first_in x (y ∷ ys)
    | Equal ↦ λ e. subst (Contains (y ∷ ys)) (sym (same x y e)) (first_in y ys)
    | Greater ↦ λ e. later_in y (added x ys) x (new_in x ys)
  ] refl

  old_in : (x : K) (ys : List K) (q : K) → Contains ys q → Contains (added x ys) q
  old_in x [] q has = absurd (none_in q has)
  old_in x (y ∷ ys) q has = elim (R x y) as (λ r. Contains (by_order r (x ∷ y ∷ ys) (y ∷ ys) (y ∷ added x ys)) q) [
    | Less ↦ later_in x (y ∷ ys) q has
    | Equal ↦ has
    | Greater ↦ elim (first_or_later y ys q has) [
      | inl is ↦ subst (Contains (y ∷ added x ys)) is (first_in y (added x ys))
      | inr later ↦ later_in y (added x ys) q (old_in x ys q later)
    ]
  ]

  new_or_old : (x : K) (ys : List K) (q : K) → Contains (added x ys) q → (x ≡ q) ⊎ Contains ys q
  new_or_old x [] q has = first_or_later x [] q has
  new_or_old x (y ∷ ys) q has = elim (R x y) as (λ r. Contains (by_order r (x ∷ y ∷ ys) (y ∷ ys) (y ∷ added x ys)) q → (x ≡ q) ⊎ Contains (y ∷ ys) q) [
    | Less ↦ λ h. first_or_later x (y ∷ ys) q h
    | Equal ↦ λ h. inr h
    | Greater ↦ λ h. elim (first_or_later y (added x ys) q h) [
      | inl is ↦ inr (subst (Contains (y ∷ ys)) is (first_in y ys))
      | inr later ↦ elim (new_or_old x ys q later) [
        | inl new ↦ inl new
        | inr old ↦ inr (later_in y ys q old)
      ]
    ]
  ] has

  from_both : (a b : List K) (q : K) → Contains (union R a b) q → Contains a q ⊎ Contains b q
  from_both a [] q has = inl has
  from_both a (y ∷ b) q has = elim (from_both (added y a) b q has) [
    | inl first ↦ elim (new_or_old y a q first) [
      | inl new ↦ inr (subst (Contains (y ∷ b)) new (first_in y b))
      | inr old ↦ inl old
    ]
    | inr later ↦ inr (later_in y b q later)
  ]

  left_in : (a b : List K) (q : K) → Contains a q → Contains (union R a b) q
  left_in a [] q has = has
  left_in a (y ∷ b) q has = left_in (added y a) b q (old_in y a q has)

  right_in : (a b : List K) (q : K) → Contains b q → Contains (union R a b) q
  right_in a [] q has = absurd (none_in q has)
  right_in a (y ∷ b) q has = elim (first_or_later y b q has) [
    | inl is ↦ left_in (added y a) b q (subst (Contains (added y a)) is (new_in y a))
    | inr later ↦ right_in (added y a) b q later
  ]

  in_either : (a b : List K) (q : K) → Contains a q ⊎ Contains b q → Contains (union R a b) q
  in_either a b q (inl has) = left_in a b q has
  in_either a b q (inr has) = right_in a b q has

  pub members_of_both : (a b : List K) (q : K) → Contains (union R a b) q ↔ (Contains a q ⊎ Contains b q)
  members_of_both a b q = (from_both a b q, in_either a b q)
