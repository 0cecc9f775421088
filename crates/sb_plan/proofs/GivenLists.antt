-- Lists of values that stages make, how long they are and what holds of each.
use Rattle.std.proofs.Common.{◌≤◌, ℕ, suc, ◌*◌, Bool, true, false, cond, List, [], ◌∷◌, ◌++◌, map, filter, length, arith, suc-mul}
use Rattle.std.specs.List.{AllByRecursion, flat_map}
use Rattle.std.proofs.lemmas.List.{length-append}

module _ {A : Type 0} (P : A → Type 0) where
  pub all_append : (xs ys : List A) → AllByRecursion P xs → AllByRecursion P ys → AllByRecursion P (xs ++ ys)
  all_append [] ys h k = k
  all_append (x ∷ xs) ys h k = (h.0, all_append xs ys h.1 k)

  pub all_filter : (test : A → Bool) (xs : List A) → AllByRecursion P xs → AllByRecursion P (filter test xs)
  all_filter test [] h = tt
  all_filter test (x ∷ xs) h = elim (test x) as (λ b. AllByRecursion P (cond b (x ∷ filter test xs) (filter test xs))) [
    | true ↦ (h.0, all_filter test xs h.1)
    | false ↦ all_filter test xs h.1
  ]

pub length-filter-le : {A : Type 0} (test : A → Bool) (xs : List A) → length (filter test xs) ≤ length xs
length-filter-le test [] = omega arith
length-filter-le test (x ∷ xs) = elim (test x) as (λ b. length (cond b (x ∷ filter test xs) (filter test xs)) ≤ suc (length xs)) [
  | true ↦ omega (arith, length-filter-le test xs)
  | false ↦ omega (arith, length-filter-le test xs)
]

module _ {A B : Type 0} (P : A → Type 0) (Q : B → Type 0) where
  pub all_map : (f : A → B) → ((x : A) → P x → Q (f x)) → (xs : List A) → AllByRecursion P xs → AllByRecursion Q (map f xs)
  all_map f h [] k = tt
  all_map f h (x ∷ xs) k = (h x k.0, all_map f h xs k.1)

  pub all_flat : (f : A → List B) → ((x : A) → P x → AllByRecursion Q (f x)) → (xs : List A) → AllByRecursion P xs → AllByRecursion Q (flat_map f xs)
  all_flat f h [] k = tt
  all_flat f h (x ∷ xs) k = all_append Q (f x) (flat_map f xs) (h x k.0) (all_flat f h xs k.1)

  -- where each gives at most so many
  pub length_flat : (f : A → List B) (most : ℕ) → ((x : A) → P x → length (f x) ≤ most) → (xs : List A) → AllByRecursion P xs → length (flat_map f xs) ≤ length xs * most
  length_flat f most h [] k = omega arith
  length_flat f most h (x ∷ xs) k = omega (arith, length-append (f x) (flat_map f xs), h x k.0, length_flat f most h xs k.1, suc-mul (length xs) most)
