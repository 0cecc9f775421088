-- Sums of parts by key and batch: of two lists in a row, and of the parts of some batches.
use Rattle.std.proofs.Common.{◌≡◌, ℕ, Bool, true, false, cond, ◌&&◌, List, [], ◌∷◌, ◌++◌, map, filter, None, refl, sym, ap, subst, ◌∙◌}
use Rattle.std.specs.Prelude.{◌==◌}
use Rattle.std.specs.List.{AllByRecursion}
use Rattle.std.proofs.lemmas.List.{map-append}
use Rattle.std.proofs.lemmas.List.Elements.{filter-append}
use Rattle.std.proofs.lemmas.Bool.{eqb-true}
use Rattle.sb_laws.specs.Sums.{sum_of, both_sums, SemigroupLaws}
use Rattle.sb_laws.specs.Folds.{fold_over}
use Rattle.sb_laws.proofs.Sums.{sum_append}
use Rattle.sb_laws.proofs.Positions.{fold_same, fold_if, kept_valid}
use Rattle.sb_laws.proofs.Tables.{equal}
use Rattle.sb_feed.specs.declared.key.KeyBytes.{KeyBytes}
use Rattle.sb_feed.specs.declared.parts.Part.{Part}
use Rattle.sb_feed.specs.Keys.{key_order, same_key, key_order-IsAntisymmetric}
use Rattle.sb_feed.specs.Jobs.{Dictionaries, AreValid}
use Rattle.sb_feed.specs.Stands.{batch_value, key_values, sum_at, keyed_values}

-- keys with the same store and text are equal
pub same_is_equal : (a b : KeyBytes) → same_key a b ≡ true → a ≡ b
same_is_equal a b e = key_order-IsAntisymmetric a b (equal (key_order a b) e)

pub filter_twice : {A : Type 0} (s t : A → Bool) (xs : List A) → filter s (filter t xs) ≡ filter (λ x. t x && s x) xs
filter_twice s t [] = refl
filter_twice {A = A} s t (x ∷ xs) = elim (t x) as (λ b. filter s (cond b (x ∷ filter t xs) (filter t xs)) ≡ cond (b && s x) (x ∷ filter (λ y. t y && s y) xs) (filter (λ y. t y && s y) xs)) [
  | true ↦ ap (λ (l : List A). cond (s x) (x ∷ l) l) (filter_twice s t xs)
  | false ↦ filter_twice s t xs
]

pub valid_filter : {A : Type 0} (P : A → Type 0) (s : A → Bool) (xs : List A) → AllByRecursion P xs → AllByRecursion P (filter s xs)
valid_filter P s [] h = tt
valid_filter {A = A} P s (x ∷ xs) h = elim (s x) as (λ b. AllByRecursion P (cond b (x ∷ filter s xs) (filter s xs))) [ true ↦ (h.0, valid_filter P s xs h.1) | false ↦ valid_filter P s xs h.1 ]

pub valid_append : {A : Type 0} (P : A → Type 0) (xs ys : List A) → AllByRecursion P xs → AllByRecursion P ys → AllByRecursion P (xs ++ ys)
valid_append P [] ys h k = k
valid_append P (x ∷ xs) ys h k = (h.0, valid_append P xs ys h.1 k)

test_turn : (g : ℕ → Bool) (b j : ℕ) (t : Bool) → (b == j) ≡ t → (g b && t) ≡ (g j && t)
test_turn g b j true e = ap (λ n. g n && true) (eqb-true _ _ e)
test_turn g b j false e = both_false (g b) (g j)
  where
    both_false : (x y : Bool) → (x && false) ≡ (y && false)
    both_false true true = refl
    both_false true false = refl
    both_false false true = refl
    both_false false false = refl

module _ {E : Type 0} where
  -- of the values that pass one test, those that pass another
  pub fold_filter : (add : E → E → E) (g s : ℕ → Bool) (xs : List (ℕ × E)) → fold_over add (filter (λ x. g x.0) xs) s ≡ fold_over add xs (λ b. g b && s b)
  fold_filter add g s xs = ap (λ l. sum_of add (map (λ (x : ℕ × E). x.1) l)) (filter_twice (λ (x : ℕ × E). s x.0) (λ x. g x.0) xs)

  pub values_append : (key : KeyBytes) (xs ys : List (Part E)) → key_values key (xs ++ ys) ≡ key_values key xs ++ key_values key ys
  values_append key xs ys =
      ap (map batch_value) (filter-append (λ (part : Part E). same_key key part.key) xs ys)
      ∙ map-append batch_value (filter (λ part. same_key key part.key) xs) (filter (λ part. same_key key part.key) ys)

  pub values_filter : (g : ℕ → Bool) (key : KeyBytes) (xs : List (Part E)) → key_values key (filter (λ part. g part.batch) xs) ≡ filter (λ x. g x.0) (key_values key xs)
  values_filter g key [] = refl
  values_filter g key (x ∷ xs) =
      let rest = values_filter g key xs in
      elim (g x.batch) as (λ b. (g x.batch ≡ b) → key_values key (cond b (x ∷ filter (λ part. g part.batch) xs) (filter (λ part. g part.batch) xs)) ≡ filter (λ y. g y.0) (key_values key (x ∷ xs))) [
        | true ↦ λ e. elim (same_key key x.key) as (λ k. map batch_value (cond k (x ∷ filter (λ part. same_key key part.key) (filter (λ part. g part.batch) xs)) (filter (λ part. same_key key part.key) (filter (λ part. g part.batch) xs)))
            ≡ filter (λ (y : ℕ × E). g y.0) (map batch_value (cond k (x ∷ filter (λ part. same_key key part.key) xs) (filter (λ part. same_key key part.key) xs)))) [
              | true ↦ ap (λ (l : List (ℕ × E)). (x.batch, x.value) ∷ l) rest ∙ ap (λ (b : Bool). cond b ((x.batch, x.value) ∷ filter (λ y. g y.0) (key_values key xs)) (filter (λ y. g y.0) (key_values key xs))) (sym e)
              | false ↦ rest
            ]
        | false ↦ λ e. elim (same_key key x.key) as (λ k. key_values key (filter (λ part. g part.batch) xs)
            ≡ filter (λ (y : ℕ × E). g y.0) (map batch_value (cond k (x ∷ filter (λ part. same_key key part.key) xs) (filter (λ part. same_key key part.key) xs)))) [
              | true ↦ rest ∙ ap (λ (b : Bool). cond b ((x.batch, x.value) ∷ filter (λ y. g y.0) (key_values key xs)) (filter (λ y. g y.0) (key_values key xs))) (sym e)
              | false ↦ rest
            ]
      ] refl

  -- the sums of the parts of some batches
  pub sum_filter : (add : ℕ → E → E → E) (g : ℕ → Bool) (key : KeyBytes) (j : ℕ) (xs : List (Part E)) → sum_at add key j (filter (λ part. g part.batch) xs) ≡ cond (g j) (sum_at add key j xs) None
  sum_filter add g key j xs =
      ap (λ l. fold_over (add key.store) l (λ b. b == j)) (values_filter g key xs)
      ∙ (fold_filter (add key.store) g (λ b. b == j) (key_values key xs)
      ∙ (fold_same (add key.store) (key_values key xs) _ (λ b. g j && (b == j)) (λ b. test_turn g b j _ refl)
      ∙ fold_if (add key.store) (key_values key xs) (g j) (λ b. b == j)))

  module _ (d : Dictionaries E) where
    -- the values of a key are of its store
    pub values_valid : (key : KeyBytes) (xs : List (Part E)) → AreValid d (keyed_values xs) → AllByRecursion (λ x. d.valid key.store x.1) (key_values key xs)
    values_valid key [] h = tt
    values_valid key (x ∷ xs) h = elim (same_key key x.key) as (λ k. (same_key key x.key ≡ k) → AllByRecursion (λ (y : ℕ × E). d.valid key.store y.1) (map batch_value (cond k (x ∷ filter (λ part. same_key key part.key) xs) (filter (λ part. same_key key part.key) xs)))) [
      | true ↦ λ e. (subst (λ (k : KeyBytes). d.valid k.store x.value) (sym (same_is_equal key x.key e)) h.0.1, values_valid key xs h.1)
      | false ↦ λ e. values_valid key xs h.1
    ] refl

    pub keyed_append : (xs ys : List (Part E)) → AreValid d (keyed_values xs) → AreValid d (keyed_values ys) → AreValid d (keyed_values (xs ++ ys))
    keyed_append [] ys h k = k
    keyed_append (x ∷ xs) ys h k = (h.0, keyed_append xs ys h.1 k)

    pub keyed_filter : (s : Part E → Bool) (xs : List (Part E)) → AreValid d (keyed_values xs) → AreValid d (keyed_values (filter s xs))
    keyed_filter s [] h = tt
    keyed_filter s (x ∷ xs) h = elim (s x) as (λ b. AreValid d (keyed_values (cond b (x ∷ filter s xs) (filter s xs)))) [ true ↦ (h.0, keyed_filter s xs h.1) | false ↦ keyed_filter s xs h.1 ]

    -- the sum of two lists in a row
    pub sum_both : (key : KeyBytes) (j : ℕ) (xs ys : List (Part E)) → SemigroupLaws (d.valid key.store) (d.add key.store) → AreValid d (keyed_values xs) → AreValid d (keyed_values ys)
        → sum_at d.add key j (xs ++ ys) ≡ both_sums (d.add key.store) (sum_at d.add key j xs) (sum_at d.add key j ys)
    sum_both key j xs ys laws h k =
        let a = d.add key.store in
        let test : ℕ × E → Bool = λ x. x.0 == j in
        ap (λ l. fold_over a l (λ b. b == j)) (values_append key xs ys)
        ∙ (ap (λ l. sum_of a (map (λ (x : ℕ × E). x.1) l)) (filter-append test (key_values key xs) (key_values key ys))
        ∙ (ap (sum_of a) (map-append (λ (x : ℕ × E). x.1) (filter test (key_values key xs)) (filter test (key_values key ys)))
        ∙ sum_append (d.valid key.store) a laws _ _ (kept_valid (d.valid key.store) (key_values key xs) (λ b. b == j) (values_valid key xs h)) (kept_valid (d.valid key.store) (key_values key ys) (λ b. b == j) (values_valid key ys k))))
