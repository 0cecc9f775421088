-- Folds taken record by record are those over the emissions in their order, where the plus commutes.
use Rattle.std.proofs.Common.{◌≡◌, ℕ, suc, ◌+◌, ◌<◌, Bool, true, false, cond, ◌&&◌, List, [], ◌∷◌, ◌++◌, map, filter, length, Option, Some, None, refl, sym, ap, subst, ◌∙◌, arith, T}
use Rattle.std.specs.Prelude.{◌==◌, nat_le}
use Rattle.std.specs.FinMap.{find, is_sorted}
use Rattle.std.specs.FinMap.Entries.{below_all}
use Rattle.std.specs.List.{AllByRecursion}
use Rattle.std.specs.Ordering.{is_eq}
use Rattle.std.specs.Cmp.{IsTotalOrder}
use Rattle.std.specs.declared.cmp.Ordering.TheVariants.{Less, Equal, Greater}
use Rattle.std.proofs.lemmas.Bool.{eqb-true}
use Rattle.std.proofs.lemmas.Bool.Decides.{nat_tests}
use Rattle.sb_laws.specs.Folds.{fold_over, IsSplit}
use Rattle.sb_laws.specs.Sums.{sum_of, both_sums, IsValid, SemigroupLaws, CommutingLaws}
use Rattle.sb_laws.specs.Tables.{values_at}
use Rattle.sb_laws.proofs.Positions.{ap_both, added_if, fold_same, fold_if, fold_first, fold_splits, fold_valid}
use Rattle.sb_laws.proofs.Tables.{first, second, truly}
use Rattle.sb_feed.specs.declared.key.KeyBytes.{KeyBytes}
use Rattle.sb_feed.specs.Jobs.{Record, values_from}
use Rattle.sb_feed.specs.Keys.{key_order, same_key}
use Rattle.sb_feed.proofs.KeyTies.{key_order_total}
use Rattle.sb_laws.proofs.Tables.{less as T_less}
use Rattle.sb_plan.proofs.Found.{AreRising, AreFound, found_as}

-- what is there, as a list
abbrev pub listed : {E : Type 0} → Option E → List E
listed None = []
listed (Some value) = value ∷ []

o : IsTotalOrder key_order
o = key_order_total

all_pass : (a b : Bool) → b ≡ true → (a && b) ≡ a
all_pass true true e = refl
all_pass false b e = refl
all_pass true false e = cc

never : (b : Bool) → (b && false) ≡ false
never true = refl
never false = refl

module _ {E : Type 0} where
  none_below : (key : KeyBytes) (k : KeyBytes) (parts : List (KeyBytes × E)) → key_order key k ≡ Equal → T (below_all key_order k parts) → values_at key_order key parts ≡ []
  none_below key k [] e h = refl
  none_below key k (p ∷ parts) e h =
      let less : key_order key p.0 ≡ Less = o.congr key k p.0 e ∙ T_less _ (first _ _ h) in
      ap (λ r. map (λ (x : KeyBytes × E). x.1) (cond (is_eq r) (p ∷ filter (λ part. same_key key part.0) parts) (filter (λ part. same_key key part.0) parts))) less ∙ none_below key k parts e (second _ _ h)

  -- rising parts have at most one value at a key
  values_found : (key : KeyBytes) (parts : List (KeyBytes × E)) → T (is_sorted key_order parts) → values_at key_order key parts ≡ listed (find key_order key parts)
  values_found key [] h = refl
  values_found key (p ∷ parts) h =
      let rest = values_found key parts (second _ _ h) in
      elim (key_order key p.0) as (λ r. key_order key p.0 ≡ r → map (λ (x : KeyBytes × E). x.1) (cond (is_eq r) (p ∷ filter (λ part. same_key key part.0) parts) (filter (λ part. same_key key part.0) parts))
      ≡ listed (cond (is_eq r) (Some p.1) (find key_order key parts))) [
        | Equal ↦ λ e. ap (λ vs. p.1 ∷ vs) (none_below key p.0 parts e (first _ _ h))
        | Less ↦ λ e. rest
        | Greater ↦ λ e. rest
      ] refl

  none_beyond : (xs : List (ℕ × E)) (n : ℕ) (passes : ℕ → Bool) → AllByRecursion (λ x. x.0 < n) xs → filter (λ (x : ℕ × E). passes x.0 && nat_le n x.0) xs ≡ []
  none_beyond [] n passes h = refl
  none_beyond (x ∷ xs) n passes h =
      let out : nat_le n x.0 ≡ false = grind (arith, nat_tests, h.0) in
      ap (λ b. cond b (x ∷ filter (λ (y : ℕ × E). passes y.0 && nat_le n y.0) xs) (filter (λ (y : ℕ × E). passes y.0 && nat_le n y.0) xs)) (ap (λ b. passes x.0 && b) out ∙ never (passes x.0))
      ∙ none_beyond xs n passes h.1

-- from a place on is at the place, or behind it
split_at : (i p : ℕ) (passes : ℕ → Bool) → IsSplit (passes p && nat_le i p) (passes i && (p == i)) (passes p && nat_le (suc i) p)
split_at i p passes = by _ _ _ refl refl refl
  where
    here : (b : Bool) → IsSplit (b && true) (b && true) (b && false)
    here true = tt
    here false = tt

    behind : (a b : Bool) → IsSplit (a && true) (b && false) (a && true)
    behind true true = tt
    behind true false = tt
    behind false true = tt
    behind false false = tt

    before : (a b : Bool) → IsSplit (a && false) (b && false) (a && false)
    before true true = tt
    before true false = tt
    before false true = tt
    before false false = tt

    by : (l m s : Bool) → nat_le i p ≡ l → nat_le (suc i) p ≡ m → (p == i) ≡ s → IsSplit (passes p && l) (passes i && s) (passes p && m)
    by true false true e f g = subst (λ q. IsSplit (passes q && true) (passes i && true) (passes q && false)) (sym (eqb-true _ _ g)) (here (passes i))
    by true true false e f g = behind (passes p) (passes i)
    by false false false e f g = before (passes p) (passes i)
    by true true true e f g = absurd (grind (arith, nat_tests))
    by true false false e f g = absurd (grind (arith, nat_tests))
    by false true s e f g = absurd (grind (arith, nat_tests))
    by false false true e f g = absurd (grind (arith, nat_tests))

-- what is there, at a place, before other values
module _ {E : Type 0} (V : E → Type 0) (i : ℕ) (rest : List (ℕ × E)) where
  listed_valid : (w : Option E) → IsValid V w → AllByRecursion (λ x. V x.1) rest → AllByRecursion (λ x. V x.1) (map (λ value. (i, value)) (listed w) ++ rest)
  listed_valid None p h = h
  listed_valid (Some value) p h = (p, h)

  listed_first : (add : E → E → E) (laws : SemigroupLaws V add) (passes : ℕ → Bool) (w : Option E) → IsValid V w → AllByRecursion (λ x. V x.1) rest
      → fold_over add (map (λ value. (i, value)) (listed w) ++ rest) passes ≡ both_sums add (cond (passes i) w None) (fold_over add rest passes)
  listed_first add laws passes None p h = elim (passes i) as (λ b. fold_over add rest passes ≡ both_sums add (cond b None None) (fold_over add rest passes)) [ true ↦ refl | false ↦ refl ]
  listed_first add laws passes (Some value) p h =
      fold_first V add laws (i, value) rest passes p h
      ∙ elim (passes i) as (λ b. added_if add b value (fold_over add rest passes) ≡ both_sums add (cond b (Some value) None) (fold_over add rest passes)) [ true ↦ refl | false ↦ refl ]

module _ {E : Type 0} (V : E → Type 0) (add : E → E → E) (laws : CommutingLaws V add) (key : KeyBytes) (xs : List (ℕ × E)) (valid : AllByRecursion (λ x. V x.1) xs) (passes : ℕ → Bool) where
  abbrev at_place : ℕ → Option E
  at_place i = fold_over add xs (λ p. p == i)

  values_valid : (i : ℕ) (due : ℕ → Option E) (records : List (Record E)) → ((j : ℕ) → IsValid V (due j)) → AreRising records → AreFound key due records → AllByRecursion (λ x. V x.1) (values_from key i records)
  values_valid i due [] v up h = tt
  values_valid i due (r ∷ records) v up h =
      subst (λ vs. AllByRecursion (λ x. V x.1) (map (λ value. (i, value)) vs ++ values_from key (suc i) records)) (sym (values_found key r.parts (truly _ up.0) ∙ ap listed h.0))
      (listed_valid V i (values_from key (suc i) records) (due 0) (v 0) (values_valid (suc i) (λ j. due (suc j)) records (λ j. v (suc j)) up.1 h.1))

  from_place : (i : ℕ) (records : List (Record E)) → AreRising records → AreFound key (λ j. at_place (i + j)) records → AllByRecursion (λ x. x.0 < i + length records) xs
      → fold_over add (values_from key i records) passes ≡ fold_over add xs (λ p. passes p && nat_le i p)
  from_place i [] up h within =
      let none = none_beyond xs i passes (subst (λ n. AllByRecursion (λ x. x.0 < n) xs) (omega arith) within) in
      ap (λ l. sum_of add (map (λ (x : ℕ × E). x.1) l)) (sym none)
  from_place i (r ∷ records) up h within =
      let same : i + 0 ≡ i = omega arith in
      let rest = found_as key (λ j. at_place (i + suc j)) (λ j. at_place (suc i + j)) records (λ j. ap at_place (omega arith)) h.1 in
      let valid_at : (j : ℕ) → IsValid V (at_place j) = λ j. fold_valid V add laws.semigroup xs (λ p. p == j) valid in
      ap (λ vs. fold_over add (map (λ value. (i, value)) vs ++ values_from key (suc i) records) passes) (values_found key r.parts (truly _ up.0) ∙ ap listed (h.0 ∙ ap at_place same))
      ∙ (listed_first V i (values_from key (suc i) records) add laws.semigroup passes (at_place i) (valid_at i) (values_valid (suc i) (λ j. at_place (suc i + j)) records (λ j. valid_at (suc i + j)) up.1 rest)
      ∙ (ap_both (both_sums add) (sym (fold_if add xs (passes i) (λ p. p == i))) (from_place (suc i) records up.1 rest (subst (λ n. AllByRecursion (λ x. x.0 < n) xs) (omega arith) within))
      ∙ sym (fold_splits V add laws xs (λ p. passes p && nat_le i p) (λ p. passes i && (p == i)) (λ p. passes p && nat_le (suc i) p) valid (λ p. split_at i p passes))))

  pub folds_same : (records : List (Record E)) → AreRising records → AreFound key at_place records → AllByRecursion (λ x. x.0 < length records) xs
      → fold_over add (values_from key 0 records) passes ≡ fold_over add xs passes
  folds_same records up h within =
      from_place 0 records up (found_as key at_place (λ j. at_place (0 + j)) records (λ j. ap at_place (omega arith)) h) (subst (λ n. AllByRecursion (λ x. x.0 < n) xs) (omega arith) within)
      ∙ fold_same add xs (λ p. passes p && nat_le 0 p) passes (λ p. all_pass (passes p) (nat_le 0 p) (grind (arith, nat_tests)))
