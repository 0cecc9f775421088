-- A value added in its place in a table by numbers keeps the folds over every set of numbers.
use Rattle.std.proofs.Common.{◌≡◌, ℕ, Bool, true, false, cond, List, [], ◌∷◌, Option, Some, refl, sym, ap, ◌∙◌}
use Rattle.std.specs.Prelude.{◌==◌, nat_lt}
use Rattle.std.proofs.lemmas.Bool.{eqb-true}
use Rattle.std.specs.List.{AllByRecursion}
use Rattle.std.specs.declared.cmp.Ordering.TheVariants.{Less, Equal, Greater}
use Rattle.std.specs.Ordering.{nat_cmp}
use Rattle.std.specs.FinMap.Entries.{by_order}
use Rattle.sb_laws.specs.Sums.{IsValid, CommutingLaws}
use Rattle.sb_laws.specs.Folds.{fold_over}
use Rattle.sb_laws.specs.Tables.{add_to}
use Rattle.sb_laws.proofs.Sums.{both_associates}
use Rattle.sb_laws.proofs.Positions.{added_if, fold_valid, fold_first, both_turn}

same : (x y : ℕ) (t u : Bool) → nat_lt x y ≡ t → (x == y) ≡ u → cond t Less (cond u Equal Greater) ≡ Equal → x ≡ y
same x y true u a b q = cc
same x y false true a b q = eqb-true _ _ b
same x y false false a b q = cc

module _ {E : Type 0} (V : E → Type 0) (add : E → E → E) (laws : CommutingLaws V add) where
  valid : (k : ℕ) (v : E) (t : List (ℕ × E)) → V v → AllByRecursion (λ x. V x.1) t → AllByRecursion (λ x. V x.1) (add_to nat_cmp add k v t)
  valid k v [] p h = (p, tt)
  valid k v (e ∷ t) p h = elim (nat_cmp k e.0) as (λ o. AllByRecursion (λ x. V x.1) (by_order o ((k, v) ∷ e ∷ t) ((e.0, add e.1 v) ∷ t) (e ∷ add_to nat_cmp add k v t))) [
    | Less ↦ (p, h)
    | Equal ↦ (laws.semigroup.keeps_valid e.1 v h.0 p, h.1)
    | Greater ↦ (h.0, valid k v t p h.1)
  ]

  added_turn : (b c : Bool) (x y : E) (r : Option E) → V x → V y → IsValid V r → added_if add b x (added_if add c y r) ≡ added_if add c y (added_if add b x r)
  added_turn true true x y r p q w = both_turn V add laws (Some x) (Some y) r p q w
  added_turn true false x y r p q w = refl
  added_turn false true x y r p q w = refl
  added_turn false false x y r p q w = refl

  added_joined : (b : Bool) (x y : E) (r : Option E) → V x → V y → IsValid V r → added_if add b (add x y) r ≡ added_if add b y (added_if add b x r)
  added_joined true x y r p q w = both_associates V add laws.semigroup (Some x) (Some y) r p q w ∙ both_turn V add laws (Some x) (Some y) r p q w
  added_joined false x y r p q w = refl

  -- the fold over any numbers is that before, with the value added where its number is one of them
  pub add_to_sums : (s : ℕ → Bool) (k : ℕ) (v : E) (t : List (ℕ × E)) → V v → AllByRecursion (λ x. V x.1) t
      → fold_over add (add_to nat_cmp add k v t) s ≡ added_if add (s k) v (fold_over add t s)
  add_to_sums s k v [] p h = fold_first V add laws.semigroup (k, v) [] s p tt
  add_to_sums s k v (e ∷ t) p h =
      elim (nat_cmp k e.0) as (λ o. nat_cmp k e.0 ≡ o → fold_over add (by_order o ((k, v) ∷ e ∷ t) ((e.0, add e.1 v) ∷ t) (e ∷ add_to nat_cmp add k v t)) s ≡ added_if add (s k) v (fold_over add (e ∷ t) s)) [
        | Less ↦ λ q. fold_first V add laws.semigroup (k, v) (e ∷ t) s p h
        | Equal ↦ λ q. fold_first V add laws.semigroup (e.0, add e.1 v) t s (laws.semigroup.keeps_valid e.1 v h.0 p) h.1
            ∙ (added_joined (s e.0) e.1 v (fold_over add t s) h.0 p (fold_valid V add laws.semigroup t s h.1)
            ∙ (ap (λ (n : ℕ). added_if add (s n) v (added_if add (s e.0) e.1 (fold_over add t s))) (sym (same k e.0 _ _ refl refl q))
            ∙ ap (added_if add (s k) v) (sym (fold_first V add laws.semigroup e t s h.0 h.1))))
        | Greater ↦ λ q. fold_first V add laws.semigroup e (add_to nat_cmp add k v t) s h.0 (valid k v t p h.1)
            ∙ (ap (added_if add (s e.0) e.1) (add_to_sums s k v t p h.1)
            ∙ (added_turn (s e.0) (s k) e.1 v (fold_over add t s) h.0 p (fold_valid V add laws.semigroup t s h.1)
            ∙ ap (added_if add (s k) v) (sym (fold_first V add laws.semigroup e t s h.0 h.1))))
      ] refl
