-- Lists that are sorted by the test of neighbours, and by that of all pairs.
use Rattle.std.proofs.Common.{◌≡◌, ◌≢◌, ◌∙◌, Bool, true, false, ◌&&◌, List, [], ◌∷◌, refl, sym, ap}
use Rattle.std.specs.Cmp.{IsTotalOrder}
use Rattle.std.specs.List.{AllByRecursion}
use Rattle.std.specs.Ordering.{ordering_reverse}
use Rattle.std.specs.declared.cmp.Ordering.{Ordering}
use Rattle.std.specs.declared.cmp.Ordering.TheVariants.{Less, Equal, Greater}
use Rattle.sb_gather.specs.Entries.{IsRising}
use Rattle.sb_gather.specs.Tops.{IsRanked}
use Rattle.sb_gather.specs.EntryLaws.{all_after}
use Rattle.sb_kind.specs.Read.{may_precede, precedes_first, is_sorted}

left_true : (a b : Bool) → (a && b) ≡ true → a ≡ true
left_true true b e = refl
left_true false b e = e

right_true : (a b : Bool) → (a && b) ≡ true → b ≡ true
right_true true b e = e
right_true false b e = cc

both_true : (a b : Bool) → a ≡ true → b ≡ true → (a && b) ≡ true
both_true a b p q = rw (p, q) refl

before : (o : Ordering) → may_precede false o ≡ true → o ≡ Less
before Less e = refl
before Equal e = cc
before Greater e = cc

-- what isn't after may stand before
not_after : (o : Ordering) → ordering_reverse o ≢ Less → may_precede true o ≡ true
not_after Less never = refl
not_after Equal never = refl
not_after Greater never = absurd (never refl)

not_after_back : (o : Ordering) → may_precede true o ≡ true → ordering_reverse o ≢ Less
not_after_back Less e is = cc
not_after_back Equal e is = cc
not_after_back Greater e is = cc

module _ {X : Type 0} (R : X → X → Ordering) (o : IsTotalOrder R) where
  pub rising_sorted : (xs : List X) → IsRising R xs → is_sorted false R xs ≡ true
  rising_sorted [] rising = refl
  rising_sorted (x ∷ []) rising = refl
  rising_sorted (x ∷ y ∷ ys) rising = both_true (may_precede false (R x y)) (is_sorted false R (y ∷ ys)) (ap (may_precede false) rising.0.0) (rising_sorted (y ∷ ys) rising.1)

  pub sorted_rising : (xs : List X) → is_sorted false R xs ≡ true → IsRising R xs
  sorted_rising [] e = tt
  sorted_rising (x ∷ []) e = (tt, tt)
  sorted_rising (x ∷ y ∷ ys) e =
      let rest = sorted_rising (y ∷ ys) (right_true (may_precede false (R x y)) (is_sorted false R (y ∷ ys)) e) in
      let first = before (R x y) (left_true (may_precede false (R x y)) (is_sorted false R (y ∷ ys)) e) in
      ((first, all_after R o x y ys first rest.0), rest)

  pub ranked_sorted : (xs : List X) → IsRanked R xs → is_sorted true R xs ≡ true
  ranked_sorted [] ranked = refl
  ranked_sorted (x ∷ []) ranked = refl
  ranked_sorted (x ∷ y ∷ ys) ranked =
      both_true (may_precede true (R x y)) (is_sorted true R (y ∷ ys)) (not_after (R x y) (λ e. ranked.0.0 (o.antisymm y x ∙ e))) (ranked_sorted (y ∷ ys) ranked.1)

  -- what isn't before y isn't before x, which stands before y or ties with it
  not_before : (x y z : X) → may_precede true (R x y) ≡ true → R z y ≢ Less → R z x ≢ Less
  not_before x y z first never is = elim (R x y) as (λ r. R x y ≡ r → may_precede true r ≡ true → ⊥) [
    | Less ↦ λ e _. never (o.trans z x y is e)
    | Equal ↦ λ e _. never (o.antisymm z y ∙ (ap ordering_reverse (sym (o.congr x y z e)) ∙ (sym (o.antisymm z x) ∙ is)))
    | Greater ↦ λ _ e. cc
  ] refl first

  all_not_before : (x y : X) (zs : List X) → may_precede true (R x y) ≡ true → AllByRecursion (λ z. R z y ≢ Less) zs → AllByRecursion (λ z. R z x ≢ Less) zs
  all_not_before x y [] first all = tt
  all_not_before x y (z ∷ zs) first all = (not_before x y z first all.0, all_not_before x y zs first all.1)

  pub sorted_ranked : (xs : List X) → is_sorted true R xs ≡ true → IsRanked R xs
  sorted_ranked [] e = tt
  sorted_ranked (x ∷ []) e = (tt, tt)
  sorted_ranked (x ∷ y ∷ ys) e =
      let rest = sorted_ranked (y ∷ ys) (right_true (may_precede true (R x y)) (is_sorted true R (y ∷ ys)) e) in
      let first = left_true (may_precede true (R x y)) (is_sorted true R (y ∷ ys)) e in
      (((λ is. not_after_back (R x y) first (sym (o.antisymm y x) ∙ is)), all_not_before x y ys first rest.0), rest)
