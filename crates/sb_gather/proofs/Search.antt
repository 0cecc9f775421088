-- What a search in a list in order finds, and what a change at that place does.
use Rattle.std.proofs.Common.{◌≡◌, ◌≢◌, ℕ, zero, suc, ◌<◌, ◌≤◌, List, [], ◌∷◌, length, take, drop, Some, refl, sym, ap, subst, ◌∙◌, arith}
use Rattle.std.specs.Prelude.{slice_get, slice_set, slice_index_or, remove}
use Rattle.std.specs.List.{AllByRecursion, insert}
use Rattle.std.specs.Option.{unwrap_or}
use Rattle.std.specs.declared.cmp.Ordering.{Ordering}
use Rattle.std.specs.declared.cmp.Ordering.TheVariants.{Less, Equal, Greater}
use Rattle.std.specs.Cmp.{IsTotalOrder}
use Rattle.std.specs.FinMap.Entries.{by_order}
use Rattle.sb_gather.specs.Entries.{IsRising, entry_added}
use Rattle.sb_gather.specs.Places.{IsHere}
use Rattle.sb_gather.specs.Tops.{IsRanked, placed}
use Rattle.sb_gather.specs.EntryLaws.{less_back, greater_back, greater_trans, equal_back}
use Rattle.sb_gather.specs.TopLaws.{placed_after, first_placed}

pub same_some : {A : Type 0} (x y : A) → Some x ≡ Some y → x ≡ y
same_some x y e = ap (λ o. unwrap_or o x) e

-- what holds of all holds of the one at a place
pub holds_at : {A : Type 0} (P : A → Type 0) (xs : List A) (at : ℕ) (x : A) → AllByRecursion P xs → slice_get xs at ≡ Some x → P x
holds_at P [] at x h e = cc
holds_at P (y ∷ xs) zero x h e = subst P (same_some y x e) h.0
holds_at P (y ∷ xs) (suc at) x h e = holds_at P xs at x h.1 e

-- an element at a place, by both words for it
pub got : {A : Type 0} (xs : List A) (at : ℕ) (x : A) → at < length xs → x ≡ slice_index_or xs at x → slice_get xs at ≡ Some x
got [] at x lt e = absurd (omega (arith, lt))
got (y ∷ xs) zero x lt e = ap Some (sym e)
got (y ∷ xs) (suc at) x lt e = got xs at x (omega (arith, lt)) e

pub remove_inserted : {A : Type 0} (xs : List A) (at : ℕ) (x : A) → at ≤ length xs → remove (insert xs at x) at ≡ xs
remove_inserted xs zero x h = refl
remove_inserted [] (suc at) x h = absurd (omega (arith, h))
remove_inserted (y ∷ xs) (suc at) x h = ap (λ l. y ∷ l) (remove_inserted xs at x (omega (arith, h)))

pub inserted_longer : {A : Type 0} (xs : List A) (at : ℕ) (x : A) → at ≤ length xs → at < length (insert xs at x)
inserted_longer xs zero x h = omega arith
inserted_longer [] (suc at) x h = absurd (omega (arith, h))
inserted_longer (y ∷ xs) (suc at) x h = omega (arith, inserted_longer xs at x (omega (arith, h)))

pub set_back : {A : Type 0} (xs : List A) (at : ℕ) (x y : A) → slice_get xs at ≡ Some x → slice_set (slice_set xs at y) at x ≡ xs
set_back [] at x y e = cc
set_back (z ∷ xs) zero x y e = ap (λ w. w ∷ xs) (sym (same_some z x e))
set_back (z ∷ xs) (suc at) x y e = ap (λ l. z ∷ l) (set_back xs at x y e)

pub get_set : {A : Type 0} (xs : List A) (at : ℕ) (x y : A) → slice_get xs at ≡ Some x → slice_get (slice_set xs at y) at ≡ Some y
get_set [] at x y e = cc
get_set (z ∷ xs) zero x y e = refl
get_set (z ∷ xs) (suc at) x y e = get_set xs at x y e

greater_if : (r : Ordering) → r ≢ Equal → r ≢ Less → r ≡ Greater
greater_if Less p q = absurd (q refl)
greater_if Equal p q = absurd (p refl)
greater_if Greater p q = refl

module _ {X : Type 0} (R : X → X → Ordering) (o : IsTotalOrder R) where
  not_greater : (x y : X) → R x y ≡ Greater → R y x ≢ Less → R x y ≡ Less
  not_greater x y p q = absurd (q (greater_back R o x y p))

  -- x is after y, and z isn't after y: x is after z
  pub above : (x y z : X) → R x y ≡ Greater → R y z ≢ Less → R x z ≡ Greater
  above x y z p q = elim (R y z) as (λ r. R y z ≡ r → R x z ≡ Greater) [
    | Less ↦ λ e. absurd (q e)
    | Equal ↦ λ e. less_back R o z x (o.congr z y x (equal_back R o y z e) ∙ greater_back R o x y p)
    | Greater ↦ λ e. greater_trans R o x y z p e
  ] refl

  -- x is before y, and z isn't before y: x is before z
  pub below : (x y z : X) → R x y ≡ Less → R z y ≢ Less → R x z ≡ Less
  below x y z p q = elim (R z y) as (λ r. R z y ≡ r → R x z ≡ Less) [
    | Less ↦ λ e. absurd (q e)
    | Equal ↦ λ e. greater_back R o z x (o.congr z y x e ∙ less_back R o x y p)
    | Greater ↦ λ e. o.trans x y z p (greater_back R o z y e)
  ] refl

  -- where an entry is before x, so are those before it
  pub all_above : (x : X) (xs : List X) (at : ℕ) (y : X) → IsRanked R xs → slice_get xs at ≡ Some y → R x y ≡ Greater
      → AllByRecursion (λ z. R x z ≡ Greater) (take (suc at) xs)
  all_above x [] at y h e p = tt
  all_above x (z ∷ xs) zero y h e p = (ap (R x) (same_some z y e) ∙ p, tt)
  all_above x (z ∷ xs) (suc at) y h e p = (above x y z p (holds_at (λ w. R w z ≢ Less) xs at y h.0 e), all_above x xs at y h.1 e p)

  rest_below : (x y : X) (xs : List X) → R x y ≡ Less → AllByRecursion (λ z. R z y ≢ Less) xs → AllByRecursion (λ z. R x z ≡ Less) xs
  rest_below x y [] p h = tt
  rest_below x y (z ∷ xs) p h = (below x y z p h.0, rest_below x y xs p h.1)

  -- where an entry is after x, so are those from it on
  pub all_below : (x : X) (xs : List X) (at : ℕ) (y : X) → IsRanked R xs → slice_get xs at ≡ Some y → R x y ≡ Less
      → AllByRecursion (λ z. R x z ≡ Less) (drop at xs)
  all_below x [] at y h e p = cc
  all_below x (z ∷ xs) zero y h e p =
      let q : R x z ≡ Less = ap (R x) (same_some z y e) ∙ p in
      (q, rest_below x z xs q h.0)
  all_below x (z ∷ xs) (suc at) y h e p = all_below x xs at y h.1 e p

  none_before : (x : X) (xs : List X) → AllByRecursion (λ y. R x y ≡ Less) xs → AllByRecursion (λ y. R y x ≢ Less) xs
  none_before x [] h = tt
  none_before x (y ∷ xs) h = (λ e. cc' (less_back R o x y h.0) e, none_before x xs h.1)
    where
      cc' : {r : Ordering} → r ≡ Greater → r ≡ Less → ⊥
      cc' p q = cc

  pub ranked_rising : (xs : List X) → IsRising R xs → IsRanked R xs
  ranked_rising [] h = tt
  ranked_rising (x ∷ xs) h = (none_before x xs h.0, ranked_rising xs h.1)

  module _ (join : X → X → X) where
    -- at the place of a tie the two are joined
    pub added_here : (x : X) (xs : List X) (at : ℕ) (y : X) → IsRising R xs → slice_get xs at ≡ Some y → R x y ≡ Equal
        → entry_added R join x xs ≡ slice_set xs at (join y x)
    added_here x [] at y h e p = cc
    added_here x (z ∷ xs) zero y h e p =
        let same = same_some z y e in
        ap (λ r. by_order r (x ∷ z ∷ xs) (join z x ∷ xs) (z ∷ entry_added R join x xs)) (ap (R x) same ∙ p) ∙ ap (λ w. join w x ∷ xs) same
    added_here x (z ∷ xs) (suc at) y h e p =
        let up : R x z ≡ Greater = o.congr x y z p ∙ less_back R o z y (holds_at (λ w. R z w ≡ Less) xs at y h.0 e) in
        ap (λ r. by_order r (x ∷ z ∷ xs) (join z x ∷ xs) (z ∷ entry_added R join x xs)) up ∙ ap (λ l. z ∷ l) (added_here x xs at y h.1 e p)

    -- in a gap the entry comes in
    pub added_in_gap : (x : X) (xs : List X) (at : ℕ) → AllByRecursion (λ y. R x y ≡ Greater) (take at xs) → AllByRecursion (λ y. R x y ≡ Less) (drop at xs)
        → entry_added R join x xs ≡ insert xs at x
    added_in_gap x [] zero p q = refl
    added_in_gap x [] (suc at) p q = refl
    added_in_gap x (z ∷ xs) zero p q = ap (λ r. by_order r (x ∷ z ∷ xs) (join z x ∷ xs) (z ∷ entry_added R join x xs)) q.0
    added_in_gap x (z ∷ xs) (suc at) p q =
        ap (λ r. by_order r (x ∷ z ∷ xs) (join z x ∷ xs) (z ∷ entry_added R join x xs)) p.0 ∙ ap (λ l. z ∷ l) (added_in_gap x xs at p.1 q)

  pub placed_in_gap : (x : X) (xs : List X) (at : ℕ) → AllByRecursion (λ y. R x y ≡ Greater) (take at xs) → AllByRecursion (λ y. R x y ≡ Less) (drop at xs)
      → placed R x xs ≡ insert xs at x
  placed_in_gap x [] zero p q = refl
  placed_in_gap x [] (suc at) p q = refl
  placed_in_gap x (z ∷ xs) zero p q = ap (λ r. by_order r (x ∷ z ∷ xs) (z ∷ placed R x xs) (z ∷ placed R x xs)) q.0
  placed_in_gap x (z ∷ xs) (suc at) p q =
      ap (λ r. by_order r (x ∷ z ∷ xs) (z ∷ placed R x xs) (z ∷ placed R x xs)) p.0 ∙ ap (λ l. z ∷ l) (placed_in_gap x xs at p.1 q)

  module _ (same : (x y : X) → R x y ≡ Equal → x ≡ y) where
    -- before one that is equal, or after it: the list is the same
    pub placed_here : (x : X) (xs : List X) (at : ℕ) (y : X) → IsRanked R xs → slice_get xs at ≡ Some y → R x y ≡ Equal → placed R x xs ≡ insert xs at x
    placed_here x [] at y h e p = cc
    placed_here x (z ∷ xs) zero y h e p =
        let is : x ≡ z = same x y p ∙ sym (same_some z y e) in
        placed_after R x z xs (λ q. cc)
        ∙ (ap (λ w. z ∷ placed R w xs) is ∙ (ap (λ l. z ∷ l) (sym (first_placed R o same z xs h)) ∙ ap (λ w. w ∷ z ∷ xs) (sym is)))
    placed_here x (z ∷ xs) (suc at) y h e p =
        placed_after R x z xs (λ q. holds_at (λ w. R w z ≢ Less) xs at y h.0 e (sym (o.congr x y z p) ∙ q))
        ∙ ap (λ l. z ∷ l) (placed_here x xs at y h.1 e p)

element_at : {X : Type 0} (xs : List X) (at : ℕ) → at < length xs → (x : X) × (slice_get xs at ≡ Some x)
element_at [] at h = absurd (omega (arith, h))
element_at (x ∷ xs) zero h = (x, refl)
element_at (x ∷ xs) (suc at) h = element_at xs at (omega (arith, h))

-- the entry that was found
pub here_of : {X : Type 0} (R : X → X → Ordering) (x : X) (xs : List X) (at : ℕ) → IsHere R x xs at → (y : X) × (slice_get xs at ≡ Some y) × (R x y ≡ Equal)
here_of R x xs at h = let there = element_at xs at h.0 in (there.0, there.1, h.1 there.0 there.1)
