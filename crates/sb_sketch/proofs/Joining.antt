-- Cells joined one after the other, and one cell alone.
use Rattle.std.proofs.Common.{◌≡◌, ℕ, zero, suc, ◌<◌, ◌≤◌, List, [], ◌∷◌, length, Some, refl, sym, ap, ap₂, ◌∙◌, ◌+◌, arith, add-one}
use Rattle.std.specs.Prelude.{slice_get, slice_set, slice_index_or}
use Rattle.std.specs.Option.{unwrap_or}
use Rattle.sb_sketch.specs.Cells.{cell_by_cell}

pub same_some : {A : Type 0} (x y : A) → Some x ≡ Some y → x ≡ y
same_some x y e = ap (λ o. unwrap_or o x) e

module _ (join : ℕ → ℕ → ℕ) where
  -- the right list, with its first cells joined already
  abbrev pub joined_to : ℕ → List ℕ → List ℕ → List ℕ
  joined_to zero xs ys = ys
  joined_to (suc i) [] ys = ys
  joined_to (suc i) (x ∷ xs) [] = []
  joined_to (suc i) (x ∷ xs) (y ∷ ys) = join x y ∷ joined_to i xs ys

  pub joined_count : (i : ℕ) (xs ys : List ℕ) → length (joined_to i xs ys) ≡ length ys
  joined_count zero xs ys = refl
  joined_count (suc i) [] ys = refl
  joined_count (suc i) (x ∷ xs) [] = refl
  joined_count (suc i) (x ∷ xs) (y ∷ ys) = ap suc (joined_count i xs ys)

  pub joined_next : (i : ℕ) (xs ys : List ℕ) (x y : ℕ) → slice_get xs i ≡ Some x → slice_get (joined_to i xs ys) i ≡ Some y → slice_set (joined_to i xs ys) i (join x y) ≡ joined_to (suc i) xs ys
  joined_next i [] ys x y p q = cc
  joined_next zero (v ∷ xs) [] x y p q = cc
  joined_next zero (v ∷ xs) (w ∷ ys) x y p q = ap₂ (λ a b. join a b ∷ ys) (sym (same_some v x p)) (sym (same_some w y q))
  joined_next (suc i) (v ∷ xs) [] x y p q = cc
  joined_next (suc i) (v ∷ xs) (w ∷ ys) x y p q = ap (λ l. join v w ∷ l) (joined_next i xs ys x y p q)

  pub joined_all : (xs ys : List ℕ) → length ys ≡ length xs → joined_to (length xs) xs ys ≡ cell_by_cell join xs ys
  joined_all [] [] e = refl
  joined_all [] (y ∷ ys) e = absurd (omega (arith, e))
  joined_all (x ∷ xs) [] e = refl
  joined_all (x ∷ xs) (y ∷ ys) e = ap (λ l. join x y ∷ l) (joined_all xs ys (omega (arith, e)))

  -- where the right cell is 0, it may be set afterwards
  pub set_later : (q : ℕ) → ((x : ℕ) → join (join x 0) q ≡ join x q) → (xs ys : List ℕ) (at v : ℕ) → slice_get (cell_by_cell join xs ys) at ≡ Some v → slice_get ys at ≡ Some 0
      → slice_set (cell_by_cell join xs ys) at (join v q) ≡ cell_by_cell join xs (slice_set ys at q)
  set_later q law [] ys at v e z = cc
  set_later q law (x ∷ xs) [] at v e z = cc
  set_later q law (x ∷ xs) (y ∷ ys) zero v e z =
      let is : v ≡ join x 0 = sym (same_some (join x y) v e) ∙ ap (join x) (same_some y 0 z) in
      ap (λ w. w ∷ cell_by_cell join xs ys) (ap (λ w. join w q) is ∙ law x)
  set_later q law (x ∷ xs) (y ∷ ys) (suc at) v e z = ap (λ l. join x y ∷ l) (set_later q law xs ys at v e z)

pub there : (xs : List ℕ) (i : ℕ) → i < length xs → slice_get xs i ≡ Some (slice_index_or xs i 0)
there [] i h = absurd (omega (arith, h))
there (x ∷ xs) zero h = refl
there (x ∷ xs) (suc i) h = there xs i (omega (arith, h))

-- one cell more is joined
pub one_more : (join : ℕ → ℕ → ℕ) (xs ys now : List ℕ) (at y : ℕ) → now ≡ joined_to join at xs ys → at < length xs → slice_get now at ≡ Some y
    → slice_set now at (join (slice_index_or xs at 0) y) ≡ joined_to join (at + 1) xs ys
one_more join xs ys now at y is h e =
    ap (λ l. slice_set l at (join (slice_index_or xs at 0) y)) is
    ∙ (joined_next join at xs ys (slice_index_or xs at 0) y (there xs at h) (sym (ap (λ l. slice_get l at) is) ∙ e)
    ∙ ap (λ n. joined_to join n xs ys) (sym (add-one at)))

-- all cells are joined
pub all_joined : (join : ℕ → ℕ → ℕ) (xs ys now : List ℕ) (at : ℕ) → now ≡ joined_to join at xs ys → length xs ≤ at → at ≤ length xs → length ys ≡ length xs → now ≡ cell_by_cell join xs ys
all_joined join xs ys now at is p q e =
    let end : at ≡ length xs = omega (arith, p, q) in
    is ∙ (ap (λ n. joined_to join n xs ys) end ∙ joined_all join xs ys e)
