-- The laws of lists of cells.
use Rattle.std.proofs.Common.{◌≡◌, ℕ, zero, suc, ◌^◌, ◌<◌, ◌≤◌, List, [], ◌∷◌, length, refl, ap, ap₂, arith}
use Rattle.std.specs.Prelude.{max}
use Rattle.std.specs.List.{AllByRecursion}
use Rattle.sb_sketch.specs.Cells.{cell_by_cell, wrapping_sum, zeros, AreCells}

pub sums_associate : (x y z : ℕ) → wrapping_sum (wrapping_sum x y) z ≡ wrapping_sum x (wrapping_sum y z)
sums_associate x y z = omega arith

pub sums_commute : (x y : ℕ) → wrapping_sum x y ≡ wrapping_sum y x
sums_commute x y = omega arith

pub sum_fits : (x y : ℕ) → wrapping_sum x y < 2 ^ 64
sum_fits x y = omega arith

pub zero_and_sum : (x : ℕ) → x < 2 ^ 64 → wrapping_sum 0 x ≡ x
zero_and_sum x h = omega (arith, h)

pub greatest_associate : (x y z : ℕ) → max (max x y) z ≡ max x (max y z)
greatest_associate x y z = omega arith

pub greatest_commute : (x y : ℕ) → max x y ≡ max y x
greatest_commute x y = omega arith

pub greatest_within : (n x y : ℕ) → x ≤ n → y ≤ n → max x y ≤ n
greatest_within n x y p q = omega (arith, p, q)

pub zero_and_greatest : (x : ℕ) → max 0 x ≡ x
zero_and_greatest x = omega arith

module _ (join : ℕ → ℕ → ℕ) where
  pub cells_associate : ((x y z : ℕ) → join (join x y) z ≡ join x (join y z)) → (xs ys zs : List ℕ)
      → cell_by_cell join (cell_by_cell join xs ys) zs ≡ cell_by_cell join xs (cell_by_cell join ys zs)
  cells_associate law [] ys zs = refl
  cells_associate law (x ∷ xs) [] zs = refl
  cells_associate law (x ∷ xs) (y ∷ ys) [] = refl
  cells_associate law (x ∷ xs) (y ∷ ys) (z ∷ zs) = ap₂ (λ v vs. v ∷ vs) (law x y z) (cells_associate law xs ys zs)

  pub cells_commute : ((x y : ℕ) → join x y ≡ join y x) → (xs ys : List ℕ) → cell_by_cell join xs ys ≡ cell_by_cell join ys xs
  cells_commute law [] [] = refl
  cells_commute law [] (y ∷ ys) = refl
  cells_commute law (x ∷ xs) [] = refl
  cells_commute law (x ∷ xs) (y ∷ ys) = ap₂ (λ v vs. v ∷ vs) (law x y) (cells_commute law xs ys)

  count_kept : (n : ℕ) (xs ys : List ℕ) → length xs ≡ n → length ys ≡ n → length (cell_by_cell join xs ys) ≡ n
  count_kept n [] ys p q = p
  count_kept n (x ∷ xs) [] p q = q
  count_kept zero (x ∷ xs) (y ∷ ys) p q = absurd (omega (arith, p))
  count_kept (suc n) (x ∷ xs) (y ∷ ys) p q = omega (arith, count_kept n xs ys (omega (arith, p)) (omega (arith, q)))

  module _ (V : ℕ → Type 0) where
    valid_kept : ((x y : ℕ) → V x → V y → V (join x y)) → (xs ys : List ℕ) → AllByRecursion V xs → AllByRecursion V ys → AllByRecursion V (cell_by_cell join xs ys)
    valid_kept law [] ys p q = tt
    valid_kept law (x ∷ xs) [] p q = tt
    valid_kept law (x ∷ xs) (y ∷ ys) p q = (law x y p.0 q.0, valid_kept law xs ys p.1 q.1)

    pub cells_kept : ((x y : ℕ) → V x → V y → V (join x y)) → (n : ℕ) (xs ys : List ℕ) → AreCells n V xs → AreCells n V ys → AreCells n V (cell_by_cell join xs ys)
    cells_kept law n xs ys p q = record { count = count_kept n xs ys p.count q.count; valid = valid_kept law xs ys p.valid q.valid }

    zeros_first : ((x : ℕ) → V x → join 0 x ≡ x) → (n : ℕ) (xs : List ℕ) → length xs ≡ n → AllByRecursion V xs → cell_by_cell join (zeros n) xs ≡ xs
    zeros_first law zero [] p h = refl
    zeros_first law zero (x ∷ xs) p h = absurd (omega (arith, p))
    zeros_first law (suc n) [] p h = refl
    zeros_first law (suc n) (x ∷ xs) p h = ap₂ (λ v vs. v ∷ vs) (law x h.0) (zeros_first law n xs (omega (arith, p)) h.1)

    -- onto zeros the cells stay
    pub onto_zeros : ((x : ℕ) → V x → join 0 x ≡ x) → (n : ℕ) (xs : List ℕ) → AreCells n V xs → cell_by_cell join (zeros n) xs ≡ xs
    onto_zeros law n xs h = zeros_first law n xs h.count h.valid

valid_zeros : (V : ℕ → Type 0) → V 0 → (n : ℕ) → AllByRecursion V (zeros n)
valid_zeros V h zero = tt
valid_zeros V h (suc n) = (h, valid_zeros V h n)

count_zeros : (n : ℕ) → length (zeros n) ≡ n
count_zeros zero = refl
count_zeros (suc n) = ap suc (count_zeros n)

pub zeros_are_cells : (V : ℕ → Type 0) → V 0 → (n : ℕ) → AreCells n V (zeros n)
zeros_are_cells V h n = record { count = count_zeros n; valid = valid_zeros V h n }

pub zero_is_count : 0 < 2 ^ 64
zero_is_count = omega arith

pub zero_within : (n : ℕ) → 0 ≤ n
zero_within n = omega arith
