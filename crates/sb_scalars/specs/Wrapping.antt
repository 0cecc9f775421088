-- The laws of the wrapping sum of i64.
use Rattle.std.specs.Prelude.{◌≡◌, ℕ, ◌+◌, ◌%◌, ◌^◌, ℤ, FitsSigned}
use Rattle.std.specs.Int.{w64, int_wrap, int_wrapping_add}
use Rattle.std.proofs.Common.{ap, ◌∙◌, sym, arith, rules, to_z, of_z, Fits}
use Rattle.std.proofs.lemmas.Int.{ints, wrapping_add_is, int_wrap_fits}
use lib.IntN.{◌+ℤ◌, pos}
use Rattle.std.proofs.Math.Facts.{sfits_to_z, of_z-to_z}

fits_mod : (n : ℕ) → Fits w64 (n % 2 ^ 64)
fits_mod n = omega arith

pub wrapping_fits : (a b : ℤ) → FitsSigned w64 (int_wrapping_add w64 a b)
wrapping_fits a b = sfits_to_z (fits_mod (of_z w64 a + of_z w64 b))

regrouped : (a b c : ℕ) → ((a + b) % 2 ^ 64 + c) % 2 ^ 64 ≡ (a + (b + c) % 2 ^ 64) % 2 ^ 64
regrouped a b c = omega arith

pub wrapping_associates : (a b c : ℤ) → int_wrapping_add w64 (int_wrapping_add w64 a b) c ≡ int_wrapping_add w64 a (int_wrapping_add w64 b c)
wrapping_associates a b c =
    let left = of_z-to_z {w = w64} (fits_mod (of_z w64 a + of_z w64 b)) in
    let right = of_z-to_z {w = w64} (fits_mod (of_z w64 b + of_z w64 c)) in
    ap (λ n. to_z w64 ((n + of_z w64 c) % 2 ^ 64)) left
    ∙ (ap (to_z w64) (regrouped (of_z w64 a) (of_z w64 b) (of_z w64 c)) ∙ sym (ap (λ n. to_z w64 ((of_z w64 a + n) % 2 ^ 64)) right))

turned : (a b : ℕ) → (a + b) % 2 ^ 64 ≡ (b + a) % 2 ^ 64
turned a b = omega arith

pub wrapping_commutes : (a b : ℤ) → int_wrapping_add w64 a b ≡ int_wrapping_add w64 b a
wrapping_commutes a b = ap (to_z w64) (turned (of_z w64 a) (of_z w64 b))

zero_fits : FitsSigned w64 (pos 0)
zero_fits = search rules

zero_added : (a : ℤ) → pos 0 +ℤ a ≡ a
zero_added a = omega (arith, ints)

pub wrapping_zero : (a : ℤ) → FitsSigned w64 a → int_wrapping_add w64 (pos 0) a ≡ a
wrapping_zero a f = wrapping_add_is w64 (pos 0) a zero_fits f ∙ (ap (int_wrap w64) (zero_added a) ∙ int_wrap_fits w64 a f)
