-- The laws of the lesser and the greater of two numbers.
use Rattle.std.specs.Prelude.{◌≡◌, ℤ, FitsSigned}
use Rattle.std.specs.Int.{w64, int_min, int_max}
use Rattle.std.proofs.Common.{true, false, cond, arith}
use lib.Signed.{lt_z}
use Rattle.std.proofs.lemmas.Int.{ints, clamps}

pub min_fits : (a b : ℤ) → FitsSigned w64 a → FitsSigned w64 b → FitsSigned w64 (int_min a b)
min_fits a b p q = elim (lt_z b a) as (λ t. FitsSigned w64 (cond t b a)) [ true ↦ q | false ↦ p ]

pub min_associates : (a b c : ℤ) → int_min (int_min a b) c ≡ int_min a (int_min b c)
min_associates a b c = omega (arith, ints, clamps)

pub min_commutes : (a b : ℤ) → int_min a b ≡ int_min b a
min_commutes a b = omega (arith, ints, clamps)

pub max_fits : (a b : ℤ) → FitsSigned w64 a → FitsSigned w64 b → FitsSigned w64 (int_max a b)
max_fits a b p q = elim (lt_z b a) as (λ t. FitsSigned w64 (cond t a b)) [ true ↦ p | false ↦ q ]

pub max_associates : (a b c : ℤ) → int_max (int_max a b) c ≡ int_max a (int_max b c)
max_associates a b c = omega (arith, ints, clamps)

pub max_commutes : (a b : ℤ) → int_max a b ≡ int_max b a
max_commutes a b = omega (arith, ints, clamps)
