-- Numbers of programs stay within 64 bits.
use Rattle.std.proofs.Common.{◌≡◌, ℕ, ◌^◌, ◌<◌, ℤ, pos, negsuc, true, false, cond, refl, sym, subst, arith}
use Rattle.std.specs.Prelude.{FitsSigned, int_lt}
use Rattle.std.specs.Int.{w64, int_wrapping_add, int_wrapping_sub, int_wrapping_mul, int_wrapping_neg, int_div_euclid, int_rem_euclid}
use Rattle.std.proofs.lemmas.Int.{wrapping_add_is, wrapping_sub_is, wrapping_mul_is, wrapping_neg_is, SFits-int_wrap}
use Rattle.std.proofs.Math.Nat.{div-le_self, mod-lt}
use Rattle.std.proofs.lemmas.Bool.Decides.{nat_tests}
use Rattle.sb_types.specs.Value.{Value}
use Rattle.sb_terms.specs.Nodes.{is_number}
use Rattle.sb_meaning.specs.Operations.{quotient, remainder, length_in}

abbrev pub Fits : ℤ → Type 0
Fits = FitsSigned w64

pub add_fits : (a b : ℤ) → Fits a → Fits b → Fits (int_wrapping_add w64 a b)
add_fits a b f g = subst Fits (sym (wrapping_add_is w64 a b f g)) (SFits-int_wrap w64 _)

pub sub_fits : (a b : ℤ) → Fits a → Fits b → Fits (int_wrapping_sub w64 a b)
sub_fits a b f g = subst Fits (sym (wrapping_sub_is w64 a b f g)) (SFits-int_wrap w64 _)

pub mul_fits : (a b : ℤ) → Fits a → Fits b → Fits (int_wrapping_mul w64 a b)
mul_fits a b f g = subst Fits (sym (wrapping_mul_is w64 a b f g)) (SFits-int_wrap w64 _)

pub neg_fits : (a : ℤ) → Fits a → Fits (int_wrapping_neg w64 a)
neg_fits a f = subst Fits (sym (wrapping_neg_is w64 a f)) (SFits-int_wrap w64 _)

zero_fits : Fits (pos 0)
zero_fits = omega arith

div_fits : (a : ℤ) (n : ℕ) → Fits a → Fits (int_div_euclid a (pos n))
div_fits (pos a) n f = omega (arith, f, div-le_self a n)
div_fits (negsuc a) n f = omega (arith, f, div-le_self a n)

pub quotient_fits : (a n : ℤ) → Fits a → Fits (quotient a n)
quotient_fits a (negsuc n) f = zero_fits
quotient_fits a (pos n) f = elim (int_lt (pos 0) (pos n)) as (λ b. Fits (cond b (int_div_euclid a (pos n)) (pos 0))) [ true ↦ div_fits a n f | false ↦ zero_fits ]

rem_fits : (a : ℤ) (n : ℕ) → Fits a → Fits (pos n) → 0 < n → Fits (int_rem_euclid a (pos n))
rem_fits (pos a) n f g some = omega (arith, g, mod-lt a some)
rem_fits (negsuc a) n f g some = omega (arith, g)

above_zero : (n : ℕ) → int_lt (pos 0) (pos n) ≡ true → 0 < n
above_zero n is = grind (arith, nat_tests, is)

pub remainder_fits : (a n : ℤ) → Fits a → Fits n → Fits (remainder a n)
remainder_fits a (negsuc n) f g = zero_fits
remainder_fits a (pos n) f g = elim (int_lt (pos 0) (pos n)) as (λ b. int_lt (pos 0) (pos n) ≡ b → Fits (cond b (int_rem_euclid a (pos n)) (pos 0))) [
  | true ↦ λ is. rem_fits a n f g (above_zero n is)
  | false ↦ λ _. zero_fits
] refl

pub length_fits : (v : Value) → Fits (length_in v)
length_fits v = omega arith

pub number_fits : (n : ℕ) → is_number n ≡ true → Fits (pos n)
number_fits n is = let small : n < 2 ^ 63 = grind (arith, nat_tests, is) in omega arith
