-- A decimal that is written is read as the same number, and a text that is read as a number is its decimal.
use Rattle.std.proofs.Common.{◌≡◌, ◌≢◌, ℕ, zero, suc, ◌+◌, ◌-◌, ◌*◌, ◌/◌, ◌%◌, ◌^◌, ◌<◌, ◌≤◌, ℤ, pos, negsuc, true, false, cond, ◌&&◌, List, [], ◌∷◌, ◌++◌, Option, Some, None, refl, sym, ap, ◌∙◌, arith, length, get_or, eqb, rules, subst}
use Rattle.std.specs.Prelude.{nat_le, option_and_then, option_map, FitsSigned, IfSome}
use Rattle.std.specs.Int.{w64}
use Rattle.std.specs.Char.{is_ascii_digit}
use Rattle.std.specs.Str.{all_ascii_digits}
use Rattle.std.specs.Fmt.{decimal, signed_decimal}
use Rattle.std.proofs.lemmas.Fmt.{decimal_by_steps, decimal_digit, first_decimal, decimal_nonempty, decimal-digits_value}
use Rattle.std.proofs.lemmas.Str.Parse.{IsNumeralModel, numerals_by_fold}
use Rattle.std.proofs.lemmas.Bool.Decides.{nat_tests}
use Rattle.sb_text.specs.Decimal.{number_after, zero_alone, natural, integer, negative}

-- what is written is read again
one_digit : (most m d : ℕ) → d < 10 → 10 * m + d ≤ most → number_after most m ((48 + d) ∷ []) ≡ Some (10 * m + d)
one_digit most m d small fits =
    let t : (is_ascii_digit (48 + d) && nat_le (10 * m + (48 + d - 48)) most) ≡ true = grind (arith, nat_tests) in
    let e : 48 + d - 48 ≡ d = omega arith in
    rw (t, e) refl

last_digit : (most m : ℕ) (ds : List ℕ) (n c : ℕ) → number_after most m ds ≡ Some n → number_after most m (ds ++ c ∷ []) ≡ number_after most n (c ∷ [])
last_digit most m [] n c h = let e : m ≡ n = cc in rw e refl
last_digit most m (d ∷ ds) n c h =
    elim (is_ascii_digit d && nat_le (10 * m + (d - 48)) most) as (λ b. cond b (number_after most (10 * m + (d - 48)) ds) None ≡ Some n
    → cond b (number_after most (10 * m + (d - 48)) (ds ++ c ∷ [])) None ≡ number_after most n (c ∷ [])) [
      | true ↦ λ k. last_digit most (10 * m + (d - 48)) ds n c k
      | false ↦ λ k. cc
    ] h

digits_again : (most n : ℕ) → n < 2 ^ 64 → n ≤ most → number_after most 0 (decimal n) ≡ Some n
digits_again most n small =
    decimal_by_steps (λ k ds. k ≤ most → number_after most 0 ds ≡ Some k)
    (λ k d fits. one_digit most 0 k d (omega arith) ∙ ap Some (omega arith))
    (λ k ds ten rest fits. last_digit most 0 ds (k / 10) (48 + k % 10) (rest (omega arith)) ∙ (one_digit most (k / 10) (k % 10) (omega arith) (omega arith) ∙ ap Some (omega arith)))
    n small

from_first : (most n : ℕ) (ds : List ℕ) → 0 < length ds → 48 < get_or ds 0 0 → number_after most 0 ds ≡ Some n → natural most ds ≡ Some n
from_first most n [] some above h = absurd (omega arith)
from_first most n (c ∷ ds) some above h = let e : eqb c 48 ≡ false = grind (arith, nat_tests) in rw e h

pub natural-decimal : (most n : ℕ) → n < 2 ^ 64 → n ≤ most → natural most (decimal n) ≡ Some n
natural-decimal most zero small fits = rw (decimal_digit 0 (omega arith)) refl
natural-decimal most (suc n) small fits =
    from_first most (suc n) (decimal (suc n)) (decimal_nonempty (suc n) small) (first_decimal (suc n) (omega arith) small) (digits_again most (suc n) small fits)

from_digit : (ds : List ℕ) (n : ℕ) → 0 < length ds → 48 ≤ get_or ds 0 0 → natural (2 ^ 63 - 1) ds ≡ Some n → integer ds ≡ Some (pos n)
from_digit [] n some above h = absurd (omega arith)
from_digit (c ∷ ds) n some above h = let e : eqb c 45 ≡ false = grind (arith, nat_tests) in rw (e, h) refl

first_digit : (n : ℕ) → n < 2 ^ 64 → 48 ≤ get_or (decimal n) 0 0
first_digit zero small = rw (decimal_digit 0 (omega arith)) (omega arith)
first_digit (suc n) small = let h = first_decimal (suc n) (omega arith) small in omega arith

pub integer-signed_decimal : (z : ℤ) → FitsSigned w64 z → integer (signed_decimal z) ≡ Some z
integer-signed_decimal (pos n) fits =
    from_digit (decimal n) n (decimal_nonempty n (omega arith)) (first_digit n (omega arith)) (natural-decimal (2 ^ 63 - 1) n (omega arith) (omega arith))
integer-signed_decimal (negsuc n) fits = rw (natural-decimal (2 ^ 63) (suc n) (omega arith) (omega arith)) refl

-- what is read is written so
abbrev value_after : ℕ → List ℕ → ℕ
value_after n [] = n
value_after n (c ∷ cs) = value_after (10 * n + (c - 48)) cs

numerals : IsNumeralModel (λ ds. all_ascii_digits ds ≡ true) (value_after 0)
numerals = numerals_by_fold _ (search rules) value_after (search rules)

abbrev IsRead : ℕ → ℕ → List ℕ → ℕ → Type 0
IsRead most m ds n = (all_ascii_digits ds ≡ true) × (value_after m ds ≡ n) × (n ≤ most)

read_digits : (most m : ℕ) (ds : List ℕ) → m ≤ most → IfSome (number_after most m ds) (IsRead most m ds)
read_digits most m [] fits = (refl, refl, fits)
read_digits most m (c ∷ ds) fits =
    elim (is_ascii_digit c) as (λ d. is_ascii_digit c ≡ d → IfSome (cond (d && nat_le (10 * m + (c - 48)) most) (number_after most (10 * m + (c - 48)) ds) None)
    (λ n. ((d && all_ascii_digits ds) ≡ true) × (value_after (10 * m + (c - 48)) ds ≡ n) × (n ≤ most))) [
      | true ↦ λ digit. elim (nat_le (10 * m + (c - 48)) most) as (λ b. nat_le (10 * m + (c - 48)) most ≡ b → IfSome (cond b (number_after most (10 * m + (c - 48)) ds) None) (IsRead most (10 * m + (c - 48)) ds)) [
        | true ↦ λ below. read_digits most (10 * m + (c - 48)) ds (grind (arith, nat_tests))
        | false ↦ λ above. tt
      ] refl
      | false ↦ λ other. tt
    ] refl

abbrev IsSpelled : ℕ → List ℕ → ℕ → Type 0
IsSpelled most bytes n = (bytes ≡ decimal n) × (n ≤ most)

spelled : (most n : ℕ) (c : ℕ) (ds : List ℕ) → most < 2 ^ 64 → c ≢ 48 → IsRead most 0 (c ∷ ds) n → IsSpelled most (c ∷ ds) n
spelled most n c ds small other read =
    let e : value_after 0 (c ∷ ds) ≡ n = read.1 in
    let below : value_after 0 (c ∷ ds) < 2 ^ 64 = omega (arith, e, read.2) in
    (sym (decimal-digits_value numerals (c ∷ ds) read.0 (omega arith) (λ h. absurd (other h)) below) ∙ ap decimal e, read.2)

spelled_of : (most : ℕ) (c : ℕ) (ds : List ℕ) (o : Option ℕ) → most < 2 ^ 64 → c ≢ 48 → IfSome o (IsRead most 0 (c ∷ ds)) → IfSome o (IsSpelled most (c ∷ ds))
spelled_of most c ds None small other read = tt
spelled_of most c ds (Some n) small other read = spelled most n c ds small other read

pub natural-spelled : (most : ℕ) (bytes : List ℕ) → most < 2 ^ 64 → IfSome (natural most bytes) (IsSpelled most bytes)
natural-spelled most [] small = tt
natural-spelled most (c ∷ ds) small =
    elim (eqb c 48) as (λ b. eqb c 48 ≡ b → IfSome (cond b (zero_alone ds) (number_after most 0 (c ∷ ds))) (IsSpelled most (c ∷ ds))) [
      | true ↦ λ is. alone c ds (grind (arith, nat_tests))
      | false ↦ λ other. spelled_of most c ds (number_after most 0 (c ∷ ds)) small (grind (arith, nat_tests)) (read_digits most 0 (c ∷ ds) (omega arith))
    ] refl where
      alone : (c : ℕ) (ds : List ℕ) → c ≡ 48 → IfSome (zero_alone ds) (IsSpelled most (c ∷ ds))
      alone c [] is = rw is (sym (decimal_digit 0 (omega arith)), omega arith)
      alone c (d ∷ ds) is = tt

negative-spelled : (bytes : List ℕ) (o : Option ℕ) → IfSome o (IsSpelled (2 ^ 63) bytes) → IfSome (option_and_then negative o) (λ z. 45 ∷ bytes ≡ signed_decimal z)
negative-spelled bytes None is = tt
negative-spelled bytes (Some zero) is = tt
negative-spelled bytes (Some (suc n)) is = ap (λ ds. 45 ∷ ds) is.0

positive-spelled : (bytes : List ℕ) (o : Option ℕ) → IfSome o (IsSpelled (2 ^ 63 - 1) bytes) → IfSome (option_map pos o) (λ z. bytes ≡ signed_decimal z)
positive-spelled bytes None is = tt
positive-spelled bytes (Some n) is = is.0

pub integer-spelled : (bytes : List ℕ) → IfSome (integer bytes) (λ z. bytes ≡ signed_decimal z)
integer-spelled [] = tt
integer-spelled (c ∷ bytes) =
    elim (eqb c 45) as (λ b. eqb c 45 ≡ b → IfSome (cond b (option_and_then negative (natural (2 ^ 63) bytes)) (option_map pos (natural (2 ^ 63 - 1) (c ∷ bytes)))) (λ z. c ∷ bytes ≡ signed_decimal z)) [
      | true ↦ λ is. let e : 45 ≡ c = grind (arith, nat_tests) in
          subst (λ b. IfSome (option_and_then negative (natural (2 ^ 63) bytes)) (λ z. b ∷ bytes ≡ signed_decimal z)) e (negative-spelled bytes (natural (2 ^ 63) bytes) (natural-spelled (2 ^ 63) bytes (omega arith)))
      | false ↦ λ other. positive-spelled (c ∷ bytes) (natural (2 ^ 63 - 1) (c ∷ bytes)) (natural-spelled (2 ^ 63 - 1) (c ∷ bytes) (omega arith))
    ] refl

-- a number that is read is one of an i64
pub integer-fits : (bytes : List ℕ) → IfSome (integer bytes) (FitsSigned w64)
integer-fits [] = tt
integer-fits (c ∷ bytes) =
    elim (eqb c 45) as (λ b. IfSome (cond b (option_and_then negative (natural (2 ^ 63) bytes)) (option_map pos (natural (2 ^ 63 - 1) (c ∷ bytes)))) (FitsSigned w64)) [
      | true ↦ negative_fits (natural (2 ^ 63) bytes) (natural-spelled (2 ^ 63) bytes (omega arith))
      | false ↦ positive_fits (natural (2 ^ 63 - 1) (c ∷ bytes)) (natural-spelled (2 ^ 63 - 1) (c ∷ bytes) (omega arith))
    ] where
      negative_fits : (o : Option ℕ) → IfSome o (IsSpelled (2 ^ 63) bytes) → IfSome (option_and_then negative o) (FitsSigned w64)
      negative_fits None is = tt
      negative_fits (Some zero) is = tt
      negative_fits (Some (suc n)) is = omega (arith, is.1)

      positive_fits : (o : Option ℕ) → IfSome o (IsSpelled (2 ^ 63 - 1) (c ∷ bytes)) → IfSome (option_map pos o) (FitsSigned w64)
      positive_fits None is = tt
      positive_fits (Some n) is = omega (arith, is.1)
