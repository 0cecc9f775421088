-- Texts of parts, and where they end.
use Rattle.std.proofs.Common.{◌≡◌, ℕ, suc, ◌+◌, ◌/◌, ◌%◌, ◌^◌, ◌<◌, ℤ, pos, negsuc, Bool, true, false, cond, ◌||◌, List, [], ◌∷◌, ◌++◌, refl, ap, arith, eqb}
use Rattle.std.specs.Prelude.{nat_lt, decimal, FitsSigned}
use Rattle.std.specs.Int.{w64}
use Rattle.std.specs.Fmt.{signed_decimal}
use Rattle.std.specs.List.{AllByRecursion, flat_map}
use Rattle.std.proofs.lemmas.Fmt.{decimal_by_steps}
use Rattle.std.proofs.lemmas.Bool.Decides.{nat_tests}
use Rattle.sb_text.specs.Escape.{hex_digit, is_plain, escaped_byte, escaped}
use Rattle.sb_text.proofs.Utf8.{AreBytes}
use Rattle.sb_types.specs.Read.{ends_part, IsEnd, leaf, after_leaf}

-- texts that no byte ends
abbrev pub IsInner : List ℕ → Type 0
IsInner = AllByRecursion (λ b. ends_part b ≡ false)

inner_append : (xs ys : List ℕ) → IsInner xs → IsInner ys → IsInner (xs ++ ys)
inner_append [] ys inner also = also
inner_append (x ∷ xs) ys inner also = (inner.0, inner_append xs ys inner.1 also)

pub inner_decimal : (n : ℕ) → n < 2 ^ 64 → IsInner (decimal n)
inner_decimal n small =
    decimal_by_steps (λ k digits. IsInner digits)
    (λ k digit. (grind (arith, nat_tests), tt))
    (λ k digits ten rest. inner_append digits ((48 + k % 10) ∷ []) rest (grind (arith, nat_tests), tt))
    n small

pub inner_signed : (n : ℤ) → FitsSigned w64 n → IsInner (signed_decimal n)
inner_signed (pos n) fits = inner_decimal n (omega arith)
inner_signed (negsuc n) fits = (refl, inner_decimal (suc n) (omega arith))

inner_hex : (n : ℕ) → n < 16 → ends_part (hex_digit n) ≡ false
inner_hex n small =
    elim (nat_lt n 10) as (λ a. nat_lt n 10 ≡ a → ends_part (cond a (48 + n) (55 + n)) ≡ false) [ true ↦ λ is. grind (arith, nat_tests, is) | false ↦ λ is. grind (arith, nat_tests, is) ] refl

-- of two tests the first holds, or the second
or_either : (a b : Bool) (P : Type 0) → (a ≡ true → P) → (b ≡ true → P) → (a || b) ≡ true → P
or_either true b P first second is = first refl
or_either false b P first second is = second is

unplain_as : (b c : ℕ) → is_plain c ≡ false → eqb b c ≡ true → is_plain b ≡ false
unplain_as b c un is = let e : b ≡ c = grind (arith, nat_tests, is) in rw e un

unplain : (b : ℕ) → ends_part b ≡ true → is_plain b ≡ false
unplain b =
    or_either _ (eqb b 61) (is_plain b ≡ false)
    (or_either _ (eqb b 125) (is_plain b ≡ false)
    (or_either _ (eqb b 93) (is_plain b ≡ false)
    (or_either (eqb b 44) (eqb b 41) (is_plain b ≡ false) (unplain_as b 44 refl) (unplain_as b 41 refl))
    (unplain_as b 93 refl)) (unplain_as b 125 refl)) (unplain_as b 61 refl)

inner_plain : (b : ℕ) → is_plain b ≡ true → ends_part b ≡ false
inner_plain b plain =
    elim (ends_part b) as (λ a. ends_part b ≡ a → a ≡ false) [
      | true ↦ λ ends. let no : is_plain b ≡ false = unplain b ends in cc
      | false ↦ λ _. refl
    ] refl

inner_byte : (b : ℕ) → b < 256 → IsInner (escaped_byte b)
inner_byte b small =
    elim (is_plain b) as (λ a. is_plain b ≡ a → IsInner (cond a (b ∷ []) (37 ∷ hex_digit (b / 16) ∷ hex_digit (b % 16) ∷ []))) [
      | true ↦ λ plain. (inner_plain b plain, tt)
      | false ↦ λ _. (refl, (inner_hex (b / 16) (omega arith), (inner_hex (b % 16) (omega arith), tt)))
    ] refl

inner_bytes : (t : List ℕ) → AreBytes t → IsInner (flat_map escaped_byte t)
inner_bytes [] are = tt
inner_bytes (b ∷ t) are = inner_append (escaped_byte b) (flat_map escaped_byte t) (inner_byte b are.0) (inner_bytes t are.1)

pub inner_escaped : (t : List ℕ) → AreBytes t → IsInner (escaped t)
inner_escaped [] are = (refl, tt)
inner_escaped (b ∷ t) are = inner_bytes (b ∷ t) are

-- at an end stands no leaf
pub leaf-end : (rest : List ℕ) → IsEnd rest → leaf rest ≡ []
leaf-end [] end = refl
leaf-end (b ∷ rest) end = rw end refl

pub after_leaf-end : (rest : List ℕ) → IsEnd rest → after_leaf rest ≡ rest
after_leaf-end [] end = refl
after_leaf-end (b ∷ rest) end = rw end refl

pub leaf-front : (xs rest : List ℕ) → IsInner xs → IsEnd rest → leaf (xs ++ rest) ≡ xs
leaf-front [] rest inner end = leaf-end rest end
leaf-front (x ∷ xs) rest inner end = rw inner.0 (ap (λ ys. x ∷ ys) (leaf-front xs rest inner.1 end))

pub after_leaf-front : (xs rest : List ℕ) → IsInner xs → IsEnd rest → after_leaf (xs ++ rest) ≡ rest
after_leaf-front [] rest inner end = after_leaf-end rest end
after_leaf-front (x ∷ xs) rest inner end = rw inner.0 (after_leaf-front xs rest inner.1 end)

pub leaf_whole : (bytes : List ℕ) → bytes ≡ leaf bytes ++ after_leaf bytes
leaf_whole [] = refl
leaf_whole (b ∷ bytes) =
    elim (ends_part b) as (λ a. b ∷ bytes ≡ cond a [] (b ∷ leaf bytes) ++ cond a (b ∷ bytes) (after_leaf bytes)) [ true ↦ refl | false ↦ ap (λ xs. b ∷ xs) (leaf_whole bytes) ]
