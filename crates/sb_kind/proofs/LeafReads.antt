-- The readers of numbers, values, scored items and registers read just their texts.
use Rattle.std.proofs.Common.{◌≡◌, ◌∙◌, ℕ, zero, suc, ◌<◌, ◌≤◌, ◌-◌, ◌/◌, ◌%◌, ◌^◌, ℤ, Bool, true, false, cond, ◌&&◌, List, [], ◌∷◌, ◌++◌, length, Option, Some, None, refl, sym, ap, arith, eqb}
use Rattle.std.specs.Prelude.{IfSome, nat_le, not, option_map, option_and_then, slice_index, decimal, bytes_eq, FitsSigned, IsUtf8, Result, Ok, Err}
use Rattle.std.specs.Int.{w64}
use Rattle.std.specs.Fmt.{signed_decimal}
use Rattle.std.specs.List.{AllByRecursion, list_all}
use Rattle.std.specs.Str.{is_utf8}
use Rattle.std.proofs.lemmas.Slice.Eq.{bytes_eq-Decides}
use Rattle.std.proofs.lemmas.Str.{IsUtf8-from_is_utf8}
use Rattle.std.proofs.lemmas.Bool.Decides.{nat_tests}
use Rattle.hex.specs.Hex.{IsBytes, decode_of, encode_lower, encode_with, lower_digits}
use Rattle.hex.specs.declared.error.FromHexError.{FromHexError}
use Rattle.hex.proofs.HexLemmas.{decode_of-encode_lower}
use Rattle.sb_text.specs.Decimal.{integer, natural}
use Rattle.sb_text.specs.Escape.{escaped, unescaped, text_unescaped}
use Rattle.sb_text.proofs.Decimals.{integer-signed_decimal, integer-spelled, integer-fits, natural-decimal, natural-spelled}
use Rattle.sb_text.proofs.EscapedForms.{unescaped-spelled}
use Rattle.sb_text.proofs.Utf8.{utf8_bytes}
use Rattle.std.specs.Borrow.{Bor}
use Rattle.sb_types.specs.Read.{ends_part, Front, front_of, value_front}
use Rattle.sb_types.specs.declared.values.Val.{Val}
use Rattle.sb_types.specs.Typed.{IsValueOf}
use Rattle.sb_types.specs.Text.{value_text}
use Rattle.sb_types.specs.ValueType.{ValueType, ints, texts, truths, pairs, options, lists, records}
use Rattle.sb_types.specs.ValView.{value_of, val_of}
use Rattle.sb_types.proofs.Inner.{IsInner, inner_signed, inner_decimal, inner_escaped}
use Rattle.sb_types.proofs.ReadAgain.{text_again, front_again}
use Rattle.sb_types.proofs.ReadSpelled.{IsFront, front-spelled, map_if}
use Rattle.sb_types.proofs.ValBack.{val_of-value_of, value_of-val_of}
use Rattle.sb_sketch.specs.Cells.{AreCells}
use Rattle.sb_sketch.specs.Cms.{IsCount}
use Rattle.sb_sketch.specs.Hll.{IsPosition, AreRegisters}
use Rattle.sb_kind.specs.ElementText.{val_text, item_text}
use Rattle.sb_kind.specs.Read.{Found, found, found_of, number_front, cell_front, val_front, item_front, leaf_front, spelled_so, hex_read, are_registers, registers_read}
use Rattle.sb_kind.specs.Typed.{IsVal, IsScored}
use Rattle.sb_kind.proofs.Readers.{Reads, IsSpelled, reads_leaf, reads_both}

both_if : {X : Type 0} (o : Option X) (P Q : X → Type 0) → IfSome o P → IfSome o Q → IfSome o (λ x. P x × Q x)
both_if None P Q p q = tt
both_if (Some x) P Q p q = (p, q)

pub number_reads : Reads (FitsSigned w64) signed_decimal number_front
number_reads =
    reads_leaf (FitsSigned w64) signed_decimal integer
    (λ bytes. both_if (integer bytes) (FitsSigned w64) (λ n. bytes ≡ signed_decimal n) (integer-fits bytes) (integer-spelled bytes))
    (λ n fits. integer-signed_decimal n fits) (λ n fits. inner_signed n fits)

count_if : (bytes : List ℕ) (o : Option ℕ) → IfSome o (λ n. (bytes ≡ decimal n) × (n ≤ 2 ^ 64 - 1)) → IfSome o (λ n. IsCount n × (bytes ≡ decimal n))
count_if bytes None is = tt
count_if bytes (Some n) is = (omega (arith, is.1), is.0)

pub cell_reads : Reads IsCount decimal cell_front
cell_reads =
    reads_leaf IsCount decimal (natural (2 ^ 64 - 1))
    (λ bytes. count_if bytes (natural (2 ^ 64 - 1) bytes) (natural-spelled (2 ^ 64 - 1) bytes (omega arith)))
    (λ n small. natural-decimal (2 ^ 64 - 1) n small (omega (arith, small))) (λ n small. inner_decimal n small)

text_if : (bytes : List ℕ) (o : Option (List ℕ)) → IfSome o (λ t. bytes ≡ escaped t)
    → IfSome (option_and_then (λ t. cond (is_utf8 t) (Some t) None) o) (λ t. IsUtf8 t × (bytes ≡ escaped t))
text_if bytes None is = tt
text_if bytes (Some t) is =
    elim (is_utf8 t) as (λ b. is_utf8 t ≡ b → IfSome (cond b (Some t) None) (λ t. IsUtf8 t × (bytes ≡ escaped t))) [
      | true ↦ λ utf8. (IsUtf8-from_is_utf8 t utf8, is)
      | false ↦ λ _. tt
    ] refl

text_reads : Reads IsUtf8 escaped (leaf_front text_unescaped)
text_reads =
    reads_leaf IsUtf8 escaped text_unescaped
    (λ bytes. text_if bytes (unescaped bytes) (unescaped-spelled bytes))
    (λ t is. text_again t is) (λ t is. inner_escaped t (utf8_bytes t is))

pub item_reads : Reads IsScored item_text item_front
item_reads = reads_both (FitsSigned w64) signed_decimal number_front IsUtf8 escaped (leaf_front text_unescaped) number_reads text_reads

pub val_reads : (t : ValueType) → Reads (IsVal t) val_text (val_front t)
val_reads t = record {
  spelled = λ bytes. map_if (value_front t bytes) (λ f. found (val_of f.value) f.rest) (IsFront t bytes) (IsSpelled (IsVal t) val_text bytes) (front-spelled t bytes)
      (λ f is. let same = value_of-val_of f.value in (rw same is.0, is.1 ∙ ap (λ v. value_text v ++ f.rest) (sym same)));
  every = λ v rest is end. rw (front_again t (value_of v) rest is end) (ap (λ w. Some (found w rest)) (val_of-value_of v));
}

-- no value's text begins with a bracket that ends a list or a set
pub no_value : (t : ValueType) (rest : List ℕ) → val_front t (93 ∷ rest) ≡ None
no_value ints rest = refl
no_value texts rest = refl
no_value truths rest = refl
no_value (pairs a b) rest = refl
no_value (options a) rest = refl
no_value (lists a most) rest = refl
no_value (records fields) rest = refl

pub no_value_in_set : (t : ValueType) (rest : List ℕ) → val_front t (125 ∷ rest) ≡ None
no_value_in_set ints rest = refl
no_value_in_set texts rest = refl
no_value_in_set truths rest = refl
no_value_in_set (pairs a b) rest = refl
no_value_in_set (options a) rest = refl
no_value_in_set (lists a most) rest = refl
no_value_in_set (records fields) rest = refl

-- registers
left_true : (a b : Bool) → (a && b) ≡ true → a ≡ true
left_true true b e = refl
left_true false b e = e

right_true : (a b : Bool) → (a && b) ≡ true → b ≡ true
right_true true b e = e
right_true false b e = cc

all_within : (most : ℕ) (xs : List ℕ) → list_all (λ n. nat_le n most) xs ≡ true → AllByRecursion (λ n. n ≤ most) xs
all_within most [] e = tt
all_within most (x ∷ xs) e =
    let first = left_true (nat_le x most) (list_all (λ n. nat_le n most) xs) e in
    (grind (arith, nat_tests, first), all_within most xs (right_true (nat_le x most) (list_all (λ n. nat_le n most) xs) e))

within_all : (most : ℕ) (xs : List ℕ) → AllByRecursion (λ n. n ≤ most) xs → list_all (λ n. nat_le n most) xs ≡ true
within_all most [] all = refl
within_all most (x ∷ xs) all =
    let first : nat_le x most ≡ true = let le = all.0 in grind (arith, nat_tests, le) in
    rw (first, within_all most xs all.1) refl

are_valid : (b : ℕ) (all : List ℕ) → are_registers b all ≡ true → AreRegisters b all
are_valid b all e =
    let same = left_true (eqb (length all) (2 ^ b)) (list_all (λ n. nat_le n (65 - b)) all) e in
    record { count = grind (arith, nat_tests, same); valid = all_within (65 - b) all (right_true (eqb (length all) (2 ^ b)) (list_all (λ n. nat_le n (65 - b)) all) e) }

valid_are : (b : ℕ) (all : List ℕ) → AreRegisters b all → are_registers b all ≡ true
valid_are b all valid =
    let count : eqb (length all) (2 ^ b) ≡ true = let e = valid.count in grind (arith, nat_tests, e) in
    rw (count, within_all (65 - b) all valid.valid) refl

hex_if : (digits : List ℕ) (o : Result (List ℕ) FromHexError) → IfSome (spelled_so digits o) (λ bytes. digits ≡ encode_lower bytes)
hex_if digits (Err e) = tt
hex_if digits (Ok bytes) =
    elim (bytes_eq (encode_lower bytes) digits) as (λ b. bytes_eq (encode_lower bytes) digits ≡ b → IfSome (cond b (Some bytes) None) (λ bytes. digits ≡ encode_lower bytes)) [
      | true ↦ λ same. sym ((bytes_eq-Decides (encode_lower bytes) digits).0 same)
      | false ↦ λ _. tt
    ] refl

registers_if : (b : ℕ) (digits : List ℕ) (o : Option (List ℕ)) → IfSome o (λ bytes. digits ≡ encode_lower bytes)
    → IfSome (option_and_then (λ all. cond (are_registers b all) (Some all) None) o) (λ all. AreRegisters b all × (digits ≡ encode_lower all))
registers_if b digits None is = tt
registers_if b digits (Some all) is =
    elim (are_registers b all) as (λ c. are_registers b all ≡ c → IfSome (cond c (Some all) None) (λ all. AreRegisters b all × (digits ≡ encode_lower all))) [
      | true ↦ λ valid. (are_valid b all valid, is)
      | false ↦ λ _. tt
    ] refl

bytes_are : (most : ℕ) (xs : List ℕ) → most < 256 → AllByRecursion (λ n. n ≤ most) xs → IsBytes xs
bytes_are most [] small all zero = omega arith
bytes_are most [] small all (suc i) = omega arith
bytes_are most (x ∷ xs) small all zero = let le = all.0 in omega (arith, le)
bytes_are most (x ∷ xs) small all (suc i) = bytes_are most xs small all.1 i

-- no digit ends a part: the test of the first n digits, which computes
abbrev no_end : ℕ → Bool
no_end zero = true
no_end (suc n) = not (ends_part (slice_index lower_digits n)) && no_end n

not_true : (b : Bool) → not b ≡ true → b ≡ false
not_true true e = cc
not_true false e = refl

no_end-at : (n k : ℕ) → no_end n ≡ true → k < n → ends_part (slice_index lower_digits k) ≡ false
no_end-at zero k e below = absurd (omega (arith, below))
no_end-at (suc n) k e below =
    elim (eqb k n) as (λ b. eqb k n ≡ b → ends_part (slice_index lower_digits k) ≡ false) [
      | true ↦ λ is. let same : k ≡ n = grind (arith, nat_tests, is) in
          rw same (not_true (ends_part (slice_index lower_digits n)) (left_true (not (ends_part (slice_index lower_digits n))) (no_end n) e))
      | false ↦ λ is. no_end-at n k (right_true (not (ends_part (slice_index lower_digits n))) (no_end n) e) (grind (arith, nat_tests, is, below))
    ] refl

inner_hex : (most : ℕ) (xs : List ℕ) → most < 256 → AllByRecursion (λ n. n ≤ most) xs → IsInner (encode_lower xs)
unfolding encode_with
inner_hex most [] small all = tt
inner_hex most (x ∷ xs) small all =
    let le = all.0 in
    (no_end-at 16 (x / 16) refl (omega (arith, le)), (no_end-at 16 (x % 16) refl (omega arith), inner_hex most xs small all.1))

same_bytes : (digits : List ℕ) → bytes_eq digits digits ≡ true
same_bytes digits = (bytes_eq-Decides digits digits).1 refl

pub registers_reads : (b : ℕ) → Reads (AreRegisters b) encode_lower (leaf_front (registers_read b))
registers_reads b =
    reads_leaf (AreRegisters b) encode_lower (registers_read b)
    (λ digits. registers_if b digits (hex_read digits) (hex_if digits (decode_of digits)))
    (λ all valid. rw (decode_of-encode_lower all (bytes_are (65 - b) all (omega arith) valid.valid), same_bytes (encode_lower all), valid_are b all valid) refl)
    (λ all valid. inner_hex (65 - b) all (omega arith) valid.valid)

-- the same read as a value and as the `Val` that stands for it
pub found_vals : (t : ValueType) (bytes : List ℕ) (read : Option (Val × Bor (List ℕ))) → option_map front_of read ≡ value_front t bytes → option_map found_of read ≡ val_front t bytes
found_vals t bytes None is = rw (sym is) refl
found_vals t bytes (Some r) is = rw (sym is) (ap (λ v. Some (found v r.1.now)) (sym (val_of-value_of r.0)))
