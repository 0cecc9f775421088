-- A value is UTF-8 exactly where its quoted form is.
use Rattle.std.proofs.Common.{◌≡◌, ℕ, ◌+◌, ◌<◌, true, false, List, [], ◌∷◌, ◌++◌, refl, sym, subst, arith, eqb, length, get_or, IsUtf8, append_assoc, length-append, ltb, Bool, ◌⊎◌, inl, inr, Result, Ok, Err, MatchResult, is_ok}
use Rattle.std.specs.List.{flat_map}
use Rattle.std.specs.Str.{is_utf8}
use Rattle.std.proofs.lemmas.Bool.Decides.{nat_tests}
use Rattle.std.proofs.lemmas.Str.{IsUtf8-append, IsUtf8-take, IsUtf8-drop, IsCharBoundary-before_ascii, IsCharBoundary-after_ascii, IsUtf8-from_is_utf8, is_utf8-from_IsUtf8}
use Rattle.std.proofs.Math.Seq.{take-append_seam, drop-append-add, get_or-append_seam}
use lib.Utf8.{scalar, encode}
use Rattle.sb_tokens.specs.Quote.{quoted_byte}

-- an ASCII byte parts a text
parted : (before rest : List ℕ) (b : ℕ) → b < 128 → IsUtf8 (before ++ b ∷ rest) → IsUtf8 before × IsUtf8 rest
parted before rest b low is =
    let at : get_or (before ++ b ∷ rest) (length before) 0 ≡ b = get_or-append_seam before b rest 0 in
    let inside : length before < length (before ++ b ∷ rest) = omega (arith, length-append before (b ∷ rest)) in
    let small : get_or (before ++ b ∷ rest) (length before) 0 < 128 = rw at low in (
      subst IsUtf8 (take-append_seam before (b ∷ rest)) (IsUtf8-take (before ++ b ∷ rest) (length before) is (IsCharBoundary-before_ascii (before ++ b ∷ rest) (length before) inside small)),
      subst IsUtf8 (drop-append-add before (b ∷ rest) 1) (IsUtf8-drop (before ++ b ∷ rest) (length before + 1) is (IsCharBoundary-after_ascii (before ++ b ∷ rest) (length before) is inside small)),
    )

-- a byte below 128 is a text
ascii_text : (b : ℕ) → b < 128 → IsUtf8 (b ∷ [])
unfolding encode
ascii_text b low =
    let is : ltb b 128 ≡ true = grind (arith, nat_tests) in
    let is_scalar : scalar b ≡ true = grind (arith, nat_tests) in
    (b ∷ [], (rw is_scalar refl, rw is refl))

-- a byte stands for itself, or is an ASCII byte that stands as two
pub record IsPair (b : ℕ) : Type 0 where
  pub low : b < 128
  pub second : ℕ
  pub second_low : second < 128
  pub pair : quoted_byte b ≡ 92 ∷ second ∷ []

one_or_pair : (b : ℕ) → (quoted_byte b ≡ b ∷ []) ⊎ IsPair b
one_or_pair b =
    elim (eqb b 34) as (λ a. eqb b 34 ≡ a → (quoted_byte b ≡ b ∷ []) ⊎ IsPair b) [
      | true ↦ λ is. let e : b ≡ 34 = grind (arith, nat_tests) in inr (record { low = omega (arith, e); second = 34; second_low = omega arith; pair = rw e refl })
      | false ↦ λ no_quote. elim (eqb b 92) as (λ a. eqb b 92 ≡ a → (quoted_byte b ≡ b ∷ []) ⊎ IsPair b) [
        | true ↦ λ is. let e : b ≡ 92 = grind (arith, nat_tests) in inr (record { low = omega (arith, e); second = 92; second_low = omega arith; pair = rw e refl })
        | false ↦ λ no_backslash. elim (eqb b 10) as (λ a. eqb b 10 ≡ a → (quoted_byte b ≡ b ∷ []) ⊎ IsPair b) [
          | true ↦ λ is. let e : b ≡ 10 = grind (arith, nat_tests) in inr (record { low = omega (arith, e); second = 110; second_low = omega arith; pair = rw e refl })
          | false ↦ λ no_lf. elim (eqb b 9) as (λ a. eqb b 9 ≡ a → (quoted_byte b ≡ b ∷ []) ⊎ IsPair b) [
            | true ↦ λ is. let e : b ≡ 9 = grind (arith, nat_tests) in inr (record { low = omega (arith, e); second = 116; second_low = omega arith; pair = rw e refl })
            | false ↦ λ no_tab. elim (eqb b 13) as (λ a. eqb b 13 ≡ a → (quoted_byte b ≡ b ∷ []) ⊎ IsPair b) [
              | true ↦ λ is. let e : b ≡ 13 = grind (arith, nat_tests) in inr (record { low = omega (arith, e); second = 114; second_low = omega arith; pair = rw e refl })
              | false ↦ λ no_cr. inl (rw (no_quote, no_backslash, no_lf, no_tab, no_cr) refl)
            ] refl
          ] refl
        ] refl
      ] refl
    ] refl

-- behind any front
appended : (before after : List ℕ) (b : ℕ) → (before ++ b ∷ []) ++ after ≡ before ++ b ∷ after
appended before after b = append_assoc before (b ∷ []) after

quoted : (before value : List ℕ) → IsUtf8 (before ++ value) → IsUtf8 (before ++ flat_map quoted_byte value)
quoted before [] is = is
quoted before (b ∷ value) is = by_byte (one_or_pair b) (λ front. quoted front value) where
  by_byte : (quoted_byte b ≡ b ∷ []) ⊎ IsPair b → ((front : List ℕ) → IsUtf8 (front ++ value) → IsUtf8 (front ++ flat_map quoted_byte value))
      → IsUtf8 (before ++ (quoted_byte b ++ flat_map quoted_byte value))
  by_byte (inl one) rest = rw one (subst IsUtf8 (appended before (flat_map quoted_byte value) b)
      (rest (before ++ b ∷ []) (subst IsUtf8 (sym (appended before value b)) is)))
  by_byte (inr two) rest =
      let parts = parted before value b two.low is in
      let escape = IsUtf8-append (92 ∷ []) (two.second ∷ []) (ascii_text 92 (omega arith)) (ascii_text two.second two.second_low) in
      rw two.pair (IsUtf8-append before (92 ∷ two.second ∷ flat_map quoted_byte value) parts.0
      (IsUtf8-append (92 ∷ two.second ∷ []) (flat_map quoted_byte value) escape (rest [] parts.1)))

unquoted : (before value : List ℕ) → IsUtf8 (before ++ flat_map quoted_byte value) → IsUtf8 (before ++ value)
unquoted before [] is = is
unquoted before (b ∷ value) is = by_byte (one_or_pair b) (λ front. unquoted front value) where
  by_byte : (quoted_byte b ≡ b ∷ []) ⊎ IsPair b → ((front : List ℕ) → IsUtf8 (front ++ flat_map quoted_byte value) → IsUtf8 (front ++ value))
      → IsUtf8 (before ++ b ∷ value)
  by_byte (inl one) rest = subst IsUtf8 (appended before value b)
      (rest (before ++ b ∷ []) (subst IsUtf8 (sym (appended before (flat_map quoted_byte value) b)) (rw one at is)))
  by_byte (inr two) rest =
      let parts = parted before (two.second ∷ flat_map quoted_byte value) 92 (omega arith) (rw two.pair at is) in
      let behind = parted [] (flat_map quoted_byte value) two.second two.second_low parts.1 in
      IsUtf8-append before (b ∷ value) parts.0 (IsUtf8-append (b ∷ []) value (ascii_text b two.low) (rest [] behind.1))

pub is_utf8-quoted : (value : List ℕ) → is_utf8 (flat_map quoted_byte value) ≡ is_utf8 value
is_utf8-quoted value =
    same (is_utf8 (flat_map quoted_byte value)) (is_utf8 value)
    (λ is. is_utf8-from_IsUtf8 value (unquoted [] value (IsUtf8-from_is_utf8 (flat_map quoted_byte value) is)))
    (λ is. is_utf8-from_IsUtf8 (flat_map quoted_byte value) (quoted [] value (IsUtf8-from_is_utf8 value is))) where
      same : (a b : Bool) → (a ≡ true → b ≡ true) → (b ≡ true → a ≡ true) → a ≡ b
      same true b there back = sym (there refl)
      same false true there back = back refl
      same false false there back = refl

-- what is taken as UTF-8
pub is_ok-is_utf8 : {S E : Type 0} (r : Result S E) (bytes : List ℕ) (P : S → Type 0) (Q : E → Type 0)
    → MatchResult r (λ s. P s × IsUtf8 bytes) (λ e. ¬ (IsUtf8 bytes) × Q e) → is_ok r ≡ is_utf8 bytes
is_ok-is_utf8 (Ok s) bytes P Q is = sym (is_utf8-from_IsUtf8 bytes is.1)
is_ok-is_utf8 (Err e) bytes P Q is =
    elim (is_utf8 bytes) as (λ utf8. is_utf8 bytes ≡ utf8 → false ≡ utf8) [
      | true ↦ λ utf8. absurd (is.0 (IsUtf8-from_is_utf8 bytes utf8))
      | false ↦ λ _. refl
    ] refl
