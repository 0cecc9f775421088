-- The escaped form of a text is a text.
use Rattle.std.proofs.Common.{◌≡◌, ℕ, ◌+◌, ◌/◌, ◌%◌, ◌<◌, ◌≤◌, Bool, true, false, cond, ◌&&◌, List, [], ◌∷◌, arith, refl, subst, IsUtf8, ltb, append-nil, length}
use Rattle.std.specs.List.{AllByRecursion, flat_map, list_all}
use Rattle.std.specs.Prelude.{nat_lt}
use lib.Utf8.{scalar, scalars, encode, encodes}
use Rattle.std.proofs.lemmas.Bool.Decides.{nat_tests}
use Rattle.std.proofs.lemmas.List.Concat.{flat_map-append}
use Rattle.std.proofs.lemmas.Str.{IsUtf8-append, IsUtf8-nil}
use Rattle.sb_text.specs.Escape.{hex_digit, is_plain, escaped_byte, escaped}

both_true : (a b : Bool) → (a && b) ≡ true → (a ≡ true) × (b ≡ true)
both_true true b h = (refl, h)
both_true false b h = cc

-- a byte below 128 is a text, and so is the escaped form of one
ascii_text : (b : ℕ) → b < 128 → IsUtf8 (b ∷ [])
unfolding encode
ascii_text b low =
    let is : ltb b 128 ≡ true = grind (arith, nat_tests) in
    let is_scalar : scalar b ≡ true = grind (arith, nat_tests) in
    (b ∷ [], (rw is_scalar refl, rw is refl))

hex_low : (n : ℕ) → n < 16 → hex_digit n < 128
hex_low n small = elim (nat_lt n 10) as (λ is. cond is (48 + n) (55 + n) < 128) [ true ↦ omega arith | false ↦ omega arith ]

escaped_ascii : (b : ℕ) → b < 128 → IsUtf8 (escaped_byte b)
escaped_ascii b low = elim (is_plain b) as (λ is. IsUtf8 (cond is (b ∷ []) (37 ∷ hex_digit (b / 16) ∷ hex_digit (b % 16) ∷ []))) [
  | true ↦ ascii_text b low
  | false ↦ IsUtf8-append (37 ∷ []) (hex_digit (b / 16) ∷ hex_digit (b % 16) ∷ []) (ascii_text 37 (omega arith))
      (IsUtf8-append (hex_digit (b / 16) ∷ []) (hex_digit (b % 16) ∷ []) (ascii_text (hex_digit (b / 16)) (hex_low (b / 16) (omega arith))) (ascii_text (hex_digit (b % 16)) (hex_low (b % 16) (omega arith))))
]

-- bytes from 128 stand for themselves
plain_high : (b : ℕ) → 128 ≤ b → escaped_byte b ≡ b ∷ []
plain_high b high = let is : is_plain b ≡ true = grind (arith, nat_tests) in rw is refl

escaped_high : (bytes : List ℕ) → AllByRecursion (λ b. 128 ≤ b) bytes → flat_map escaped_byte bytes ≡ bytes
escaped_high [] high = refl
escaped_high (b ∷ bytes) high = rw (plain_high b high.0, escaped_high bytes high.1) refl

encoded_high : (c : ℕ) → 128 ≤ c → AllByRecursion (λ b. 128 ≤ b) (encode c)
unfolding encode
encoded_high c high =
    let no : ltb c 128 ≡ false = grind (arith, nat_tests) in
    rw no (elim (ltb c 2048) as (λ two. AllByRecursion (λ b. 128 ≤ b) (cond two ((192 + c / 64) ∷ (128 + c % 64) ∷ [])
    (cond (ltb c 65536) ((224 + c / 4096) ∷ (128 + c / 64 % 64) ∷ (128 + c % 64) ∷ []) ((240 + c / 262144) ∷ (128 + c / 4096 % 64) ∷ (128 + c / 64 % 64) ∷ (128 + c % 64) ∷ [])))) [
      | true ↦ (omega arith, (omega arith, tt))
      | false ↦ elim (ltb c 65536) as (λ three. AllByRecursion (λ b. 128 ≤ b)
          (cond three ((224 + c / 4096) ∷ (128 + c / 64 % 64) ∷ (128 + c % 64) ∷ []) ((240 + c / 262144) ∷ (128 + c / 4096 % 64) ∷ (128 + c / 64 % 64) ∷ (128 + c % 64) ∷ []))) [
            | true ↦ (omega arith, (omega arith, (omega arith, tt)))
            | false ↦ (omega arith, (omega arith, (omega arith, (omega arith, tt))))
          ]
    ])

escaped_code : (c : ℕ) → scalar c ≡ true → IsUtf8 (flat_map escaped_byte (encode c))
unfolding encode
escaped_code c is_scalar = elim (ltb c 128) as (λ low. ltb c 128 ≡ low → IsUtf8 (flat_map escaped_byte (encode c))) [
  | true ↦ λ is. rw is (rw append-nil (escaped_ascii c (grind (arith, nat_tests, is))))
  | false ↦ λ is. rw (escaped_high (encode c) (encoded_high c (grind (arith, nat_tests, is)))) ((c ∷ [], (rw is_scalar refl, append-nil (encode c))))
] refl

escaped_codes : (cs : List ℕ) → scalars cs ≡ true → IsUtf8 (flat_map escaped_byte (encodes cs))
escaped_codes [] are = IsUtf8-nil
escaped_codes (c ∷ cs) are =
    let parts = both_true (scalar c) (scalars cs) are in
    rw (flat_map-append escaped_byte (encode c) (encodes cs))
    (IsUtf8-append (flat_map escaped_byte (encode c)) (flat_map escaped_byte (encodes cs)) (escaped_code c parts.0) (escaped_codes cs parts.1))

escaped_some : (bytes : List ℕ) → IsUtf8 (flat_map escaped_byte bytes) → IsUtf8 (escaped bytes)
escaped_some [] is = ascii_text 37 (omega arith)
escaped_some (b ∷ bytes) is = is

pub escaped_is_utf8 : (bytes : List ℕ) → IsUtf8 bytes → IsUtf8 (escaped bytes)
escaped_is_utf8 bytes is = escaped_some bytes (subst (λ b. IsUtf8 (flat_map escaped_byte b)) is.1.1 (escaped_codes is.0 is.1.0))

-- a text of plain bytes is its own escaped form
escaped_plain_bytes : (bytes : List ℕ) → list_all is_plain bytes ≡ true → flat_map escaped_byte bytes ≡ bytes
escaped_plain_bytes [] are = refl
escaped_plain_bytes (b ∷ bytes) are =
    let parts = both_true (is_plain b) (list_all is_plain bytes) are in
    rw (parts.0, escaped_plain_bytes bytes parts.1) refl

pub escaped_plain : (bytes : List ℕ) → 0 < length bytes → list_all is_plain bytes ≡ true → escaped bytes ≡ bytes
escaped_plain [] some are = absurd (omega arith)
escaped_plain (b ∷ bytes) some are = escaped_plain_bytes (b ∷ bytes) are
