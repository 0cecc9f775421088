-- A text that is escaped is unescaped to the same text, and what is unescaped is its text's escaped form.
use Rattle.std.proofs.Common.{◌≡◌, ℕ, ◌+◌, ◌-◌, ◌*◌, ◌/◌, ◌%◌, ◌<◌, true, false, cond, ◌&&◌, List, [], ◌∷◌, ◌++◌, Option, Some, None, refl, ap, ◌∙◌, subst, arith, eqb}
use Rattle.std.specs.Prelude.{IfSome, option_and_then, nat_le, nat_lt}
use Rattle.std.specs.Char.{is_ascii_digit}
use Rattle.std.specs.List.{flat_map}
use Rattle.std.proofs.lemmas.Bool.Decides.{nat_tests}
use Rattle.sb_text.specs.Escape.{hex_digit, is_plain, escaped_byte, escaped, hex_value, byte_of_digits, after_percent, bytes_unescaped, rest_unescaped, unescaped}
use Rattle.sb_text.specs.Field.{onto_text}
use Rattle.sb_text.proofs.Utf8.{AreBytes}

-- what is written is read again
hex_value-hex_digit : (n : ℕ) → n < 16 → hex_value (hex_digit n) ≡ Some n
hex_value-hex_digit n small =
    elim (nat_lt n 10) as (λ a. nat_lt n 10 ≡ a → hex_value (cond a (48 + n) (55 + n)) ≡ Some n) [
      | true ↦ λ low. let digit : is_ascii_digit (48 + n) ≡ true = grind (arith, nat_tests) in let e : 48 + n - 48 ≡ n = omega arith in rw (digit, e) refl
      | false ↦ λ high.
          let other : is_ascii_digit (55 + n) ≡ false = grind (arith, nat_tests) in
          let letter : (nat_le 65 (55 + n) && nat_le (55 + n) 70) ≡ true = grind (arith, nat_tests) in
          let e : 55 + n - 55 ≡ n = omega arith in
          rw (other, letter, e) refl
    ] refl

after_percent-digits : (b : ℕ) → b < 256 → is_plain b ≡ false → after_percent (hex_digit (b / 16)) (hex_digit (b % 16)) ≡ Some b
after_percent-digits b small other =
    let e : 16 * (b / 16) + b % 16 ≡ b = omega arith in
    rw (hex_value-hex_digit (b / 16) (omega arith), hex_value-hex_digit (b % 16) (omega arith), e, other) refl

plain_other : (b : ℕ) → is_plain b ≡ true → eqb b 37 ≡ false
plain_other b plain =
    elim (eqb b 37) as (λ a. eqb b 37 ≡ a → a ≡ false) [
      | true ↦ λ is. let e : b ≡ 37 = grind (arith, nat_tests) in let p : is_plain 37 ≡ true = subst (λ x. is_plain x ≡ true) e plain in cc
      | false ↦ λ _. refl
    ] refl

first_again : (b : ℕ) (rest : List ℕ) → b < 256 → bytes_unescaped (escaped_byte b ++ rest) ≡ onto_text (Some b) (bytes_unescaped rest)
first_again b rest small =
    elim (is_plain b) as (λ a. is_plain b ≡ a → bytes_unescaped (cond a (b ∷ []) (37 ∷ hex_digit (b / 16) ∷ hex_digit (b % 16) ∷ []) ++ rest) ≡ onto_text (Some b) (bytes_unescaped rest)) [
      | true ↦ λ plain. rw (plain, plain_other b plain) refl
      | false ↦ λ other. rw (after_percent-digits b small other) refl
    ] refl

bytes_again : (t : List ℕ) → AreBytes t → bytes_unescaped (flat_map escaped_byte t) ≡ Some t
bytes_again [] are = refl
bytes_again (b ∷ t) are = first_again b (flat_map escaped_byte t) are.0 ∙ ap (onto_text (Some b)) (bytes_again t are.1)

several : (bytes : List ℕ) (b : ℕ) (t : List ℕ) → bytes_unescaped bytes ≡ Some (b ∷ t) → unescaped bytes ≡ Some (b ∷ t)
several [] b t is = cc
several (c ∷ []) b t is =
    elim (eqb c 37) as (λ a. cond a (rest_unescaped []) (cond (is_plain c) (onto_text (Some c) (bytes_unescaped [])) None) ≡ Some (b ∷ t)
    → cond a (Some []) (cond a (rest_unescaped []) (cond (is_plain c) (onto_text (Some c) (bytes_unescaped [])) None)) ≡ Some (b ∷ t)) [
      | true ↦ λ h. cc
      | false ↦ λ h. h
    ] is
several (c ∷ d ∷ bytes) b t is = is

pub unescaped-escaped : (t : List ℕ) → AreBytes t → unescaped (escaped t) ≡ Some t
unescaped-escaped [] are = refl
unescaped-escaped (b ∷ t) are = several (flat_map escaped_byte (b ∷ t)) b t (bytes_again (b ∷ t) are)

-- what is read is written so
abbrev IsDigit : ℕ → ℕ → Type 0
IsDigit c n = (c ≡ hex_digit n) × (n < 16)

hex_value-spelled : (c : ℕ) → IfSome (hex_value c) (IsDigit c)
hex_value-spelled c =
    elim (is_ascii_digit c) as (λ a. is_ascii_digit c ≡ a → IfSome (cond a (Some (c - 48)) (cond (nat_le 65 c && nat_le c 70) (Some (c - 55)) None)) (IsDigit c)) [
      | true ↦ λ digit. let low : nat_lt (c - 48) 10 ≡ true = grind (arith, nat_tests) in let h : 48 + (c - 48) ≡ c = grind (arith, nat_tests) in
          (rw (low, h) refl, grind (arith, nat_tests))
      | false ↦ λ _. elim (nat_le 65 c && nat_le c 70) as (λ a. (nat_le 65 c && nat_le c 70) ≡ a → IfSome (cond a (Some (c - 55)) None) (IsDigit c)) [
        | true ↦ λ letter. let high : nat_lt (c - 55) 10 ≡ false = grind (arith, nat_tests) in let h : 55 + (c - 55) ≡ c = grind (arith, nat_tests) in
            (rw (high, h) refl, grind (arith, nat_tests))
        | false ↦ λ _. tt
      ] refl
    ] refl

byte-spelled : (high low h l : ℕ) → IsDigit high h → IsDigit low l → IfSome (byte_of_digits h l) (λ b. 37 ∷ high ∷ low ∷ [] ≡ escaped_byte b)
byte-spelled high low h l is_high is_low =
    elim (is_plain (16 * h + l)) as (λ a. is_plain (16 * h + l) ≡ a → IfSome (cond a None (Some (16 * h + l))) (λ b. 37 ∷ high ∷ low ∷ [] ≡ escaped_byte b)) [
      | true ↦ λ _. tt
      | false ↦ λ other.
          let front : (16 * h + l) / 16 ≡ h = omega (arith, is_high.1, is_low.1) in
          let back : (16 * h + l) % 16 ≡ l = omega (arith, is_high.1, is_low.1) in
          rw (other, front, back, is_high.0, is_low.0) refl
    ] refl

percent-spelled : (high low : ℕ) (h l : Option ℕ) → IfSome h (IsDigit high) → IfSome l (IsDigit low)
    → IfSome (option_and_then (λ h. option_and_then (λ l. byte_of_digits h l) l) h) (λ b. 37 ∷ high ∷ low ∷ [] ≡ escaped_byte b)
percent-spelled high low None l is_high is_low = tt
percent-spelled high low (Some h) None is_high is_low = tt
percent-spelled high low (Some h) (Some l) is_high is_low = byte-spelled high low h l is_high is_low

onto_spelled : (front bytes : List ℕ) (first : Option ℕ) (rest : Option (List ℕ)) → IfSome first (λ b. front ≡ escaped_byte b)
    → IfSome rest (λ t. bytes ≡ flat_map escaped_byte t) → IfSome (onto_text first rest) (λ t. front ++ bytes ≡ flat_map escaped_byte t)
onto_spelled front bytes None rest f r = tt
onto_spelled front bytes (Some b) None f r = tt
onto_spelled front bytes (Some b) (Some t) f r = ap (λ xs. xs ++ bytes) f ∙ ap (λ ys. escaped_byte b ++ ys) r

plain_spelled : (b : ℕ) → is_plain b ≡ true → b ∷ [] ≡ escaped_byte b
plain_spelled b plain = rw plain refl

mutual
  bytes-spelled : (bytes : List ℕ) → IfSome (bytes_unescaped bytes) (λ t. bytes ≡ flat_map escaped_byte t)
  bytes-spelled [] = refl
  bytes-spelled (b ∷ bytes) =
      elim (eqb b 37) as (λ a. eqb b 37 ≡ a → IfSome (cond a (rest_unescaped bytes) (cond (is_plain b) (onto_text (Some b) (bytes_unescaped bytes)) None)) (λ t. b ∷ bytes ≡ flat_map escaped_byte t)) [
        | true ↦ λ is. let e : 37 ≡ b = grind (arith, nat_tests) in
            subst (λ x. IfSome (rest_unescaped bytes) (λ t. x ∷ bytes ≡ flat_map escaped_byte t)) e (rest-spelled bytes)
        | false ↦ λ _. elim (is_plain b) as (λ a. is_plain b ≡ a → IfSome (cond a (onto_text (Some b) (bytes_unescaped bytes)) None) (λ t. b ∷ bytes ≡ flat_map escaped_byte t)) [
          | true ↦ λ plain. onto_spelled (b ∷ []) bytes (Some b) (bytes_unescaped bytes) (plain_spelled b plain) (bytes-spelled bytes)
          | false ↦ λ _. tt
        ] refl
      ] refl

  rest-spelled : (bytes : List ℕ) → IfSome (rest_unescaped bytes) (λ t. 37 ∷ bytes ≡ flat_map escaped_byte t)
  rest-spelled [] = tt
  rest-spelled (high ∷ []) = tt
  rest-spelled (high ∷ low ∷ bytes) =
      onto_spelled (37 ∷ high ∷ low ∷ []) bytes (after_percent high low) (bytes_unescaped bytes)
      (percent-spelled high low (hex_value high) (hex_value low) (hex_value-spelled high) (hex_value-spelled low)) (bytes-spelled bytes)

whole : (b : ℕ) (bytes : List ℕ) (o : Option (List ℕ)) → IfSome o (λ t. b ∷ bytes ≡ flat_map escaped_byte t) → IfSome o (λ t. b ∷ bytes ≡ escaped t)
whole b bytes None is = tt
whole b bytes (Some []) is = cc
whole b bytes (Some (x ∷ t)) is = is

pub unescaped-spelled : (bytes : List ℕ) → IfSome (unescaped bytes) (λ t. bytes ≡ escaped t)
unescaped-spelled [] = tt
unescaped-spelled (b ∷ []) =
    elim (eqb b 37) as (λ a. eqb b 37 ≡ a → IfSome (cond a (Some []) (bytes_unescaped (b ∷ []))) (λ t. b ∷ [] ≡ escaped t)) [
      | true ↦ λ is. let e : b ≡ 37 = grind (arith, nat_tests) in ap (λ x. x ∷ []) e
      | false ↦ λ _. whole b [] (bytes_unescaped (b ∷ [])) (bytes-spelled (b ∷ []))
    ] refl
unescaped-spelled (b ∷ c ∷ bytes) = whole b (c ∷ bytes) (bytes_unescaped (b ∷ c ∷ bytes)) (bytes-spelled (b ∷ c ∷ bytes))
