-- Texts in lower case and words of texts are UTF-8 where the texts are.
use Rattle.std.proofs.Common.{◌≡◌, ◌∙◌, ℕ, zero, suc, ◌+◌, ◌/◌, ◌%◌, ◌<◌, ◌≤◌, Bool, true, false, cond, ◌&&◌, ltb, List, [], ◌∷◌, ◌++◌, filter, take, refl, ap, sym, subst, arith, IsUtf8, append-nil}
use Rattle.std.specs.Char.{to_ascii_lowercase}
use Rattle.std.specs.List.{AllByRecursion}
use lib.Utf8.{scalar, scalars, encode, encodes}
use Rattle.std.proofs.lemmas.Bool.Decides.{nat_tests}
use Rattle.std.proofs.lemmas.List.{map-append}
use Rattle.std.proofs.lemmas.Str.{IsUtf8-append, IsUtf8-nil}
use Rattle.std.proofs.lemmas.Str.Ascii.{lowercase_ascii, lowercase_is}
use Rattle.sb_text.specs.Columns.{onto_piece}
use Rattle.sb_meaning.specs.Words.{is_blank, is_filled, pieces, words_of, lowered}

both_true : (a b : Bool) → (a && b) ≡ true → (a ≡ true) × (b ≡ true)
both_true true b h = (refl, h)
both_true false b h = cc

abbrev AreHigh : List ℕ → Type 0
AreHigh = AllByRecursion (λ b. 128 ≤ b)

-- a character below 128 is a byte, and the bytes of another are from 128 on
ascii_text : (b : ℕ) → b < 128 → IsUtf8 (b ∷ [])
unfolding encode
ascii_text b low =
    let is : ltb b 128 ≡ true = grind (arith, nat_tests) in
    let is_scalar : scalar b ≡ true = grind (arith, nat_tests) in
    (b ∷ [], (rw is_scalar refl, rw is refl))

encoded_low : (c : ℕ) → ltb c 128 ≡ true → encode c ≡ c ∷ []
unfolding encode
encoded_low c is = rw is refl

encoded_high : (c : ℕ) → ltb c 128 ≡ false → AreHigh (encode c)
unfolding encode
encoded_high c other =
    let high : 128 ≤ c = grind (arith, nat_tests) in
    rw other (elim (ltb c 2048) as (λ two. AllByRecursion (λ b. 128 ≤ b) (cond two ((192 + c / 64) ∷ (128 + c % 64) ∷ [])
    (cond (ltb c 65536) ((224 + c / 4096) ∷ (128 + c / 64 % 64) ∷ (128 + c % 64) ∷ []) ((240 + c / 262144) ∷ (128 + c / 4096 % 64) ∷ (128 + c / 64 % 64) ∷ (128 + c % 64) ∷ [])))) [
      | true ↦ (omega arith, (omega arith, tt))
      | false ↦ elim (ltb c 65536) as (λ three. AllByRecursion (λ b. 128 ≤ b)
          (cond three ((224 + c / 4096) ∷ (128 + c / 64 % 64) ∷ (128 + c % 64) ∷ []) ((240 + c / 262144) ∷ (128 + c / 4096 % 64) ∷ (128 + c / 64 % 64) ∷ (128 + c % 64) ∷ []))) [
            | true ↦ (omega arith, (omega arith, (omega arith, tt)))
            | false ↦ (omega arith, (omega arith, (omega arith, (omega arith, tt))))
          ]
    ])

encoded_text : (c : ℕ) → scalar c ≡ true → IsUtf8 (encode c)
encoded_text c is = (c ∷ [], (rw is refl, append-nil (encode c)))

-- ---- lower case

lower_high : (bytes : List ℕ) → AreHigh bytes → lowered bytes ≡ bytes
lower_high [] high = refl
lower_high (b ∷ bytes) high = rw ((lowercase_is b).2 (omega (arith, high.0)), lower_high bytes high.1) refl

lower_code : (c : ℕ) → scalar c ≡ true → IsUtf8 (lowered (encode c))
lower_code c is_scalar = elim (ltb c 128) as (λ low. ltb c 128 ≡ low → IsUtf8 (lowered (encode c))) [
  | true ↦ λ is. rw (encoded_low c is) (ascii_text (to_ascii_lowercase c) (lowercase_ascii c (grind (arith, nat_tests, is))))
  | false ↦ λ is. rw (lower_high (encode c) (encoded_high c is)) (encoded_text c is_scalar)
] refl

lower_codes : (cs : List ℕ) → scalars cs ≡ true → IsUtf8 (lowered (encodes cs))
lower_codes [] are = IsUtf8-nil
lower_codes (c ∷ cs) are =
    let parts = both_true (scalar c) (scalars cs) are in
    rw (map-append to_ascii_lowercase (encode c) (encodes cs)) (IsUtf8-append (lowered (encode c)) (lowered (encodes cs)) (lower_code c parts.0) (lower_codes cs parts.1))

pub lowered_text : (t : List ℕ) → IsUtf8 t → IsUtf8 (lowered t)
lowered_text t is = subst (λ b. IsUtf8 (lowered b)) is.1.1 (lower_codes is.0 is.1.0)

-- ---- words

abbrev AreTexts : List (List ℕ) → Type 0
AreTexts = AllByRecursion IsUtf8

abbrev Lacks : List ℕ → Type 0
Lacks = AllByRecursion (λ b. is_blank b ≡ false)

lacks_high : (bytes : List ℕ) → AreHigh bytes → Lacks bytes
lacks_high [] high = tt
lacks_high (b ∷ bytes) high = (let h : 128 ≤ b = high.0 in grind (arith, nat_tests, h), lacks_high bytes high.1)

-- bytes before the first piece
abbrev onto_all : List ℕ → List (List ℕ) → List (List ℕ)
onto_all [] ps = ps
onto_all (b ∷ bytes) ps = onto_piece b (onto_all bytes ps)

onto_first : (bytes p : List ℕ) (ps : List (List ℕ)) → onto_all bytes (p ∷ ps) ≡ (bytes ++ p) ∷ ps
onto_first [] p ps = refl
onto_first (b ∷ bytes) p ps = ap (onto_piece b) (onto_first bytes p ps)

pieces_onto : (bytes rest : List ℕ) → Lacks bytes → pieces (bytes ++ rest) ≡ onto_all bytes (pieces rest)
pieces_onto [] rest lacks = refl
pieces_onto (b ∷ bytes) rest lacks = rw lacks.0 (ap (onto_piece b) (pieces_onto bytes rest lacks.1))

some_onto : (b : ℕ) (ps : List (List ℕ)) → (p : List ℕ) × (qs : List (List ℕ)) × (onto_piece b ps ≡ p ∷ qs)
some_onto b [] = (b ∷ [], [], refl)
some_onto b (p ∷ ps) = (b ∷ p, ps, refl)

some_piece : (bytes : List ℕ) → (p : List ℕ) × (ps : List (List ℕ)) × (pieces bytes ≡ p ∷ ps)
some_piece [] = ([], [], refl)
some_piece (b ∷ bytes) = elim (is_blank b) as (λ is. (p : List ℕ) × (ps : List (List ℕ)) × (cond is ([] ∷ pieces bytes) (onto_piece b (pieces bytes)) ≡ p ∷ ps)) [
  | true ↦ ([], pieces bytes, refl)
  | false ↦ some_onto b (pieces bytes)
]

-- a text without blanks before others
pieces_behind : (bytes rest : List ℕ) → IsUtf8 bytes → Lacks bytes → AreTexts (pieces rest) → AreTexts (pieces (bytes ++ rest))
pieces_behind bytes rest is lacks are =
    let some = some_piece rest in
    let all : AreTexts (some.0 ∷ some.1) = subst AreTexts some.2 are in
    subst AreTexts (sym (pieces_onto bytes rest lacks ∙ (ap (onto_all bytes) some.2 ∙ onto_first bytes some.0 some.1))) (IsUtf8-append bytes some.0 is all.0, all.1)

pieces_byte : (c : ℕ) (rest : List ℕ) → c < 128 → AreTexts (pieces rest) → AreTexts (pieces (c ∷ rest))
pieces_byte c rest low are = elim (is_blank c) as (λ is. is_blank c ≡ is → AreTexts (pieces (c ∷ rest))) [
  | true ↦ λ is. rw is (IsUtf8-nil, are)
  | false ↦ λ is. pieces_behind (c ∷ []) rest (ascii_text c low) (is, tt) are
] refl

pieces_code : (c : ℕ) (rest : List ℕ) → scalar c ≡ true → AreTexts (pieces rest) → AreTexts (pieces (encode c ++ rest))
pieces_code c rest is_scalar are = elim (ltb c 128) as (λ low. ltb c 128 ≡ low → AreTexts (pieces (encode c ++ rest))) [
  | true ↦ λ is. rw (encoded_low c is) (pieces_byte c rest (grind (arith, nat_tests, is)) are)
  | false ↦ λ is. pieces_behind (encode c) rest (encoded_text c is_scalar) (lacks_high (encode c) (encoded_high c is)) are
] refl

pieces_codes : (cs : List ℕ) → scalars cs ≡ true → AreTexts (pieces (encodes cs))
pieces_codes [] are = (IsUtf8-nil, tt)
pieces_codes (c ∷ cs) are =
    let parts = both_true (scalar c) (scalars cs) are in
    pieces_code c (encodes cs) parts.0 (pieces_codes cs parts.1)

filled_texts : (ps : List (List ℕ)) → AreTexts ps → AreTexts (filter is_filled ps)
filled_texts [] are = tt
filled_texts (p ∷ ps) are = elim (is_filled p) as (λ is. AreTexts (cond is (p ∷ filter is_filled ps) (filter is_filled ps))) [
  | true ↦ (are.0, filled_texts ps are.1)
  | false ↦ filled_texts ps are.1
]

first_texts : (n : ℕ) (ps : List (List ℕ)) → AreTexts ps → AreTexts (take n ps)
first_texts zero ps are = tt
first_texts (suc n) [] are = tt
first_texts (suc n) (p ∷ ps) are = (are.0, first_texts n ps are.1)

pub words_texts : (n : ℕ) (t : List ℕ) → IsUtf8 t → AllByRecursion IsUtf8 (words_of n t)
words_texts n t is = first_texts n (filter is_filled (pieces t)) (filled_texts (pieces t) (subst (λ b. AreTexts (pieces b)) is.1.1 (pieces_codes is.0 is.1.0)))
