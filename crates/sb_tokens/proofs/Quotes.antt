-- A value that is quoted is read as the same value, and a quoted text that is read is the quoted form of its value.
use Rattle.std.proofs.Common.{◌≡◌, ℕ, ◌+◌, ◌-◌, Bool, true, false, cond, List, [], ◌∷◌, ◌++◌, Option, Some, None, refl, sym, ap, ◌∙◌, subst, arith, eqb, length, take, append_assoc}
use Rattle.std.specs.Prelude.{IfSome, option_map, option_and_then, nat_le, nat_lt, is_some, if◌then◌else◌}
use Rattle.std.specs.List.{flat_map, list_all}
use Rattle.std.specs.Str.{is_utf8}
use Rattle.sb_tokens.proofs.Bools.{both}
use Rattle.std.proofs.lemmas.Bool.Decides.{nat_tests}
use Rattle.std.proofs.Math.Seq.{take-append_seam, take-append-add}
use Rattle.sb_tokens.specs.Token.{Token}
use Rattle.sb_tokens.proofs.QuotedUtf8.{is_utf8-quoted}
use Rattle.sb_tokens.specs.Quote.{quoted_byte, after_backslash, onto_value, bytes_quoted, bytes_escaped, text_quoted, is_text_byte, is_text}

-- the number of bytes of the quoted form of a value with so many bytes before it
abbrev pub lengths_after : ℕ → Option (List ℕ) → Option ℕ
lengths_after before = option_map (λ value. before + length (flat_map quoted_byte value))

-- the number of bytes before the closing quote, where `at` of them were passed
abbrev pub length_behind : Bool → ℕ → List ℕ → Option ℕ
length_behind escaping at bytes = cond escaping (lengths_after (at - 1) (bytes_escaped bytes)) (lengths_after at (bytes_quoted bytes))

-- what is quoted is read again
first_again : (b : ℕ) (rest : List ℕ) → is_text_byte b ≡ true → bytes_quoted (quoted_byte b ++ rest) ≡ onto_value (Some b) (bytes_quoted rest)
first_again b rest fits =
    elim (eqb b 34) as (λ a. eqb b 34 ≡ a → bytes_quoted (cond a (92 ∷ 34 ∷ []) (cond (eqb b 92) (92 ∷ 92 ∷ []) (cond (eqb b 10) (92 ∷ 110 ∷ []) (cond (eqb b 9) (92 ∷ 116 ∷ []) (cond (eqb b 13) (92 ∷ 114 ∷ []) (b ∷ []))))) ++ rest) ≡ onto_value (Some b) (bytes_quoted rest)) [
      | true ↦ λ is. let e : b ≡ 34 = grind (arith, nat_tests) in rw e refl
      | false ↦ λ no_quote. elim (eqb b 92) as (λ a. eqb b 92 ≡ a → bytes_quoted (cond a (92 ∷ 92 ∷ []) (cond (eqb b 10) (92 ∷ 110 ∷ []) (cond (eqb b 9) (92 ∷ 116 ∷ []) (cond (eqb b 13) (92 ∷ 114 ∷ []) (b ∷ [])))) ++ rest) ≡ onto_value (Some b) (bytes_quoted rest)) [
        | true ↦ λ is. let e : b ≡ 92 = grind (arith, nat_tests) in rw e refl
        | false ↦ λ no_backslash. elim (eqb b 10) as (λ a. eqb b 10 ≡ a → bytes_quoted (cond a (92 ∷ 110 ∷ []) (cond (eqb b 9) (92 ∷ 116 ∷ []) (cond (eqb b 13) (92 ∷ 114 ∷ []) (b ∷ []))) ++ rest) ≡ onto_value (Some b) (bytes_quoted rest)) [
          | true ↦ λ is. let e : b ≡ 10 = grind (arith, nat_tests) in rw e refl
          | false ↦ λ no_lf. elim (eqb b 9) as (λ a. eqb b 9 ≡ a → bytes_quoted (cond a (92 ∷ 116 ∷ []) (cond (eqb b 13) (92 ∷ 114 ∷ []) (b ∷ [])) ++ rest) ≡ onto_value (Some b) (bytes_quoted rest)) [
            | true ↦ λ is. let e : b ≡ 9 = grind (arith, nat_tests) in rw e refl
            | false ↦ λ no_tab. elim (eqb b 13) as (λ a. eqb b 13 ≡ a → bytes_quoted (cond a (92 ∷ 114 ∷ []) (b ∷ []) ++ rest) ≡ onto_value (Some b) (bytes_quoted rest)) [
              | true ↦ λ is. let e : b ≡ 13 = grind (arith, nat_tests) in rw e refl
              | false ↦ λ no_cr. let no_control : nat_lt b 32 ≡ false = grind (arith, nat_tests, fits) in rw (no_quote, no_backslash, no_control) refl
            ] refl
          ] refl
        ] refl
      ] refl
    ] refl

pub bytes_quoted-again : (value rest : List ℕ) → list_all is_text_byte value ≡ true → bytes_quoted (flat_map quoted_byte value ++ 34 ∷ rest) ≡ Some value
bytes_quoted-again [] rest fits = refl
bytes_quoted-again (b ∷ value) rest fits =
    let parts = both (is_text_byte b) (list_all is_text_byte value) fits in
    ap bytes_quoted (append_assoc (quoted_byte b) (flat_map quoted_byte value) (34 ∷ rest))
    ∙ (first_again b (flat_map quoted_byte value ++ 34 ∷ rest) parts.0 ∙ ap (onto_value (Some b)) (bytes_quoted-again value rest parts.1))

-- what is read is quoted so
pub record IsQuotedIn (bytes : List ℕ) (front : List ℕ) (value : List ℕ) : Type 0 where
  pub rest : List ℕ
  pub split : front ++ bytes ≡ flat_map quoted_byte value ++ 34 ∷ rest
  pub fits : list_all is_text_byte value ≡ true

abbrev FirstIs : List ℕ → ℕ → Type 0
FirstIs front b = (front ≡ quoted_byte b) × (is_text_byte b ≡ true)

onto_quoted : (front bytes : List ℕ) (first : Option ℕ) (rest : Option (List ℕ)) → IfSome first (FirstIs front)
    → IfSome rest (IsQuotedIn bytes []) → IfSome (onto_value first rest) (IsQuotedIn bytes front)
onto_quoted front bytes None rest f r = tt
onto_quoted front bytes (Some b) None f r = tt
onto_quoted front bytes (Some b) (Some value) f r = record {
  rest = r.rest;
  split = ap (λ xs. xs ++ bytes) f.0 ∙ (ap (λ ys. quoted_byte b ++ ys) r.split ∙ sym (append_assoc (quoted_byte b) (flat_map quoted_byte value) (34 ∷ r.rest)));
  fits = rw (f.1, r.fits) refl;
}

plain_quoted : (b : ℕ) → eqb b 34 ≡ false → eqb b 92 ≡ false → nat_lt b 32 ≡ false → FirstIs (b ∷ []) b
plain_quoted b no_quote no_backslash no_control =
    let no_lf : eqb b 10 ≡ false = grind (arith, nat_tests) in
    let no_tab : eqb b 9 ≡ false = grind (arith, nat_tests) in
    let no_cr : eqb b 13 ≡ false = grind (arith, nat_tests) in
    let fits : nat_le 32 b ≡ true = grind (arith, nat_tests) in
    (rw (no_quote, no_backslash, no_lf, no_tab, no_cr) refl, rw fits refl)

escape_quoted : (c : ℕ) → IfSome (after_backslash c) (FirstIs (92 ∷ c ∷ []))
escape_quoted c =
    elim (eqb c 34) as (λ a. eqb c 34 ≡ a → IfSome (cond a (Some 34) (cond (eqb c 92) (Some 92) (cond (eqb c 110) (Some 10) (cond (eqb c 116) (Some 9) (cond (eqb c 114) (Some 13) None))))) (FirstIs (92 ∷ c ∷ []))) [
      | true ↦ λ is. let e : c ≡ 34 = grind (arith, nat_tests) in rw e (refl, refl)
      | false ↦ λ _. elim (eqb c 92) as (λ a. eqb c 92 ≡ a → IfSome (cond a (Some 92) (cond (eqb c 110) (Some 10) (cond (eqb c 116) (Some 9) (cond (eqb c 114) (Some 13) None)))) (FirstIs (92 ∷ c ∷ []))) [
        | true ↦ λ is. let e : c ≡ 92 = grind (arith, nat_tests) in rw e (refl, refl)
        | false ↦ λ _. elim (eqb c 110) as (λ a. eqb c 110 ≡ a → IfSome (cond a (Some 10) (cond (eqb c 116) (Some 9) (cond (eqb c 114) (Some 13) None))) (FirstIs (92 ∷ c ∷ []))) [
          | true ↦ λ is. let e : c ≡ 110 = grind (arith, nat_tests) in rw e (refl, refl)
          | false ↦ λ _. elim (eqb c 116) as (λ a. eqb c 116 ≡ a → IfSome (cond a (Some 9) (cond (eqb c 114) (Some 13) None)) (FirstIs (92 ∷ c ∷ []))) [
            | true ↦ λ is. let e : c ≡ 116 = grind (arith, nat_tests) in rw e (refl, refl)
            | false ↦ λ _. elim (eqb c 114) as (λ a. eqb c 114 ≡ a → IfSome (cond a (Some 13) None) (FirstIs (92 ∷ c ∷ []))) [
              | true ↦ λ is. let e : c ≡ 114 = grind (arith, nat_tests) in rw e (refl, refl)
              | false ↦ λ _. tt
            ] refl
          ] refl
        ] refl
      ] refl
    ] refl

moved_front : (front bytes : List ℕ) (value : Option (List ℕ)) → IfSome value (IsQuotedIn bytes front) → IfSome value (IsQuotedIn (front ++ bytes) [])
moved_front front bytes None is = tt
moved_front front bytes (Some value) is = record { rest = is.rest; split = is.split; fits = is.fits }

mutual
  pub bytes_quoted-quoted : (bytes : List ℕ) → IfSome (bytes_quoted bytes) (IsQuotedIn bytes [])
  bytes_quoted-quoted [] = tt
  bytes_quoted-quoted (b ∷ bytes) =
      elim (eqb b 34) as (λ a. eqb b 34 ≡ a → IfSome (cond a (Some []) (cond (eqb b 92) (bytes_escaped bytes) (cond (nat_lt b 32) None (onto_value (Some b) (bytes_quoted bytes))))) (IsQuotedIn (b ∷ bytes) [])) [
        | true ↦ λ is. let e : b ≡ 34 = grind (arith, nat_tests) in record { rest = bytes; split = ap (λ x. x ∷ bytes) e; fits = refl }
        | false ↦ λ no_quote. elim (eqb b 92) as (λ a. eqb b 92 ≡ a → IfSome (cond a (bytes_escaped bytes) (cond (nat_lt b 32) None (onto_value (Some b) (bytes_quoted bytes)))) (IsQuotedIn (b ∷ bytes) [])) [
          | true ↦ λ is. let e : 92 ≡ b = grind (arith, nat_tests) in
              subst (λ x. IfSome (bytes_escaped bytes) (IsQuotedIn (x ∷ bytes) [])) e (bytes_escaped-quoted bytes)
          | false ↦ λ no_backslash. elim (nat_lt b 32) as (λ a. nat_lt b 32 ≡ a → IfSome (cond a None (onto_value (Some b) (bytes_quoted bytes))) (IsQuotedIn (b ∷ bytes) [])) [
            | true ↦ λ _. tt
            | false ↦ λ no_control. moved_front (b ∷ []) bytes (onto_value (Some b) (bytes_quoted bytes))
                (onto_quoted (b ∷ []) bytes (Some b) (bytes_quoted bytes) (plain_quoted b no_quote no_backslash no_control) (bytes_quoted-quoted bytes))
          ] refl
        ] refl
      ] refl

  bytes_escaped-quoted : (bytes : List ℕ) → IfSome (bytes_escaped bytes) (IsQuotedIn (92 ∷ bytes) [])
  bytes_escaped-quoted [] = tt
  bytes_escaped-quoted (c ∷ bytes) =
      moved_front (92 ∷ c ∷ []) bytes (onto_value (after_backslash c) (bytes_quoted bytes))
      (onto_quoted (92 ∷ c ∷ []) bytes (after_backslash c) (bytes_quoted bytes) (escape_quoted c) (bytes_quoted-quoted bytes))

-- the number of bytes before the closing quote
abbrev pub length_of : Option (List ℕ) → Option ℕ
length_of = option_map (λ value. length (flat_map quoted_byte value))

abbrev pub only_utf8 : Option (List ℕ) → Option (List ℕ)
only_utf8 = option_and_then (λ value. if is_utf8 value then Some value else None)

-- the bytes up to the closing quote
module _ (behind : List ℕ) (count : ℕ) where
  by_value : (value : Option (List ℕ)) → IfSome value (IsQuotedIn behind []) → Some count ≡ length_of value
      → (bytes_quoted (take (count + 1) behind) ≡ value) × (is_some (only_utf8 value) ≡ is_utf8 (take count behind))
  by_value None is counted = cc
  by_value (Some value) is counted =
      let same : count ≡ length (flat_map quoted_byte value) = cc in
      let raw : take count behind ≡ flat_map quoted_byte value =
      rw same (ap (take (length (flat_map quoted_byte value))) is.split ∙ take-append_seam (flat_map quoted_byte value) (34 ∷ is.rest)) in
      let closed : take (count + 1) behind ≡ flat_map quoted_byte value ++ 34 ∷ [] =
      rw same (ap (take (length (flat_map quoted_byte value) + 1)) is.split ∙ take-append-add (flat_map quoted_byte value) (34 ∷ is.rest) 1) in (
        ap bytes_quoted closed ∙ bytes_quoted-again value [] is.fits,
        elim (is_utf8 value) as (λ utf8. is_some (if utf8 then Some value else None) ≡ utf8) [ true ↦ refl | false ↦ refl ] ∙ (sym (is_utf8-quoted value) ∙ ap is_utf8 (sym raw)),
      )

  pub raw_again : Some count ≡ length_of (bytes_quoted behind) → text_quoted (take (count + 1) behind) ≡ text_quoted behind
  raw_again counted = ap only_utf8 (by_value (bytes_quoted behind) (bytes_quoted-quoted behind) counted).0

  pub raw_utf8 : Some count ≡ length_of (bytes_quoted behind) → is_some (text_quoted behind) ≡ is_utf8 (take count behind)
  raw_utf8 counted = (by_value (bytes_quoted behind) (bytes_quoted-quoted behind) counted).1

-- the number of bytes of a value's quoted form
pub count_of_text : (count : ℕ) (text : List ℕ) (value : Option (List ℕ)) → Some count ≡ length_of value → Some text ≡ only_utf8 value → count ≡ length (flat_map quoted_byte text)
count_of_text count text None counted is = cc
count_of_text count text (Some value) counted is =
    elim (is_utf8 value) as (λ utf8. Some text ≡ (if utf8 then Some value else None) → count ≡ length (flat_map quoted_byte text)) [
      | true ↦ λ same. let e : text ≡ value = cc in rw e cc
      | false ↦ λ none. cc
    ] is

pub no_text : (text : List ℕ → Token) (value : Option (List ℕ)) → is_some value ≡ false → None ≡ option_map text value
no_text text None is = refl
no_text text (Some value) is = cc

-- a text that is quoted can be quoted, and stands there so
pub record IsTextIn (bytes : List ℕ) (text : List ℕ) : Type 0 where
  pub is_text : is_text text ≡ true
  pub stands : take (length (flat_map quoted_byte text ++ 34 ∷ [])) bytes ≡ flat_map quoted_byte text ++ 34 ∷ []

text_in : (behind : List ℕ) (value : Option (List ℕ)) → IfSome value (IsQuotedIn behind []) → IfSome (only_utf8 value) (IsTextIn behind)
text_in behind None is = tt
text_in behind (Some value) is =
    let closed = flat_map quoted_byte value ++ 34 ∷ [] in
    let split : behind ≡ closed ++ is.rest = is.split ∙ sym (append_assoc (flat_map quoted_byte value) (34 ∷ []) is.rest) in
    elim (is_utf8 value) as (λ utf8. is_utf8 value ≡ utf8 → IfSome (if utf8 then Some value else None) (IsTextIn behind)) [
      | true ↦ λ utf8. record { is_text = rw (is.fits, utf8) refl; stands = ap (take (length closed)) split ∙ take-append_seam closed is.rest }
      | false ↦ λ _. tt
    ] refl

pub text_quoted-text : (behind : List ℕ) → IfSome (text_quoted behind) (IsTextIn behind)
text_quoted-text behind = text_in behind (bytes_quoted behind) (bytes_quoted-quoted behind)

pub quoted_is_text : (behind text : List ℕ) → Some text ≡ text_quoted behind → is_text text ≡ true
quoted_is_text behind text is = (text_found (text_quoted behind) is (text_quoted-text behind)).is_text where
  text_found : (found : Option (List ℕ)) → Some text ≡ found → IfSome found (IsTextIn behind) → IsTextIn behind text
  text_found found same holds = subst (λ o. IfSome o (IsTextIn behind)) (sym same) holds

-- the bytes that are quoted are that text
whole : (items : List ℕ) → is_some (only_utf8 (Some items)) ≡ true → Some items ≡ only_utf8 (Some items)
whole items = elim (is_utf8 items) as (λ utf8. is_some (if utf8 then Some items else None) ≡ true → Some items ≡ (if utf8 then Some items else None)) [
  | true ↦ λ _. refl
  | false ↦ λ none. cc
]

pub read_is_text : (behind items : List ℕ) → Some items ≡ bytes_quoted behind → is_some (text_quoted behind) ≡ true → is_text items ≡ true
read_is_text behind items is some =
    let same : only_utf8 (Some items) ≡ text_quoted behind = ap only_utf8 is in
    quoted_is_text behind items (whole items (ap is_some same ∙ some) ∙ same)

-- the bytes that are quoted behind those passed, of which the last was a backslash that begins an escape or wasn't
abbrev pub quoted_rest : Bool → List ℕ → Option (List ℕ)
quoted_rest escaping bytes = cond escaping (bytes_escaped bytes) (bytes_quoted bytes)
