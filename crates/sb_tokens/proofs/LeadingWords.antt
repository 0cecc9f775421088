-- The letters and digits at the front.
use Rattle.std.proofs.Common.{◌≡◌, ℕ, zero, suc, ◌<◌, Bool, true, false, cond, List, [], ◌∷◌, refl, arith, get_or, take_while, length, is_none, nat_le}
use Rattle.std.specs.List.{list_all}
use Rattle.std.specs.Str.{is_utf8}
use Rattle.sb_tokens.proofs.Bools.{both}
use Rattle.std.proofs.lemmas.Bool.Decides.{nat_tests}
use Rattle.std.proofs.lemmas.Str.{IsUtf8-from_ascii, is_utf8-from_IsUtf8}
use Rattle.std.proofs.lemmas.List.Sums.{take_while-cons}
use Rattle.sb_tokens.specs.Word.{is_letter, is_letter_or_digit, are_word_bytes, is_word, is_name}
use Rattle.sb_tokens.specs.Keyword.{keyword_of}

all_pass : (p : ℕ → Bool) (bytes : List ℕ) → list_all p (take_while p bytes) ≡ true
all_pass p [] = refl
all_pass p (b ∷ bytes) =
    rw (take_while-cons p b bytes) (elim (p b) as (λ is. p b ≡ is → list_all p (cond is (b ∷ take_while p bytes) []) ≡ true) [
      | true ↦ λ is. rw is (all_pass p bytes)
      | false ↦ λ _. refl
    ] refl)

pub word_at_front : (bytes : List ℕ) → is_letter (get_or bytes 0 0) ≡ true → are_word_bytes (take_while is_letter_or_digit bytes) ≡ true
word_at_front [] is = cc
word_at_front (b ∷ bytes) is =
    rw (take_while-cons is_letter_or_digit b bytes, is, all_pass is_letter_or_digit bytes) (rw is refl)

-- letters and digits are ASCII
low : (b : ℕ) → is_letter_or_digit b ≡ true → b < 128
low b is = grind (arith, nat_tests, is)

low_at : (b : ℕ) (bytes : List ℕ) (at : ℕ) → b < 128 → ((place : ℕ) → get_or bytes place 0 < 128) → get_or (b ∷ bytes) at 0 < 128
low_at b bytes zero small others = small
low_at b bytes (suc at) small others = others at

all_low : (bytes : List ℕ) → list_all is_letter_or_digit bytes ≡ true → (at : ℕ) → get_or bytes at 0 < 128
all_low [] all at = omega arith
all_low (b ∷ bytes) all at =
    let parts = both (is_letter_or_digit b) (list_all is_letter_or_digit bytes) all in
    low_at b bytes at (low b parts.0) (all_low bytes parts.1)

pub word_bytes_are : (bytes : List ℕ) → are_word_bytes bytes ≡ true → list_all is_letter_or_digit bytes ≡ true
word_bytes_are [] is = refl
word_bytes_are (b ∷ bytes) is =
    let parts = both (is_letter b) (list_all is_letter_or_digit bytes) is in
    rw (parts.0, parts.1) refl

pub name_is_word : (bytes : List ℕ) → is_name bytes ≡ true → are_word_bytes bytes ≡ true
name_is_word bytes is =
    let word = both (is_word bytes) (is_none (keyword_of bytes)) is in
    (both (are_word_bytes bytes) (nat_le (length bytes) 64) word.0).0

pub name_is_utf8 : (bytes : List ℕ) → is_name bytes ≡ true → is_utf8 bytes ≡ true
name_is_utf8 bytes is = is_utf8-from_IsUtf8 bytes (IsUtf8-from_ascii bytes (all_low bytes (word_bytes_are bytes (name_is_word bytes is))))
