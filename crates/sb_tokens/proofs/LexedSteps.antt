-- The tokens of a text, one on.
use Rattle.std.proofs.Common.{◌≡◌, ℕ, zero, suc, ◌+◌, ◌-◌, ◌<◌, ◌≤◌, true, false, List, [], ◌∷◌, Some, refl, sym, ap, ◌∙◌, arith, eqb, length, drop}
use Rattle.std.specs.Char.{is_ascii_digit}
use Rattle.std.specs.List.{take_while}
use Rattle.std.proofs.lemmas.Bool.Decides.{nat_tests}
use Rattle.sb_tokens.specs.Word.{is_letter, is_letter_or_digit}
use Rattle.sb_tokens.specs.Token.{Token, spelling}
use Rattle.sb_tokens.specs.Front.{word_token, number_token, first_token}
use Rattle.sb_tokens.specs.Lexed.{first_piece, piece, piece_of_token, onto_tokens, onto_lexed, lexed_behind, lexed_from, BeginsNoGap}

pub first_is_word : (bytes : List ℕ) (b : ℕ) (behind : List ℕ) → bytes ≡ b ∷ behind → is_letter b ≡ true
    → word_token (take_while is_letter_or_digit bytes) ≡ first_token bytes
first_is_word bytes b behind is letter = rw is (rw letter refl)

pub first_is_number : (b : ℕ) (behind : List ℕ) → is_letter b ≡ false → is_ascii_digit b ≡ true
    → first_token (b ∷ behind) ≡ number_token (take_while is_letter_or_digit (b ∷ behind))
first_is_number b behind no_letter digit = rw (no_letter, digit) refl

-- passing over bytes
pub passed : (count offset : ℕ) (bytes : List ℕ) → count ≤ length bytes → lexed_behind count offset bytes ≡ lexed_from (offset + count) (drop count bytes)
passed zero offset bytes le = ap (λ place. lexed_from place bytes) (omega arith)
passed (suc count) offset [] le = absurd (omega (arith, le))
passed (suc count) offset (b ∷ bytes) le =
    let further : offset + 1 + count ≡ offset + suc count = omega arith in
    passed count (offset + 1) bytes (omega (arith, le)) ∙ ap (λ place. lexed_from place (drop count bytes)) further

-- what stands at the front where no gap does
pub piece_at : (b : ℕ) (bytes : List ℕ) → BeginsNoGap (b ∷ bytes) → first_piece (b ∷ bytes) ≡ piece_of_token (first_token (b ∷ bytes))
piece_at b bytes front = let other : eqb b 35 ≡ false = grind (arith, nat_tests, front.1) in rw (front.0, other) refl

pub piece_step : (offset : ℕ) (bytes : List ℕ) (token : Token) → first_piece bytes ≡ piece token → 0 < length (spelling token) → length (spelling token) ≤ length bytes
    → lexed_from offset bytes ≡ onto_tokens (offset, token) (lexed_from (offset + length (spelling token)) (drop (length (spelling token)) bytes))
piece_step offset [] token first some le = cc
piece_step offset (b ∷ bytes) token first some le =
    let more : length (spelling token) ≡ suc (length (spelling token) - 1) = omega (arith, some) in
    ap (λ p. onto_lexed offset p (λ n. lexed_behind (n - 1) (offset + 1) bytes)) first
    ∙ ap (onto_tokens (offset, token)) (sym (ap (λ n. lexed_behind n offset (b ∷ bytes)) more) ∙ passed (length (spelling token)) offset (b ∷ bytes) le)

pub token_at : (offset count : ℕ) (bytes : List ℕ) (token : Token) → BeginsNoGap bytes → Some token ≡ first_token bytes → count ≡ length (spelling token)
    → 0 < count → count ≤ length bytes → lexed_from offset bytes ≡ onto_tokens (offset, token) (lexed_from (offset + count) (drop count bytes))
token_at offset count [] token front first counted some le = cc
token_at offset count (b ∷ bytes) token front first counted some le =
    rw counted (piece_step offset (b ∷ bytes) token (piece_at b bytes front ∙ ap piece_of_token (sym first)) (rw (sym counted) some) (rw (sym counted) le))
