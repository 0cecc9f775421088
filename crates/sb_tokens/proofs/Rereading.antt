-- Tokens that are written with a blank behind each are the tokens of that text.
use Rattle.std.proofs.Common.{◌≡◌, ◌≢◌, ℕ, ◌+◌, ◌-◌, ◌%◌, ◌^◌, ◌<◌, Bool, true, false, List, [], ◌∷◌, ◌++◌, Option, Some, None, refl, sym, ap, ◌∙◌, subst, arith, eqb, length, drop, map, take_while, append_assoc, length-append, decimal, nat_le, is_none, flat_map}
use Rattle.std.specs.Prelude.{option_map}
use Rattle.std.specs.Char.{is_ascii_digit}
use Rattle.std.specs.List.{AllByRecursion, list_all}
use Rattle.std.specs.Str.{is_utf8}
use Rattle.std.proofs.lemmas.Bool.Decides.{nat_tests}
use Rattle.std.proofs.lemmas.Fmt.{decimal_by_steps, decimal_nonempty}
use Rattle.std.proofs.lemmas.List.Folds.{list_all-append}
use Rattle.std.proofs.lemmas.List.Sums.{take_while-cons}
use Rattle.std.proofs.Math.Seq.{drop-append_seam}
use Rattle.sb_text.proofs.Decimals.{natural-decimal}
use Rattle.sb_tokens.specs.declared.keyword.Keyword.{Keyword}
use Rattle.sb_tokens.specs.declared.symbol.Symbol.{Symbol}
use Rattle.sb_tokens.specs.declared.symbol.Symbol.TheVariants as s
use Rattle.sb_tokens.specs.Keyword.{keyword_text, keyword_of}
use Rattle.sb_tokens.specs.Symbol.{symbol_text}
use Rattle.sb_tokens.specs.Word.{is_letter, is_letter_or_digit, are_word_bytes, is_word, is_name}
use Rattle.sb_tokens.specs.Quote.{quoted_byte, text_quoted, is_text_byte, is_text}
use Rattle.sb_tokens.specs.Token.{Token, keyword, name, int, text, symbol, spelling, IsSpelled}
use Rattle.sb_tokens.specs.Front.{token_of_word, word_token, number_token}
use Rattle.sb_tokens.specs.Lexed.{ends, is_blank, piece, piece_of_token, first_piece, onto_tokens, lexed_from, lexed, tokens_of}
use Rattle.sb_tokens.specs.Written.{written, Pieces, IsWritten, AreTokens}
use Rattle.sb_tokens.proofs.Bools.{both}
use Rattle.sb_tokens.proofs.Keywords.{keyword_of-keyword_text, keyword_is_word}
use Rattle.sb_tokens.proofs.LeadingWords.{word_bytes_are}
use Rattle.sb_tokens.proofs.LexedSteps.{first_is_word, first_is_number, piece_at, piece_step}
use Rattle.sb_tokens.proofs.Passing.{blank_passed}
use Rattle.sb_tokens.proofs.Quotes.{bytes_quoted-again, only_utf8}

-- a blank ends each token
pub record Ends (c : ℕ) : Type 0 where
  pub word : is_letter_or_digit c ≡ false
  pub equal : eqb 61 c ≡ false
  pub arrow : eqb 62 c ≡ false

ends_token : (c : ℕ) → is_blank c ≡ true → Ends c
ends_token c blank = record { word = grind (arith, nat_tests, blank); equal = grind (arith, nat_tests, blank); arrow = grind (arith, nat_tests, blank) }

run_ends : (p : ℕ → Bool) (w : List ℕ) (c : ℕ) (rest : List ℕ) → list_all p w ≡ true → p c ≡ false → take_while p (w ++ c ∷ rest) ≡ w
run_ends p [] c rest all stop = take_while-cons p c rest ∙ rw stop refl
run_ends p (b ∷ w) c rest all stop =
    let parts = both (p b) (list_all p w) all in
    take_while-cons p b (w ++ c ∷ rest) ∙ rw parts.0 (ap (λ bytes. b ∷ bytes) (run_ends p w c rest parts.1 stop))

-- words
word_piece : (w : List ℕ) (c : ℕ) (rest : List ℕ) → are_word_bytes w ≡ true → Ends c → first_piece (w ++ c ∷ rest) ≡ piece_of_token (word_token w)
word_piece [] c rest is stop = cc
word_piece (b ∷ w) c rest is stop =
    let letter = (both (is_letter b) (list_all is_letter_or_digit w) is).0 in
    let no_blank : is_blank b ≡ false = grind (arith, nat_tests, letter) in
    let no_comment : b ≢ 35 = (λ is. let e : is_letter 35 ≡ true = subst (λ x. is_letter x ≡ true) is letter in cc) in
    piece_at b (w ++ c ∷ rest) (no_blank, no_comment)
    ∙ ap piece_of_token (sym (first_is_word (b ∷ (w ++ c ∷ rest)) b (w ++ c ∷ rest) refl letter)
    ∙ ap word_token (run_ends is_letter_or_digit (b ∷ w) c rest (word_bytes_are (b ∷ w) is) stop.word))

word_token_is : (w : List ℕ) → is_word w ≡ true → word_token w ≡ Some (token_of_word w (keyword_of w))
word_token_is w is = rw ((both (are_word_bytes w) (nat_le (length w) 64) is).1) refl

keyword_piece : (k : Keyword) (c : ℕ) (rest : List ℕ) → Ends c → first_piece (keyword_text k ++ c ∷ rest) ≡ piece (keyword k)
keyword_piece k c rest stop =
    let is = keyword_is_word k in
    word_piece (keyword_text k) c rest ((both (are_word_bytes (keyword_text k)) (nat_le (length (keyword_text k)) 64) is).0) stop
    ∙ (ap piece_of_token (word_token_is (keyword_text k) is) ∙ ap (λ found. piece (token_of_word (keyword_text k) found)) (keyword_of-keyword_text k))

none_is : (o : Option Keyword) → is_none o ≡ true → o ≡ None
none_is None is = refl
none_is (Some k) is = cc

name_piece : (w : List ℕ) (c : ℕ) (rest : List ℕ) → is_name w ≡ true → Ends c → first_piece (w ++ c ∷ rest) ≡ piece (name w)
name_piece w c rest is stop =
    let parts = both (is_word w) (is_none (keyword_of w)) is in
    word_piece w c rest ((both (are_word_bytes w) (nat_le (length w) 64) parts.0).0) stop
    ∙ (ap piece_of_token (word_token_is w parts.0) ∙ ap (λ found. piece (token_of_word w found)) (none_is (keyword_of w) parts.1))

-- numbers
are_digits : (n : ℕ) → n < 2 ^ 64 → list_all is_ascii_digit (decimal n) ≡ true
are_digits n small =
    decimal_by_steps (λ k digits. list_all is_ascii_digit digits ≡ true)
    (λ k d. let t : is_ascii_digit (48 + k) ≡ true = grind (arith, nat_tests, d) in rw t refl)
    (λ k digits ten rest.
    let t : is_ascii_digit (48 + k % 10) ≡ true = grind (arith, nat_tests) in
    list_all-append is_ascii_digit digits ((48 + k % 10) ∷ []) ∙ rw (rest, t) refl)
    n small

digits_are : (ds : List ℕ) → list_all is_ascii_digit ds ≡ true → list_all is_letter_or_digit ds ≡ true
digits_are [] all = refl
digits_are (d ∷ ds) all =
    let parts = both (is_ascii_digit d) (list_all is_ascii_digit ds) all in
    let one : is_letter_or_digit d ≡ true = grind (arith, nat_tests, parts.0) in
    rw (one, digits_are ds parts.1) refl

number_piece : (ds : List ℕ) (c : ℕ) (rest : List ℕ) → 0 < length ds → list_all is_ascii_digit ds ≡ true → Ends c → first_piece (ds ++ c ∷ rest) ≡ piece_of_token (number_token ds)
number_piece [] c rest some all stop = absurd (omega (arith, some))
number_piece (d ∷ ds) c rest some all stop =
    let digit = (both (is_ascii_digit d) (list_all is_ascii_digit ds) all).0 in
    let no_blank : is_blank d ≡ false = grind (arith, nat_tests, digit) in
    let no_comment : d ≢ 35 = (λ is. let e : is_ascii_digit 35 ≡ true = subst (λ x. is_ascii_digit x ≡ true) is digit in cc) in
    let no_letter : is_letter d ≡ false = grind (arith, nat_tests, digit) in
    piece_at d (ds ++ c ∷ rest) (no_blank, no_comment)
    ∙ ap piece_of_token (first_is_number d (ds ++ c ∷ rest) no_letter digit
    ∙ ap number_token (run_ends is_letter_or_digit (d ∷ ds) c rest (digits_are (d ∷ ds) all) stop.word))

int_piece : (n c : ℕ) (rest : List ℕ) → n < 2 ^ 63 → Ends c → first_piece (decimal n ++ c ∷ rest) ≡ piece (int n)
int_piece n c rest small stop =
    number_piece (decimal n) c rest (decimal_nonempty n (omega (arith, small))) (are_digits n (omega (arith, small))) stop
    ∙ ap (λ number. piece_of_token (option_map int number)) (natural-decimal (2 ^ 63 - 1) n (omega (arith, small)) (omega (arith, small)))

-- texts
text_piece : (value : List ℕ) (c : ℕ) (rest : List ℕ) → is_text value ≡ true → first_piece (spelling (text value) ++ c ∷ rest) ≡ piece (text value)
text_piece value c rest is =
    let parts = both (list_all is_text_byte value) (is_utf8 value) is in
    let read = bytes_quoted-again value (c ∷ rest) parts.0 in
    let bytes : (flat_map quoted_byte value ++ 34 ∷ []) ++ c ∷ rest ≡ flat_map quoted_byte value ++ 34 ∷ c ∷ rest = append_assoc (flat_map quoted_byte value) (34 ∷ []) (c ∷ rest) in
    let found : text_quoted ((flat_map quoted_byte value ++ 34 ∷ []) ++ c ∷ rest) ≡ Some value = ap text_quoted bytes ∙ (ap only_utf8 read ∙ rw parts.1 refl) in
    ap (λ o. piece_of_token (option_map text o)) found

-- symbols
symbol_piece : (sign : Symbol) (c : ℕ) (rest : List ℕ) → Ends c → first_piece (symbol_text sign ++ c ∷ rest) ≡ piece (symbol sign)
symbol_piece s.OpenParen c rest stop = refl
symbol_piece s.CloseParen c rest stop = refl
symbol_piece s.OpenBracket c rest stop = refl
symbol_piece s.CloseBracket c rest stop = refl
symbol_piece s.Comma c rest stop = refl
symbol_piece s.Colon c rest stop = refl
symbol_piece s.Dot c rest stop = refl
symbol_piece s.Assign c rest stop = rw stop.equal refl
symbol_piece s.Equal c rest stop = refl
symbol_piece s.Unequal c rest stop = refl
symbol_piece s.Less c rest stop = rw stop.equal refl
symbol_piece s.AtMost c rest stop = refl
symbol_piece s.Greater c rest stop = rw stop.equal refl
symbol_piece s.AtLeast c rest stop = refl
symbol_piece s.Plus c rest stop = refl
symbol_piece s.Minus c rest stop = rw stop.arrow refl
symbol_piece s.Star c rest stop = refl
symbol_piece s.Slash c rest stop = refl
symbol_piece s.Percent c rest stop = refl
symbol_piece s.Bar c rest stop = refl
symbol_piece s.Arrow c rest stop = refl

token_piece : (token : Token) (c : ℕ) (rest : List ℕ) → IsSpelled token → Ends c → first_piece (spelling token ++ c ∷ rest) ≡ piece token
token_piece (keyword k) c rest is stop = keyword_piece k c rest stop
token_piece (name w) c rest is stop = name_piece w c rest is stop
token_piece (int n) c rest is stop = int_piece n c rest is stop
token_piece (text value) c rest is stop = text_piece value c rest is
token_piece (symbol sign) c rest is stop = symbol_piece sign c rest stop

-- no token is empty
some_bytes : (token : Token) (bytes : List ℕ) → first_piece (bytes ++ 32 ∷ []) ≡ piece token → 0 < length bytes
some_bytes token [] is = cc
some_bytes token (b ∷ bytes) is = omega arith

-- one token and the blank behind it
written_step : (offset : ℕ) (token : Token) (c : ℕ) (rest : List ℕ) → IsSpelled token → is_blank c ≡ true
    → lexed_from offset (spelling token ++ c ∷ rest) ≡ onto_tokens (offset, token) (lexed_from (offset + length (spelling token) + 1) rest)
written_step offset token c rest is blank =
    let some = some_bytes token (spelling token) (token_piece token 32 [] is (ends_token 32 refl)) in
    let behind : drop (length (spelling token)) (spelling token ++ c ∷ rest) ≡ c ∷ rest = drop-append_seam (spelling token) (c ∷ rest) in
    piece_step offset (spelling token ++ c ∷ rest) token (token_piece token c rest is (ends_token c blank)) some (omega (arith, length-append (spelling token) (c ∷ rest)))
    ∙ ap (onto_tokens (offset, token)) (ap (lexed_from (offset + length (spelling token))) behind ∙ blank_passed (offset + length (spelling token)) c rest blank)

-- all of them
pub written_again : (offset : ℕ) (pieces : Pieces) → AllByRecursion IsWritten pieces → AreTokens (lexed_from offset (written pieces)) (map (λ p. p.0) pieces) (offset + length (written pieces))
written_again offset [] all = record { tokens = refl; ending = ap ends (omega arith) }
written_again offset (p ∷ pieces) all =
    let further = offset + length (spelling p.0) + 1 in
    let rest = written_again further pieces all.1 in
    let step : lexed_from offset (written (p ∷ pieces)) ≡ onto_tokens (offset, p.0) (lexed_from further (written pieces)) =
    ap (lexed_from offset) (append_assoc (spelling p.0) (p.1 ∷ []) (written pieces)) ∙ written_step offset p.0 p.1 (written pieces) all.0.is_spelled all.0.blank in
    let count : further + length (written pieces) ≡ offset + length (written (p ∷ pieces)) =
    omega (arith, length-append (spelling p.0 ++ p.1 ∷ []) (written pieces), length-append (spelling p.0) (p.1 ∷ [])) in
    record {
      tokens = ap tokens_of step ∙ ap (λ tokens. p.0 ∷ tokens) rest.tokens;
      ending = ap (λ lexed. lexed.ending) step ∙ (rest.ending ∙ ap ends count);
    }

pub written_whole : (bytes : List ℕ) (pieces : Pieces) → AllByRecursion IsWritten pieces → bytes ≡ written pieces → AreTokens (lexed bytes) (map (λ p. p.0) pieces) (length bytes)
written_whole bytes pieces all is =
    let again = written_again 0 pieces all in
    subst (λ whole. AreTokens (lexed whole) (map (λ p. p.0) pieces) (length whole)) (sym is)
    (record { tokens = again.tokens; ending = again.ending ∙ ap ends (omega arith) })
