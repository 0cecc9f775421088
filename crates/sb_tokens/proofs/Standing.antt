-- Each token of a text stands in it in its one spelling.
use Rattle.std.proofs.Common.{◌≡◌, ℕ, zero, suc, ◌+◌, ◌-◌, ◌^◌, ◌≤◌, true, false, cond, List, [], ◌∷◌, ◌++◌, Option, Some, None, refl, sym, ap, ◌∙◌, subst, arith, eqb, length, take, take_while, append_assoc, length-append, nat_le}
use Rattle.std.specs.Prelude.{IfSome, option_map}
use Rattle.std.specs.Char.{is_ascii_digit}
use Rattle.std.specs.List.{AllByRecursion, find, prefix_len, starts_with}
use Rattle.std.proofs.lemmas.Bool.Decides.{nat_tests}
use Rattle.std.proofs.lemmas.List.Folds.{length-prefix_len}
use Rattle.std.proofs.lemmas.Slice.Eq.{bytes_eq-Decides}
use Rattle.std.proofs.Math.Seq.{drop-append_seam}
use Rattle.sb_text.specs.Decimal.{natural}
use Rattle.sb_text.proofs.Decimals.{natural-spelled}
use Rattle.sb_tokens.specs.declared.keyword.Keyword.{Keyword}
use Rattle.sb_tokens.specs.declared.symbol.Symbol.{Symbol}
use Rattle.sb_tokens.specs.Keyword.{keyword_text, keywords, keyword_of}
use Rattle.sb_tokens.specs.Symbol.{symbols, symbol_text}
use Rattle.sb_tokens.specs.Word.{is_letter, is_letter_or_digit, are_word_bytes, is_word}
use Rattle.sb_tokens.specs.Quote.{text_quoted}
use Rattle.sb_tokens.specs.Token.{Token, int, text, symbol, spelling, IsSpelled}
use Rattle.sb_tokens.specs.Front.{token_of_word, word_token, number_token, first_symbol, first_token}
use Rattle.sb_tokens.specs.Lexed.{Lexed, Piece, gap, piece, fault, piece_of_token, first_piece, onto_lexed, lexed_behind, is_blank, is_in_comment}
use Rattle.sb_tokens.specs.Written.{StandsIn}
use Rattle.sb_tokens.proofs.Keywords.{find-spelled}
use Rattle.sb_tokens.proofs.LeadingWords.{word_at_front}
use Rattle.sb_tokens.proofs.Quotes.{IsTextIn, text_quoted-text}

-- a token with its spelling at the front
pub record Begins (bytes : List ℕ) (token : Token) : Type 0 where
  pub is_spelled : IsSpelled token
  pub stands : take (length (spelling token)) bytes ≡ spelling token

-- the run of letters and digits at the front
run_stands : (bytes : List ℕ) → take (length (take_while is_letter_or_digit bytes)) bytes ≡ take_while is_letter_or_digit bytes
run_stands bytes = ap (λ n. take n bytes) (length-prefix_len is_letter_or_digit bytes)

word_begins : (bytes word : List ℕ) (found : Option Keyword) → is_word word ≡ true → keyword_of word ≡ found → IfSome found (λ k. word ≡ keyword_text k)
    → take (length word) bytes ≡ word → Begins bytes (token_of_word word found)
word_begins bytes word None is found none stands = record { is_spelled = rw (is, found) refl; stands = stands }
word_begins bytes word (Some k) is found same stands = record { is_spelled = tt; stands = rw (sym same) stands }

word_token-begins : (bytes word : List ℕ) → are_word_bytes word ≡ true → take (length word) bytes ≡ word → IfSome (word_token word) (Begins bytes)
word_token-begins bytes word is stands =
    elim (nat_le (length word) 64) as (λ b. nat_le (length word) 64 ≡ b → IfSome (cond b (Some (token_of_word word (keyword_of word))) None) (Begins bytes)) [
      | true ↦ λ short. word_begins bytes word (keyword_of word) (rw (is, short) refl) refl (find-spelled word keywords) stands
      | false ↦ λ _. tt
    ] refl

number_begins : (bytes digits : List ℕ) (number : Option ℕ) → IfSome number (λ n. (digits ≡ spelling (int n)) × (n ≤ 2 ^ 63 - 1))
    → take (length digits) bytes ≡ digits → IfSome (option_map int number) (Begins bytes)
number_begins bytes digits None is stands = tt
number_begins bytes digits (Some n) is stands = record { is_spelled = omega (arith, is.1); stands = rw (sym is.0) stands }

text_begins : (bytes : List ℕ) (value : Option (List ℕ)) → IfSome value (IsTextIn bytes) → IfSome (option_map text value) (Begins (34 ∷ bytes))
text_begins bytes None is = tt
text_begins bytes (Some value) is = record { is_spelled = is.is_text; stands = ap (λ front. 34 ∷ front) is.stands }

symbol_begins : (bytes : List ℕ) (all : List Symbol) → IfSome (option_map symbol (find (λ s. starts_with eqb bytes (symbol_text s)) all)) (Begins bytes)
symbol_begins bytes [] = tt
symbol_begins bytes (first ∷ all) =
    elim (starts_with eqb bytes (symbol_text first)) as (λ b. starts_with eqb bytes (symbol_text first) ≡ b
    → IfSome (option_map symbol (cond b (Some first) (find (λ s. starts_with eqb bytes (symbol_text s)) all))) (Begins bytes)) [
      | true ↦ λ is. record { is_spelled = tt; stands = sym ((bytes_eq-Decides (symbol_text first) (take (length (symbol_text first)) bytes)).0 is) }
      | false ↦ λ _. symbol_begins bytes all
    ] refl

pub first_token-begins : (bytes : List ℕ) → IfSome (first_token bytes) (Begins bytes)
first_token-begins [] = tt
first_token-begins (b ∷ bytes) =
    let run = take_while is_letter_or_digit (b ∷ bytes) in
    elim (is_letter b) as (λ a. is_letter b ≡ a → IfSome (cond a (word_token run) (cond (is_ascii_digit b) (number_token run) (cond (eqb b 34) (option_map text (text_quoted bytes)) (option_map symbol (first_symbol (b ∷ bytes)))))) (Begins (b ∷ bytes))) [
      | true ↦ λ letter. word_token-begins (b ∷ bytes) run (word_at_front (b ∷ bytes) letter) (run_stands (b ∷ bytes))
      | false ↦ λ _. elim (is_ascii_digit b) as (λ a. IfSome (cond a (number_token run) (cond (eqb b 34) (option_map text (text_quoted bytes)) (option_map symbol (first_symbol (b ∷ bytes))))) (Begins (b ∷ bytes))) [
        | true ↦ number_begins (b ∷ bytes) run (natural (2 ^ 63 - 1) run) (natural-spelled (2 ^ 63 - 1) run (omega arith)) (run_stands (b ∷ bytes))
        | false ↦ elim (eqb b 34) as (λ a. eqb b 34 ≡ a → IfSome (cond a (option_map text (text_quoted bytes)) (option_map symbol (first_symbol (b ∷ bytes)))) (Begins (b ∷ bytes))) [
          | true ↦ λ is. let e : 34 ≡ b = grind (arith, nat_tests) in
              subst (λ x. IfSome (option_map text (text_quoted bytes)) (Begins (x ∷ bytes))) e (text_begins bytes (text_quoted bytes) (text_quoted-text bytes))
          | false ↦ λ _. symbol_begins (b ∷ bytes) symbols
        ] refl
      ]
    ] refl

-- a piece that is a token
abbrev IfPiece : Piece → (Token → Type 0) → Type 0
IfPiece (gap count) P = Unit {0}
IfPiece (piece token) P = P token
IfPiece fault P = Unit {0}

of_token : (found : Option Token) (P : Token → Type 0) → IfSome found P → IfPiece (piece_of_token found) P
of_token None P is = tt
of_token (Some token) P is = is

first_piece-begins : (bytes : List ℕ) → IfPiece (first_piece bytes) (Begins bytes)
first_piece-begins [] = tt
first_piece-begins (b ∷ bytes) =
    elim (is_blank b) as (λ a. IfPiece (cond a (gap 1) (cond (eqb b 35) (gap (1 + prefix_len is_in_comment bytes)) (piece_of_token (first_token (b ∷ bytes))))) (Begins (b ∷ bytes))) [
      | true ↦ tt
      | false ↦ elim (eqb b 35) as (λ a. IfPiece (cond a (gap (1 + prefix_len is_in_comment bytes)) (piece_of_token (first_token (b ∷ bytes)))) (Begins (b ∷ bytes))) [
        | true ↦ tt
        | false ↦ of_token (first_token (b ∷ bytes)) (Begins (b ∷ bytes)) (first_token-begins (b ∷ bytes))
      ]
    ]

onto_standing : (front bytes : List ℕ) (offset : ℕ) (first : Piece) (behind : ℕ → Lexed) → offset ≡ length front → IfPiece first (Begins bytes)
    → ((count : ℕ) → AllByRecursion (StandsIn (front ++ bytes)) (behind count).tokens) → AllByRecursion (StandsIn (front ++ bytes)) (onto_lexed offset first behind).tokens
onto_standing front bytes offset (gap count) behind at is rest = rest count
onto_standing front bytes offset (piece token) behind at is rest = (
  record {
    is_spelled = is.is_spelled;
    stands = rw at (ap (take (length (spelling token))) (drop-append_seam front bytes) ∙ is.stands);
  },
  rest (length (spelling token)),
)
onto_standing front bytes offset fault behind at is rest = tt

pub standing_behind : (front bytes : List ℕ) (skip offset : ℕ) → offset ≡ length front → AllByRecursion (StandsIn (front ++ bytes)) (lexed_behind skip offset bytes).tokens
standing_behind front [] skip offset at = tt
standing_behind front (b ∷ bytes) zero offset at =
    let further : offset + 1 ≡ length (front ++ b ∷ []) = omega (arith, at, length-append front (b ∷ [])) in
    onto_standing front (b ∷ bytes) offset (first_piece (b ∷ bytes)) (λ count. lexed_behind (count - 1) (offset + 1) bytes) at (first_piece-begins (b ∷ bytes))
    (λ count. subst (λ whole. AllByRecursion (StandsIn whole) (lexed_behind (count - 1) (offset + 1) bytes).tokens) (append_assoc front (b ∷ []) bytes)
    (standing_behind (front ++ b ∷ []) bytes (count - 1) (offset + 1) further))
standing_behind front (b ∷ bytes) (suc skip) offset at =
    let further : offset + 1 ≡ length (front ++ b ∷ []) = omega (arith, at, length-append front (b ∷ [])) in
    subst (λ whole. AllByRecursion (StandsIn whole) (lexed_behind skip (offset + 1) bytes).tokens) (append_assoc front (b ∷ []) bytes)
    (standing_behind (front ++ b ∷ []) bytes skip (offset + 1) further)
