-- Passing over a byte between tokens.
use Rattle.std.proofs.Common.{◌≡◌, ℕ, suc, ◌+◌, ◌-◌, ◌<◌, Bool, true, false, cond, not, List, ◌∷◌, refl, ap, ◌∙◌, arith, eqb, length, get_or, drop}
use Rattle.std.specs.List.{prefix_len}
use Rattle.std.proofs.lemmas.Bool.Decides.{nat_tests}
use Rattle.std.proofs.lemmas.List.{drop_more}
use Rattle.sb_tokens.specs.Lexed.{Lexed, is_blank, is_in_comment, lexed_from, lexed_behind}

-- the tokens of bytes, where a comment goes on at the front or doesn't
abbrev pub lexed_between : Bool → ℕ → List ℕ → Lexed
lexed_between in_comment offset bytes = lexed_behind (cond in_comment (prefix_len is_in_comment bytes) 0) offset bytes

lf_ends : (offset : ℕ) (bytes : List ℕ) → lexed_from offset (10 ∷ bytes) ≡ lexed_from (offset + 1) bytes
lf_ends offset bytes = refl

comment_goes_on : (offset b : ℕ) (bytes : List ℕ) → lexed_between true offset (b ∷ bytes) ≡ lexed_between (not (eqb b 10)) (offset + 1) bytes
comment_goes_on offset b bytes =
    elim (eqb b 10) as (λ is. eqb b 10 ≡ is → lexed_behind (cond (not is) (1 + prefix_len is_in_comment bytes) 0) offset (b ∷ bytes) ≡ lexed_between (not is) (offset + 1) bytes) [
      | true ↦ λ is. let e : b ≡ 10 = grind (arith, nat_tests) in rw e (lf_ends offset bytes)
      | false ↦ λ _. let one : 1 + prefix_len is_in_comment bytes ≡ suc (prefix_len is_in_comment bytes) = omega arith in rw one refl
    ] refl

comment_begins : (offset b : ℕ) (bytes : List ℕ) → b ≡ 35 → lexed_from offset (b ∷ bytes) ≡ lexed_between true (offset + 1) bytes
comment_begins offset b bytes is =
    let less : 1 + prefix_len is_in_comment bytes - 1 ≡ prefix_len is_in_comment bytes = omega arith in
    rw (is, less) refl

pub blank_passed : (offset b : ℕ) (bytes : List ℕ) → is_blank b ≡ true → lexed_from offset (b ∷ bytes) ≡ lexed_from (offset + 1) bytes
blank_passed offset b bytes is = rw is refl

-- the same, at a place in a list
moved : (before : Lexed) (was now : Bool) (offset at : ℕ) (bytes : List ℕ) → at < length bytes
    → before ≡ lexed_between was (offset + at) (drop at bytes)
    → lexed_between was (offset + at) (get_or bytes at 0 ∷ drop (at + 1) bytes) ≡ lexed_between now (offset + at + 1) (drop (at + 1) bytes)
    → before ≡ lexed_between now (offset + (at + 1)) (drop (at + 1) bytes)
moved before was now offset at bytes inside is step =
    let further : offset + at + 1 ≡ offset + (at + 1) = omega arith in
    is ∙ (ap (lexed_between was (offset + at)) (drop_more bytes at 0 inside) ∙ (step ∙ ap (λ place. lexed_between now place (drop (at + 1) bytes)) further))

pub in_comment_moved : (before : Lexed) (was now : Bool) (offset at : ℕ) (bytes : List ℕ) → at < length bytes
    → before ≡ lexed_between was (offset + at) (drop at bytes) → was ≡ true → now ≡ not (eqb (get_or bytes at 0) 10)
    → before ≡ lexed_between now (offset + (at + 1)) (drop (at + 1) bytes)
in_comment_moved before was now offset at bytes inside is in_comment ends =
    moved before was now offset at bytes inside is (rw (in_comment, ends) (comment_goes_on (offset + at) (get_or bytes at 0) (drop (at + 1) bytes)))

pub comment_moved : (before : Lexed) (was now : Bool) (offset at : ℕ) (bytes : List ℕ) → at < length bytes
    → before ≡ lexed_between was (offset + at) (drop at bytes) → was ≡ false → get_or bytes at 0 ≡ 35 → now ≡ true
    → before ≡ lexed_between now (offset + (at + 1)) (drop (at + 1) bytes)
comment_moved before was now offset at bytes inside is outside begins in_comment =
    moved before was now offset at bytes inside is (rw (outside, in_comment) (comment_begins (offset + at) (get_or bytes at 0) (drop (at + 1) bytes) begins))

pub blank_moved : (before : Lexed) (was now : Bool) (offset at : ℕ) (bytes : List ℕ) → at < length bytes
    → before ≡ lexed_between was (offset + at) (drop at bytes) → was ≡ false → is_blank (get_or bytes at 0) ≡ true → now ≡ was
    → before ≡ lexed_between now (offset + (at + 1)) (drop (at + 1) bytes)
blank_moved before was now offset at bytes inside is outside blank same =
    moved before was now offset at bytes inside is (rw (same, outside) (blank_passed (offset + at) (get_or bytes at 0) (drop (at + 1) bytes) blank))
