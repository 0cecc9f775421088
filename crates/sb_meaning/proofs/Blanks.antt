-- The first blank parts a text.
use Rattle.std.proofs.Common.{◌≡◌, ℕ, zero, suc, ◌+◌, ◌-◌, ◌<◌, ◌≤◌, true, false, List, [], ◌∷◌, ◌++◌, map, filter, take, drop, length, Option, Some, None, arith, refl, ap, IsUtf8}
use Rattle.std.proofs.Math.ListN.{get_or}
use Rattle.std.specs.Borrow.{Bor}
use Rattle.std.specs.List.{AllByRecursion}
use Rattle.std.proofs.lemmas.List.{take_all, length-drop, length-append}
use Rattle.std.proofs.lemmas.Bool.Decides.{nat_tests}
use Rattle.std.proofs.lemmas.Str.{IsCharBoundary-before_ascii, IsCharBoundary-after_ascii, IsUtf8-take, IsUtf8-drop}
use Rattle.sb_meaning.specs.Words.{is_blank, is_filled, pieces}

-- no blank stands in it
abbrev pub LacksBlanks : List ℕ → Type 0
LacksBlanks = AllByRecursion (λ byte. is_blank byte ≡ false)

pieces_split : (bytes : List ℕ) (at : ℕ) → at < length bytes → LacksBlanks (take at bytes) → is_blank (get_or bytes at 0) ≡ true
    → pieces bytes ≡ take at bytes ∷ pieces (drop (suc at) bytes)
pieces_split [] at within lacks blank = absurd (omega arith)
pieces_split (byte ∷ bytes) zero within lacks blank = rw blank refl
pieces_split (byte ∷ bytes) (suc at) within lacks blank = rw (lacks.0, pieces_split bytes at (omega arith) lacks.1 blank) refl

-- what follows the byte at a place
pub rest_behind : (bytes : List ℕ) (at : ℕ) → take (length bytes - (at + 1)) (drop (at + 1) bytes) ≡ drop (at + 1) bytes
rest_behind bytes at = take_all (length bytes - (at + 1)) (drop (at + 1) bytes) (rw (length-drop (at + 1) bytes) (omega arith))

pub pieces_at : (bytes : List ℕ) (at : ℕ) → at < length bytes → LacksBlanks (take at bytes) → is_blank (get_or bytes at 0) ≡ true
    → pieces bytes ≡ take at bytes ∷ pieces (take (length bytes - (at + 1)) (drop (at + 1) bytes))
pieces_at bytes at within lacks blank =
    let next : at + 1 ≡ suc at = omega arith in
    rw (rest_behind bytes at, next) (pieces_split bytes at within lacks blank)

pub pieces_whole : (bytes : List ℕ) → LacksBlanks bytes → pieces bytes ≡ bytes ∷ []
pieces_whole [] lacks = refl
pieces_whole (byte ∷ bytes) lacks = rw (lacks.0, pieces_whole bytes lacks.1) refl

pub lacks_whole : (bytes : List ℕ) (at : ℕ) → length bytes ≤ at → LacksBlanks (take at bytes) → LacksBlanks bytes
lacks_whole [] at past lacks = tt
lacks_whole (byte ∷ bytes) zero past lacks = absurd (omega arith)
lacks_whole (byte ∷ bytes) (suc at) past lacks = (lacks.0, lacks_whole bytes at (omega arith) lacks.1)

-- a blank is ASCII
pub below_128 : (byte : ℕ) → is_blank byte ≡ true → byte < 128
below_128 byte blank = grind (arith, nat_tests)

pub utf8_before : (bytes : List ℕ) (at : ℕ) → IsUtf8 bytes → at < length bytes → is_blank (get_or bytes at 0) ≡ true → IsUtf8 (take at bytes)
utf8_before bytes at is within blank = IsUtf8-take bytes at is (IsCharBoundary-before_ascii bytes at within (below_128 (get_or bytes at 0) blank))

pub utf8_behind : (bytes : List ℕ) (at : ℕ) → IsUtf8 bytes → at < length bytes → is_blank (get_or bytes at 0) ≡ true
    → IsUtf8 (take (length bytes - (at + 1)) (drop (at + 1) bytes))
utf8_behind bytes at is within blank =
    rw (rest_behind bytes at) (IsUtf8-drop bytes (at + 1) is (IsCharBoundary-after_ascii bytes at is within (below_128 (get_or bytes at 0) blank)))

-- how much of a text is left
abbrev pub room_left : Option (Bor (List ℕ)) → ℕ
room_left None = 0
room_left (Some rest) = length rest.now + 1

-- a word more among those that are found, and fewer that may follow
pub word_kept : {A B : Type 0} (view : A → B) (text : List ℕ → B) (most : ℕ) (found : List A) (word : A) (piece : List ℕ) (left : List (List ℕ))
    → length found < most → is_filled piece ≡ true → view word ≡ text piece
    → map view (found ++ word ∷ []) ++ map text (take (most - length (found ++ word ∷ [])) (filter is_filled left))
    ≡ map view found ++ map text (take (most - length found) (filter is_filled (piece ∷ left)))
word_kept view text zero found word piece left room filled is = absurd (omega arith)
word_kept view text (suc most) [] word piece left room filled is =
    let fewer : suc most - 1 ≡ most = omega arith in
    let all : suc most - 0 ≡ suc most = omega arith in
    rw (filled, is, fewer, all) refl
word_kept view text (suc most) (y ∷ found) word piece left room filled is =
    let after : suc most - suc (length (found ++ word ∷ [])) ≡ most - length (found ++ word ∷ []) = omega arith in
    let before : suc most - suc (length found) ≡ most - length found = omega arith in
    rw (after, before) (ap (λ rest. view y ∷ rest) (word_kept view text most found word piece left (omega arith) filled is))

pub few_kept : {A : Type 0} (most : ℕ) (found : List A) (word : A) → length found < most → length (found ++ word ∷ []) ≤ most
few_kept most found word room = rw (length-append found (word ∷ [])) (omega arith)
