-- The lines of pieces, and what is read of them.
use Rattle.std.proofs.Common.{◌≡◌, ℕ, zero, suc, add-one, ◌+◌, ◌-◌, ◌<◌, ◌≤◌, ◌∙◌, ◌==◌, true, false, cond, List, [], ◌∷◌, ◌++◌, append-nil, length, take, drop, slice_index_or, Ok, Err, refl, sym, ap, subst, arith}
use Rattle.std.specs.Prelude.{Result, nat_lt}
use Rattle.std.proofs.lemmas.Bool.Decides.{nat_tests}
use Rattle.std.proofs.lemmas.List.{append_assoc, length-append}
use Rattle.std.proofs.lemmas.List.Concat.{flat_map-append}
use Rattle.std.specs.List.{AllByRecursion, flat_map}
use Rattle.sb_text.specs.Lines.{Line, lines_from, lines_of, onto_first}
use Rattle.sb_check.specs.Log.{LogFault, Logged, most_records, onto_records, record_of, records_of, too_many, within_limit}
use Rattle.sb_check.specs.Programs.{CheckedProgram}
use Rattle.sb_check.specs.declared.log.LineKind.{LineKind}
use Rattle.sb_log.specs.PieceLines.{IsPiece, SplitsLines, lines_behind, piece_lines}
use Rattle.sb_log.specs.declared.pieces.Piece.{Piece}
use Rattle.sb_log.specs.Reader.{within_room}
use Rattle.sb_log.specs.Reading.{onto_log, records_behind}

-- ---- numbers

front_behind : (before number byte : ℕ) (lines : List Line) → lines_behind before (onto_first number byte lines) ≡ onto_first (before + number) byte (lines_behind before lines)
front_behind before number byte [] = refl
front_behind before number byte (line ∷ lines) = refl

-- lines that are numbered behind others
pub behind_from : (before number : ℕ) (bytes : List ℕ) → lines_behind before (lines_from number bytes) ≡ lines_from (before + number) bytes
behind_from before number [] = refl
behind_from before number (byte ∷ bytes) =
    elim (byte == 10) as (λ b. lines_behind before (cond b (record { number = number; bytes = []; ended = true } ∷ lines_from (number + 1) bytes) (onto_first number byte (lines_from number bytes)))
    ≡ cond b (record { number = before + number; bytes = []; ended = true } ∷ lines_from ((before + number) + 1) bytes) (onto_first (before + number) byte (lines_from (before + number) bytes))) [
      | true ↦ ap (λ ls. record { number = before + number; bytes = []; ended = true } ∷ ls) (behind_from before (number + 1) bytes ∙ ap (λ n. lines_from n bytes) (omega arith))
      | false ↦ front_behind before number byte (lines_from number bytes) ∙ ap (onto_first (before + number) byte) (behind_from before number bytes)
    ]

front_length : (a b byte : ℕ) (xs ys : List Line) → length xs ≡ length ys → length (onto_first a byte xs) ≡ length (onto_first b byte ys)
front_length a b byte [] [] same = refl
front_length a b byte [] (y ∷ ys) same = cc
front_length a b byte (x ∷ xs) [] same = cc
front_length a b byte (x ∷ xs) (y ∷ ys) same = same

-- how many lines there are doesn't depend on where they begin
pub same_count : (a b : ℕ) (bytes : List ℕ) → length (lines_from a bytes) ≡ length (lines_from b bytes)
same_count a b [] = refl
same_count a b (byte ∷ bytes) =
    elim (byte == 10) as (λ t. length (cond t (record { number = a; bytes = []; ended = true } ∷ lines_from (a + 1) bytes) (onto_first a byte (lines_from a bytes)))
    ≡ length (cond t (record { number = b; bytes = []; ended = true } ∷ lines_from (b + 1) bytes) (onto_first b byte (lines_from b bytes)))) [
      | true ↦ ap suc (same_count (a + 1) (b + 1) bytes)
      | false ↦ front_length a b byte (lines_from a bytes) (lines_from b bytes) (same_count a b bytes)
    ]

-- ---- cuts behind an LF

abbrev IsSome : List Line → Type 0
IsSome [] = ⊥
IsSome (line ∷ lines) = Unit {0}

some_front : (number byte : ℕ) (lines : List Line) → IsSome (onto_first number byte lines)
some_front number byte [] = tt
some_front number byte (line ∷ lines) = tt

some_line : (number : ℕ) (a : List ℕ) → IsSome (lines_from number (a ++ 10 ∷ []))
some_line number [] = tt
some_line number (x ∷ a) = elim (x == 10) as (λ b. IsSome (cond b (record { number = number; bytes = []; ended = true } ∷ lines_from (number + 1) (a ++ 10 ∷ [])) (onto_first number x (lines_from number (a ++ 10 ∷ []))))) [
  | true ↦ tt
  | false ↦ some_front number x (lines_from number (a ++ 10 ∷ []))
]

length_front : (number byte : ℕ) (lines : List Line) → IsSome lines → length (onto_first number byte lines) ≡ length lines
length_front number byte [] some = absurd some
length_front number byte (line ∷ lines) some = refl

front_append : (number byte : ℕ) (xs ys : List Line) → IsSome xs → onto_first number byte (xs ++ ys) ≡ onto_first number byte xs ++ ys
front_append number byte [] ys some = absurd some
front_append number byte (x ∷ xs) ys some = refl

-- the lines of a text are those up to an LF, and then those behind it
pub lines_split : (a b : List ℕ) → SplitsLines (a ++ 10 ∷ b) (a ++ 10 ∷ []) b
lines_split [] b = λ number. refl
lines_split (x ∷ a) b = λ number.
    elim (x == 10) as (λ t. cond t (record { number = number; bytes = []; ended = true } ∷ lines_from (number + 1) (a ++ 10 ∷ b)) (onto_first number x (lines_from number (a ++ 10 ∷ b)))
    ≡ cond t (record { number = number; bytes = []; ended = true } ∷ lines_from (number + 1) (a ++ 10 ∷ [])) (onto_first number x (lines_from number (a ++ 10 ∷ [])))
    ++ lines_from (number + length (cond t (record { number = number; bytes = []; ended = true } ∷ lines_from (number + 1) (a ++ 10 ∷ [])) (onto_first number x (lines_from number (a ++ 10 ∷ []))))) b) [
      | true ↦ ap (λ ls. record { number = number; bytes = []; ended = true } ∷ ls) (lines_split a b (number + 1) ∙ ap (λ n. lines_from (number + 1) (a ++ 10 ∷ []) ++ lines_from n b) (omega arith))
      | false ↦ ap (onto_first number x) (lines_split a b number)
          ∙ (front_append number x (lines_from number (a ++ 10 ∷ [])) (lines_from (number + length (lines_from number (a ++ 10 ∷ []))) b) (some_line number a)
          ∙ ap (λ n. onto_first number x (lines_from number (a ++ 10 ∷ [])) ++ lines_from (number + n) b) (sym (length_front number x (lines_from number (a ++ 10 ∷ [])) (some_line number a))))
    ]

both_sides : (bytes : List ℕ) (at : ℕ) → at < length bytes → slice_index_or bytes at 0 ≡ 10
    → (take at bytes ++ 10 ∷ drop (suc at) bytes ≡ bytes) × (take (suc at) bytes ≡ take at bytes ++ 10 ∷ [])
both_sides [] at less is = absurd (omega (arith, less))
both_sides (x ∷ xs) zero less is = (ap (λ y. y ∷ xs) (sym is), ap (λ y. y ∷ []) is)
both_sides (x ∷ xs) (suc at) less is = let rest = both_sides xs at (omega (arith, less)) is in (ap (λ l. x ∷ l) rest.0, ap (λ l. x ∷ l) rest.1)

-- a text that is cut behind an LF
pub cut_at : (bytes : List ℕ) (at : ℕ) (first rest : List ℕ) → at < length bytes → slice_index_or bytes at 0 ≡ 10 → first ≡ take (at + 1) bytes → rest ≡ drop (at + 1) bytes → SplitsLines bytes first rest
cut_at bytes at first rest less is front back =
    let sides = both_sides bytes at less is in
    let one : at + 1 ≡ suc at = add-one at in
    subst (λ l. SplitsLines l first rest) sides.0
    (subst (λ f. SplitsLines (take at bytes ++ 10 ∷ drop (suc at) bytes) f rest) (sym (front ∙ (ap (λ n. take n bytes) one ∙ sides.1)))
    (subst (λ r. SplitsLines (take at bytes ++ 10 ∷ drop (suc at) bytes) (take at bytes ++ 10 ∷ []) r) (sym (back ∙ ap (λ n. drop n bytes) one))
    (lines_split (take at bytes) (drop (suc at) bytes))))

-- ---- two pieces in a row

module _ (bytes first second : List ℕ) (before count behind : ℕ) (splits : SplitsLines bytes first second) (counted : count ≡ length (lines_of first)) (sum : behind ≡ before + count) where
  pub first_count : count ≡ length (lines_from (before + 1) first)
  first_count = counted ∙ same_count 1 (before + 1) first

  -- they have the lines of both
  pub both_lines : lines_from (before + 1) first ++ lines_from (behind + 1) second ≡ lines_from (before + 1) bytes
  both_lines = ap (λ n. lines_from (before + 1) first ++ lines_from n second) (let own = first_count in omega (arith, sum, own)) ∙ sym (splits (before + 1))

  -- the second has as many as the first leaves
  pub second_count : (all left : ℕ) → all ≡ length (lines_from (before + 1) bytes) → left ≡ all - count → left ≡ length (lines_from (behind + 1) second)
  second_count all left is rest =
      let own = first_count in
      let whole = length-append (lines_from (before + 1) first) (lines_from (behind + 1) second) in
      let same = ap length both_lines in
      omega (arith, is, rest, own, whole, same)

-- ---- records

-- records are as many as their lines
onto_length : (number : ℕ) (first : Result Logged LineKind) (rest : Result (List Logged) LogFault) (all : List Logged) (n : ℕ)
    → ((others : List Logged) → rest ≡ Ok others → length others ≡ n) → onto_records number first rest ≡ Ok all → length all ≡ suc n
onto_length number (Err kind) rest all n same is = cc
onto_length number (Ok r) (Err fault) all n same is = cc
onto_length number (Ok r) (Ok others) all n same is = let whole : r ∷ others ≡ all = cc in ap length (sym whole) ∙ ap suc (same others refl)

pub records_length : (c : CheckedProgram) (lines : List Line) (all : List Logged) → records_of c lines ≡ Ok all → length all ≡ length lines
records_length c [] all is = let none : [] ≡ all = cc in ap length (sym none)
records_length c (line ∷ lines) all is = onto_length line.number (record_of c line) (records_of c lines) all (length lines) (records_length c lines) is

not_above : (m n : ℕ) → m ≤ n → nat_lt n m ≡ false
not_above m n few = grind (arith, nat_tests)

room_by : (room n : ℕ) (said : Result (List Logged) LogFault) → n ≤ room → ((all : List Logged) → said ≡ Ok all → length all ≡ n) → within_room room said ≡ said
room_by room n (Err fault) few long = refl
room_by room n (Ok all) few long = let same = long all refl in ap (λ b. cond b (Err too_many) (Ok all)) (not_above (length all) room (omega (arith, few, same)))

-- there is room for the records of so many lines
pub room_for : (c : CheckedProgram) (room : ℕ) (lines : List Line) → length lines ≤ room → within_room room (records_of c lines) ≡ records_of c lines
room_for c room lines few = room_by room (length lines) (records_of c lines) few (records_length c lines)

pub room_is_limit : (said : Result (List Logged) LogFault) → within_room most_records said ≡ within_limit said
room_is_limit (Err fault) = refl
room_is_limit (Ok all) = refl

-- ---- one piece and then the rest

onto_by : (number : ℕ) (first : Result Logged LineKind) (xs ys : Result (List Logged) LogFault) → onto_records number first (onto_log xs ys) ≡ onto_log (onto_records number first xs) ys
onto_by number (Err kind) xs ys = refl
onto_by number (Ok r) (Err fault) ys = refl
onto_by number (Ok r) (Ok records) (Err fault) = refl
onto_by number (Ok r) (Ok records) (Ok others) = refl

none_behind : (said : Result (List Logged) LogFault) → said ≡ records_behind [] said
none_behind (Err fault) = refl
none_behind (Ok records) = refl

pub records_append : (c : CheckedProgram) (xs ys : List Line) → records_of c (xs ++ ys) ≡ onto_log (records_of c xs) (records_of c ys)
records_append c [] ys = none_behind (records_of c ys)
records_append c (line ∷ xs) ys = ap (onto_records line.number (record_of c line)) (records_append c xs ys) ∙ onto_by line.number (record_of c line) (records_of c xs) (records_of c ys)
