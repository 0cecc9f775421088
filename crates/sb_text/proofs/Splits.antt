-- The first separator of a text parts its lines and its pieces.
use Rattle.std.proofs.Common.{◌≡◌, ℕ, ◌+◌, ◌<◌, List, [], ◌∷◌, ◌++◌, length, Some, true, false, arith, refl, eqb, cond, filter, ◌==◌, ◌∙◌}
use Rattle.std.specs.Iterator.{MakesProgress, item_count}
use Rattle.std.proofs.lemmas.Bool.Decides.{nat_tests}
use Rattle.sb_text.specs.Lines.{lines_from}
use Rattle.sb_text.specs.Columns.{Lacks, pieces, onto_piece}

pub pieces-split : (separator : ℕ) (word rest : List ℕ) → Lacks separator word → pieces separator (word ++ separator ∷ rest) ≡ word ∷ pieces separator rest
pieces-split separator [] rest lacks = let e : eqb separator separator ≡ true = grind (arith, nat_tests) in rw e refl
pieces-split separator (byte ∷ word) rest lacks =
    let other : eqb byte separator ≡ false = grind (arith, nat_tests, lacks.0) in
    rw (other, pieces-split separator word rest lacks.1) refl

pub pieces-whole : (separator : ℕ) (word : List ℕ) → Lacks separator word → pieces separator word ≡ word ∷ []
pieces-whole separator [] lacks = refl
pieces-whole separator (byte ∷ word) lacks =
    let other : eqb byte separator ≡ false = grind (arith, nat_tests, lacks.0) in
    rw (other, pieces-whole separator word lacks.1) refl

pub length-onto_piece : (byte : ℕ) (pieces : List (List ℕ)) → 0 < length pieces → length (onto_piece byte pieces) ≡ length pieces
length-onto_piece byte [] some = absurd (omega arith)
length-onto_piece byte (piece ∷ pieces) some = refl

pub lines-split : (number : ℕ) (word rest : List ℕ) → Lacks 10 word
    → lines_from number (word ++ 10 ∷ rest) ≡ record { number = number; bytes = word; ended = true } ∷ lines_from (number + 1) rest
lines-split number [] rest lacks = refl
lines-split number (byte ∷ word) rest lacks =
    let other : eqb byte 10 ≡ false = grind (arith, nat_tests, lacks.0) in
    rw (other, lines-split number word rest lacks.1) refl

pub lines-whole : (number : ℕ) (word : List ℕ) → 0 < length word → Lacks 10 word
    → lines_from number word ≡ record { number = number; bytes = word; ended = false } ∷ []
lines-whole number [] some lacks = absurd (omega arith)
lines-whole number (byte ∷ []) some lacks =
    let other : eqb byte 10 ≡ false = grind (arith, nat_tests, lacks.0) in
    rw other refl
lines-whole number (byte ∷ next ∷ word) some lacks =
    let other : eqb byte 10 ≡ false = grind (arith, nat_tests, lacks.0) in
    rw (other, lines-whole number (next ∷ word) (omega arith) lacks.1) refl

-- there is one piece more than separators
pub length-pieces : (separator : ℕ) (bytes : List ℕ) → length (pieces separator bytes) ≡ length (filter (λ byte. byte == separator) bytes) + 1
length-pieces separator [] = refl
length-pieces separator (byte ∷ bytes) =
    let rest = length-pieces separator bytes in
    elim (eqb byte separator) as (λ is. length (cond is ([] ∷ pieces separator bytes) (onto_piece byte (pieces separator bytes)))
    ≡ length (cond is (byte ∷ filter (λ b. b == separator) bytes) (filter (λ b. b == separator) bytes)) + 1) [
      | true ↦ omega (arith, rest)
      | false ↦ length-onto_piece byte (pieces separator bytes) (omega (arith, rest)) ∙ rest
    ]

-- an iterator whose state is the list of what is left has fewer left after it gave the first
pub goes_on : {A B : Type 0} {x : A} {y : B} {before after : List B} → before ≡ y ∷ after
    → MakesProgress (λ (left : List B). Unit {0}) (item_count (λ left. left)) before (Some x) after
goes_on {before = before} {after = after} steps =
    let fewer : length after < length before = rw steps (omega arith) in
    record { on = λ _. (tt, tt, fewer); keeps = tt; rests = λ _. tt }
