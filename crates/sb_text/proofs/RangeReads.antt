-- The text of a set is read as its ranges, and a text that is read is the text of these.
use Rattle.std.proofs.Common.{◌≡◌, ℕ, ◌+◌, ◌%◌, ◌^◌, ◌<◌, ◌≤◌, true, false, cond, List, [], ◌∷◌, ◌++◌, map, Option, Some, None, length, refl, sym, ap, ◌∙◌, arith, eqb, append-nil}
use Rattle.std.specs.Prelude.{nat_le, decimal, IfSome, option_map, option_and_then, MatchOption, codes, bytes_eq}
use Rattle.std.specs.Borrow.{Bor}
use Rattle.std.specs.List.{AllByRecursion}
use Rattle.std.proofs.lemmas.Bool.Decides.{nat_tests}
use Rattle.std.proofs.lemmas.Fmt.{decimal_by_steps}
use Rattle.std.proofs.lemmas.Option.{IfSome_then}
use Rattle.std.proofs.lemmas.Slice.Eq.{bytes_eq-Decides}
use Rattle.sb_text.specs.Columns.{Lacks, pieces, onto_piece}
use Rattle.sb_text.specs.Decimal.{natural}
use Rattle.sb_text.specs.MaximalRanges.{IsRange, AreApart, AreMaximal, numbers_of}
use Rattle.sb_text.specs.Ranges.{Range, IsSet, ranges_of, range_text, ranges_joined, ranges_text}
use Rattle.sb_text.specs.RangesRead.{most, ordered_range, cut, range_read, ranges_from, ranges_read}
use Rattle.sb_text.proofs.Decimals.{natural-decimal, natural-spelled}
use Rattle.sb_text.proofs.RangeNumbers.{all_ranges, apart-ranges_of, ranges-numbers, set-numbers_of}
use Rattle.sb_text.proofs.Splits.{pieces-split, pieces-whole}

-- how much of a text is left to read
abbrev pub room_left : Option (Bor (List ℕ)) → ℕ
room_left None = 0
room_left (Some rest) = length rest.now + 1

-- the first separator
pub cut-split : (separator : ℕ) (word rest : List ℕ) → Lacks separator word → cut separator (word ++ separator ∷ rest) ≡ Some (word, rest)
cut-split separator [] rest lacks = let e : eqb separator separator ≡ true = grind (arith, nat_tests) in rw e refl
cut-split separator (b ∷ word) rest lacks =
    let other : eqb b separator ≡ false = grind (arith, nat_tests, lacks.0) in
    rw (other, cut-split separator word rest lacks.1) refl

pub cut-whole : (separator : ℕ) (word : List ℕ) → Lacks separator word → cut separator word ≡ None
cut-whole separator [] lacks = refl
cut-whole separator (b ∷ word) lacks =
    let other : eqb b separator ≡ false = grind (arith, nat_tests, lacks.0) in
    rw (other, cut-whole separator word lacks.1) refl

pub cut_found : (text : List ℕ) (found : Option (Bor (List ℕ) × Bor (List ℕ)))
    → MatchOption found (Lacks 45 text) (λ parts. Lacks 45 parts.0.now × (text ≡ parts.0.now ++ 45 ∷ parts.1.now))
    → MatchOption found (cut 45 text ≡ None) (λ parts. cut 45 text ≡ Some (parts.0.now, parts.1.now))
cut_found text None lacks = cut-whole 45 text lacks
cut_found text (Some parts) found = ap (cut 45) found.1 ∙ cut-split 45 parts.0.now parts.1.now found.0

abbrev IsCut : ℕ → List ℕ → List ℕ × List ℕ → Type 0
IsCut separator text parts = text ≡ parts.0 ++ separator ∷ parts.1

abbrev led : ℕ → List ℕ × List ℕ → List ℕ × List ℕ
led b parts = (b ∷ parts.0, parts.1)

cut_led : (separator b : ℕ) (text : List ℕ) (parts : Option (List ℕ × List ℕ)) → IfSome parts (IsCut separator text) → IfSome (option_map (led b) parts) (IsCut separator (b ∷ text))
cut_led separator b text None is = tt
cut_led separator b text (Some parts) is = ap (λ xs. b ∷ xs) is

abbrev at_once : List ℕ → Option (List ℕ × List ℕ)
at_once text = Some ([], text)

cut-spelled : (separator : ℕ) (text : List ℕ) → IfSome (cut separator text) (IsCut separator text)
cut-spelled separator [] = tt
cut-spelled separator (b ∷ text) =
    elim (eqb b separator) as (λ a. eqb b separator ≡ a → IfSome (cond a (at_once text) (option_map (led b) (cut separator text))) (IsCut separator (b ∷ text))) [
      | true ↦ λ is. let e : b ≡ separator = grind (arith, nat_tests) in ap (λ x. x ∷ text) e
      | false ↦ λ _. cut_led separator b text (cut separator text) (cut-spelled separator text)
    ] refl

-- one range
abbrev IsRangeText : List ℕ → Range → Type 0
IsRangeText text range = (text ≡ range_text range) × IsRange range

range_of_numbers : (text first second : List ℕ) → text ≡ first ++ 45 ∷ second → (low high : Option ℕ)
    → IfSome low (λ n. (first ≡ decimal n) × (n ≤ most)) → IfSome high (λ n. (second ≡ decimal n) × (n ≤ most))
    → IfSome (option_and_then (λ low. option_and_then (λ high. ordered_range low high) high) low) (IsRangeText text)
range_of_numbers text first second is None high is_low is_high = tt
range_of_numbers text first second is (Some low) None is_low is_high = tt
range_of_numbers text first second is (Some low) (Some high) is_low is_high =
    elim (nat_le low high) as (λ b. nat_le low high ≡ b → IfSome (cond b (Some (low, high)) None) (IsRangeText text)) [
      | true ↦ λ ordered. let le : low ≤ high = grind (arith, nat_tests) in
          (rw (sym is_low.0, sym is_high.0) is, (le, omega (arith, is_high.1)))
      | false ↦ λ _. tt
    ] refl

range_read-spelled : (text : List ℕ) → IfSome (range_read text) (IsRangeText text)
range_read-spelled text = at_parts (cut 45 text) (cut-spelled 45 text) where
  at_parts : (parts : Option (List ℕ × List ℕ)) → IfSome parts (λ parts. text ≡ parts.0 ++ 45 ∷ parts.1)
      → IfSome (option_and_then (λ parts. option_and_then (λ low. option_and_then (λ high. ordered_range low high) (natural most parts.1)) (natural most parts.0)) parts) (IsRangeText text)
  at_parts None is = tt
  at_parts (Some parts) is =
      range_of_numbers text parts.0 parts.1 is (natural most parts.0) (natural most parts.1)
      (natural-spelled most parts.0 (omega arith)) (natural-spelled most parts.1 (omega arith))

lacks_append : (separator : ℕ) (xs ys : List ℕ) → Lacks separator xs → Lacks separator ys → Lacks separator (xs ++ ys)
lacks_append separator [] ys lacks also = also
lacks_append separator (x ∷ xs) ys lacks also = (lacks.0, lacks_append separator xs ys lacks.1 also)

pub lacks-decimal : (separator n : ℕ) → separator < 48 → n < 2 ^ 64 → Lacks separator (decimal n)
lacks-decimal separator n low small =
    decimal_by_steps (λ k digits. Lacks separator digits)
    (λ k digit. ((λ is. absurd (omega (arith, is))), tt))
    (λ k digits ten rest. lacks_append separator digits ((48 + k % 10) ∷ []) rest ((λ is. absurd (omega (arith, is))), tt))
    n small

range_read-text : (low high : ℕ) → IsRange (low, high) → range_read (range_text (low, high)) ≡ Some (low, high)
range_read-text low high is =
    let ordered : nat_le low high ≡ true = grind (arith, nat_tests, is.0) in
    rw (
      cut-split 45 (decimal low) (decimal high) (lacks-decimal 45 low (omega arith) (omega (arith, is.0, is.1))),
      natural-decimal most low (omega (arith, is.0, is.1)) (omega (arith, is.0, is.1)),
      natural-decimal most high (omega (arith, is.1)) (omega (arith, is.1)),
      ordered,
    ) refl

-- what is read is written so
abbrev AreRead : ℕ → List (List ℕ) → List Range → Type 0
AreRead least pieces ranges = (pieces ≡ map range_text ranges) × AreApart least ranges

read_front : (least : ℕ) (piece : List ℕ) (pieces : List (List ℕ)) (range : Range) → IsRangeText piece range → least ≤ range.0 → (ranges : Option (List Range))
    → IfSome ranges (AreRead (range.1 + 2) pieces) → IfSome (option_map (λ ranges. range ∷ ranges) ranges) (AreRead least (piece ∷ pieces))
read_front least piece pieces range is le None read = tt
read_front least piece pieces range is le (Some ranges) read = (ap (λ xs. xs ∷ pieces) is.0 ∙ ap (λ ps. range_text range ∷ ps) read.0, (le, is.1, read.1))

ranges_from-spelled : (least : ℕ) (pieces : List (List ℕ)) → IfSome (ranges_from least pieces) (AreRead least pieces)
ranges_from-spelled least [] = (refl, tt)
ranges_from-spelled least (piece ∷ pieces) = at_range (range_read piece) (range_read-spelled piece) (λ least. ranges_from-spelled least pieces) where
  at_range : (range : Option Range) → IfSome range (IsRangeText piece) → ((least : ℕ) → IfSome (ranges_from least pieces) (AreRead least pieces))
      → IfSome (option_and_then (λ range. cond (nat_le least range.0) (option_map (λ ranges. range ∷ ranges) (ranges_from (range.1 + 2) pieces)) None) range) (AreRead least (piece ∷ pieces))
  at_range None is rest = tt
  at_range (Some range) is rest =
      elim (nat_le least range.0) as (λ b. nat_le least range.0 ≡ b → IfSome (cond b (option_map (λ ranges. range ∷ ranges) (ranges_from (range.1 + 2) pieces)) None) (AreRead least (piece ∷ pieces))) [
        | true ↦ λ above. read_front least piece pieces range is (grind (arith, nat_tests)) (ranges_from (range.1 + 2) pieces) (rest (range.1 + 2))
        | false ↦ λ _. tt
      ] refl

-- what is written is read again
ranges_from-texts : (least : ℕ) (ranges : List Range) → AreApart least ranges → ranges_from least (map range_text ranges) ≡ Some ranges
ranges_from-texts least [] apart = refl
ranges_from-texts least (range ∷ ranges) apart =
    let above : nat_le least range.0 ≡ true = grind (arith, nat_tests, apart.0) in
    rw (range_read-text range.0 range.1 apart.1, above, ranges_from-texts (range.1 + 2) ranges apart.2) refl

-- a text, range by range: each but the first follows a comma
abbrev pub following : List Range → List ℕ
following [] = []
following (range ∷ ranges) = 44 ∷ (range_text range ++ following ranges)

pub joined_following : (range : Range) (ranges : List Range) → ranges_joined (range ∷ ranges) ≡ range_text range ++ following ranges
joined_following range [] = sym (append-nil (range_text range))
joined_following range (next ∷ ranges) = ap (λ text. range_text range ++ 44 ∷ text) (joined_following next ranges)

-- texts of several ranges
abbrev joined : List (List ℕ) → List ℕ
joined [] = []
joined (piece ∷ []) = piece
joined (piece ∷ next ∷ pieces) = piece ++ 44 ∷ joined (next ∷ pieces)

onto_joined : (b : ℕ) (ps : List (List ℕ)) → joined (onto_piece b ps) ≡ b ∷ joined ps
onto_joined b [] = refl
onto_joined b (p ∷ []) = refl
onto_joined b (p ∷ q ∷ ps) = refl

onto_some : (b : ℕ) (ps : List (List ℕ)) → 0 < length (onto_piece b ps)
onto_some b [] = omega arith
onto_some b (p ∷ ps) = omega arith

pieces_some : (bytes : List ℕ) → 0 < length (pieces 44 bytes)
pieces_some [] = omega arith
pieces_some (b ∷ bytes) =
    elim (eqb b 44) as (λ a. 0 < length (cond a ([] ∷ pieces 44 bytes) (onto_piece b (pieces 44 bytes)))) [ true ↦ omega arith | false ↦ onto_some b (pieces 44 bytes) ]

led_joined : (ps : List (List ℕ)) → 0 < length ps → joined ([] ∷ ps) ≡ 44 ∷ joined ps
led_joined [] some = absurd (omega arith)
led_joined (p ∷ ps) some = refl

joined-pieces : (bytes : List ℕ) → joined (pieces 44 bytes) ≡ bytes
joined-pieces [] = refl
joined-pieces (b ∷ bytes) =
    elim (eqb b 44) as (λ a. eqb b 44 ≡ a → joined (cond a ([] ∷ pieces 44 bytes) (onto_piece b (pieces 44 bytes))) ≡ b ∷ bytes) [
      | true ↦ λ is. let e : 44 ≡ b = grind (arith, nat_tests) in led_joined (pieces 44 bytes) (pieces_some bytes) ∙ (ap (λ xs. 44 ∷ xs) (joined-pieces bytes) ∙ ap (λ x. x ∷ bytes) e)
      | false ↦ λ _. onto_joined b (pieces 44 bytes) ∙ ap (λ xs. b ∷ xs) (joined-pieces bytes)
    ] refl

joined_ranges : (range : Range) (ranges : List Range) → joined (map range_text (range ∷ ranges)) ≡ ranges_joined (range ∷ ranges)
joined_ranges range [] = refl
joined_ranges range (next ∷ ranges) = ap (λ xs. range_text range ++ 44 ∷ xs) (joined_ranges next ranges)

text_of_pieces : (bytes : List ℕ) (ranges : List Range) → pieces 44 bytes ≡ map range_text ranges → bytes ≡ ranges_joined ranges
text_of_pieces bytes [] is = let some = pieces_some bytes in absurd (omega (arith, some, ap length is))
text_of_pieces bytes (range ∷ ranges) is = sym (joined-pieces bytes) ∙ (ap joined is ∙ joined_ranges range ranges)

lacks_range : (range : Range) → IsRange range → Lacks 44 (range_text range)
lacks_range range is =
    lacks_append 44 (decimal range.0) (45 ∷ decimal range.1) (lacks-decimal 44 range.0 (omega arith) (omega (arith, is.0, is.1)))
    ((λ no. cc), lacks-decimal 44 range.1 (omega arith) (omega (arith, is.1)))

pieces-ranges : (range : Range) (ranges : List Range) → AllByRecursion IsRange (range ∷ ranges) → pieces 44 (ranges_joined (range ∷ ranges)) ≡ map range_text (range ∷ ranges)
pieces-ranges range [] all = pieces-whole 44 (range_text range) (lacks_range range all.0)
pieces-ranges range (next ∷ ranges) all =
    pieces-split 44 (range_text range) (ranges_joined (next ∷ ranges)) (lacks_range range all.0) ∙ ap (λ ps. range_text range ∷ ps) (pieces-ranges next ranges all.1)

-- whole texts
same_bytes : (xs ys : List ℕ) → bytes_eq xs ys ≡ true → xs ≡ ys
same_bytes xs ys is = (bytes_eq-Decides xs ys).0 is

pub ranges_read-text : (ranges : List Range) → AreMaximal ranges → ranges_read (ranges_joined ranges) ≡ Some ranges
ranges_read-text [] apart = refl
ranges_read-text (range ∷ ranges) apart =
    let read : ranges_from 0 (pieces 44 (ranges_joined (range ∷ ranges))) ≡ Some (range ∷ ranges) =
    ap (ranges_from 0) (pieces-ranges range ranges (all_ranges 0 (range ∷ ranges) apart)) ∙ ranges_from-texts 0 (range ∷ ranges) apart in
    elim (bytes_eq (ranges_joined (range ∷ ranges)) (codes "none")) as (λ b. bytes_eq (ranges_joined (range ∷ ranges)) (codes "none") ≡ b → cond b (Some []) (ranges_from 0 (pieces 44 (ranges_joined (range ∷ ranges)))) ≡ Some (range ∷ ranges)) [
      | true ↦ λ is.
          let none : ranges_from 0 (pieces 44 (ranges_joined (range ∷ ranges))) ≡ None = ap (λ text. ranges_from 0 (pieces 44 text)) (same_bytes (ranges_joined (range ∷ ranges)) (codes "none") is) in
          cc
      | false ↦ λ _. read
    ] refl

ranges_read-spelled : (text : List ℕ) → IfSome (ranges_read text) (λ ranges. AreMaximal ranges × (text ≡ ranges_joined ranges))
ranges_read-spelled text =
    elim (bytes_eq text (codes "none")) as (λ b. bytes_eq text (codes "none") ≡ b → IfSome (cond b (Some []) (ranges_from 0 (pieces 44 text))) (λ ranges. AreMaximal ranges × (text ≡ ranges_joined ranges))) [
      | true ↦ λ is. (tt, same_bytes text (codes "none") is)
      | false ↦ λ _. IfSome_then (ranges_from 0 (pieces 44 text)) (ranges_from-spelled 0 (pieces 44 text)) (λ ranges read. (read.1, text_of_pieces text ranges read.0))
    ] refl

-- the set that a text spells
pub read_maximal : (text : List ℕ) (ranges : List Range) → Some ranges ≡ ranges_read text → AreMaximal ranges
read_maximal text ranges reads = (rw (sym reads) at (ranges_read-spelled text)).0

pub read_spelled : (text : List ℕ) (ranges : List Range) → Some ranges ≡ ranges_read text → IsSet (numbers_of ranges) × (text ≡ ranges_text (numbers_of ranges))
read_spelled text ranges reads =
    let spelled : AreMaximal ranges × (text ≡ ranges_joined ranges) = rw (sym reads) at (ranges_read-spelled text) in
    (set-numbers_of 0 ranges spelled.0, spelled.1 ∙ ap ranges_joined (sym (ranges-numbers 0 ranges spelled.0)))

pub read_every : (text numbers : List ℕ) → IsSet numbers → text ≡ ranges_text numbers → ranges_read text ≡ Some (ranges_of numbers)
read_every text numbers set is = ap ranges_read is ∙ ranges_read-text (ranges_of numbers) (apart-ranges_of numbers set)
