-- Ranges put into maximal ranges, and which numbers they cover then.
use Rattle.std.proofs.Common.{◌≡◌, ℕ, zero, suc, ◌+◌, ◌-◌, ◌<◌, ◌≤◌, min, max, Bool, true, false, cond, ◌&&◌, ◌||◌, List, [], ◌∷◌, ◌++◌, length, drop, take, set, insert, get_or, add-one, refl, sym, ap, ◌∙◌, arith, eqb, leb, ltb}
use Rattle.std.specs.List.{range_with_len}
use Rattle.std.proofs.lemmas.Bool.Decides.{nat_tests}
use Rattle.std.proofs.lemmas.List.Sorted.{IsNonDecreasingBy-from_default, IsPartitionedBy-ltb}
use Rattle.std.specs.List.Sorted.{IsPartitionedBy}
use Rattle.sb_text.specs.MaximalRanges.{IsRange, AreApart, AreMaximal, numbers_in, numbers_of, is_within, is_covered, first_at, last_at, IsPlace}
use Rattle.sb_text.specs.Ranges.{Range, put, union}
use Rattle.sb_text.proofs.RangeNumbers.{set-numbers_of}
use Rattle.sb_text.proofs.Sets.{has, has-append, has-put, has-union, or_none, or_swap, rising_put, rising_union, same_set}

-- what ranges that stand apart are at their places
pub range_at : (least : ℕ) (ranges : List Range) → AreApart least ranges → (k : ℕ) → k < length ranges → (least ≤ first_at ranges k) × IsRange (get_or ranges k (0, 0))
range_at least [] apart k within = absurd (omega arith)
range_at least (range ∷ ranges) apart zero within = (apart.0, apart.1)
range_at least (range ∷ ranges) apart (suc k) within =
    let rest = range_at (range.1 + 2) ranges apart.2 k (omega arith) in
    (omega (arith, rest.0, apart.0, apart.1.0), rest.1)

pub gap_at : (least : ℕ) (ranges : List Range) → AreApart least ranges → (i j : ℕ) → i < j → j < length ranges → last_at ranges i + 2 ≤ first_at ranges j
gap_at least [] apart i j less within = absurd (omega arith)
gap_at least (range ∷ ranges) apart i zero less within = absurd (omega arith)
gap_at least (range ∷ ranges) apart zero (suc j) less within = (range_at (range.1 + 2) ranges apart.2 j (omega arith)).0
gap_at least (range ∷ ranges) apart (suc i) (suc j) less within = gap_at (range.1 + 2) ranges apart.2 i j (omega arith) (omega arith)

pub last_rises : (ranges : List Range) → AreMaximal ranges → (i j : ℕ) → i ≤ j → j < length ranges → last_at ranges i ≤ last_at ranges j
last_rises ranges apart i j le within =
    elim (eqb i j) as (λ b. eqb i j ≡ b → last_at ranges i ≤ last_at ranges j) [
      | true ↦ λ same. let e : i ≡ j = grind (arith, nat_tests) in rw e (omega arith)
      | false ↦ λ other. let less : i < j = grind (arith, nat_tests, le) in
          let gap = gap_at 0 ranges apart i j less within in
          let own = range_at 0 ranges apart j within in
          omega (arith, gap, own.1.0)
    ] refl

pub last_partitioned : (ranges : List Range) (n : ℕ) → AreMaximal ranges → IsPartitionedBy (λ range. ltb range.1 n) ranges
last_partitioned ranges n apart =
    IsPartitionedBy-ltb (λ (range : Range). range.1) ranges n (IsNonDecreasingBy-from_default (λ (range : Range). range.1) ranges (0, 0) (last_rises ranges apart))

-- a range in place of those between two places
dropped : (least from : ℕ) (ranges : List Range) (j : ℕ) → AreApart least ranges → ((k : ℕ) → j ≤ k → k < length ranges → from ≤ first_at ranges k) → AreApart from (drop j ranges)
dropped least from [] zero apart after = tt
dropped least from [] (suc j) apart after = tt
dropped least from (range ∷ ranges) zero apart after = (after 0 (omega arith) (omega arith), apart.1, apart.2)
dropped least from (range ∷ ranges) (suc j) apart after =
    dropped (range.1 + 2) from ranges j apart.2 (λ k le within. after (suc k) (omega arith) (omega arith))

pub replaced_apart : (least : ℕ) (ranges : List Range) (range : Range) (i j : ℕ) → AreApart least ranges → IsRange range → least ≤ range.0 → i ≤ j → j ≤ length ranges
    → ((k : ℕ) → k < i → last_at ranges k + 1 < range.0) → ((k : ℕ) → j ≤ k → k < length ranges → range.1 + 1 < first_at ranges k)
    → AreApart least (take i ranges ++ range ∷ drop j ranges)
replaced_apart least ranges range zero j apart is low le within before after =
    (low, is, dropped least (range.1 + 2) ranges j apart (λ k over inside. omega (arith, after k over inside)))
replaced_apart least [] range (suc i) j apart is low le within before after = absurd (omega arith)
replaced_apart least (first ∷ ranges) range (suc i) zero apart is low le within before after = absurd (omega arith)
replaced_apart least (first ∷ ranges) range (suc i) (suc j) apart is low le within before after = (
  apart.0,
  apart.1,
  replaced_apart (first.1 + 2) ranges range i j apart.2 is (omega (arith, before 0 (omega arith))) (omega arith) (omega arith)
      (λ k less. before (suc k) (omega arith)) (λ k over inside. after (suc k) (omega arith) (omega arith)),
)

-- the list with a place written over, and what stood between left out
pub written_over : (ranges : List Range) (i j : ℕ) (range : Range) → i < length ranges → set (take (i + 1) ranges ++ drop j ranges) i range ≡ take i ranges ++ range ∷ drop j ranges
written_over ranges i j range within = ap (λ n. set (take n ranges ++ drop j ranges) i range) (add-one i) ∙ over ranges i within where
  over : (front : List Range) (i : ℕ) → i < length front → set (take (suc i) front ++ drop j ranges) i range ≡ take i front ++ range ∷ drop j ranges
  over [] i within = absurd (omega arith)
  over (first ∷ front) zero within = refl
  over (first ∷ front) (suc i) within = ap (λ rs. first ∷ rs) (over front i (omega arith))

-- tests, of which some tell others
absorbed : (w v c : Bool) → (v ≡ true → w ≡ true) → (w || c) ≡ (w || (v || c))
absorbed true v c tells = refl
absorbed false true c tells = let no = tells refl in cc
absorbed false false c tells = refl

exchanged : (w u c : Bool) → (w ≡ true → (u || c) ≡ true) → (u ≡ true → w ≡ true) → (w || c) ≡ (u || c)
exchanged true u c tells back = sym (tells refl)
exchanged false true c tells back = let no = back refl in cc
exchanged false false c tells back = refl

tells_left : (a b : Bool) → a ≡ true → (a || b) ≡ true
tells_left a b e = rw e refl

tells_right : (a b : Bool) → b ≡ true → (a || b) ≡ true
tells_right true b e = refl
tells_right false b e = e

narrower : (n : ℕ) (inner outer : Range) → outer.0 ≤ inner.0 → inner.1 ≤ outer.1 → is_within n inner ≡ true → is_within n outer ≡ true
narrower n inner outer low high is = grind (arith, nat_tests)

covers_more : (n : ℕ) (ranges : List Range) (range : Range) (i j : ℕ) → i ≤ j → j ≤ length ranges
    → ((k : ℕ) → i ≤ k → k < j → (range.0 ≤ first_at ranges k) × (last_at ranges k ≤ range.1))
    → is_covered n (take i ranges ++ range ∷ drop j ranges) ≡ (is_within n range || is_covered n ranges)
covers_more n ranges range zero zero le within inside = refl
covers_more n [] range zero (suc j) le within inside = absurd (omega arith)
covers_more n (first ∷ ranges) range zero (suc j) le within inside =
    let own = inside 0 (omega arith) (omega arith) in
    covers_more n ranges range zero j (omega arith) (omega arith) (λ k over less. inside (suc k) (omega arith) (omega arith))
    ∙ absorbed (is_within n range) (is_within n first) (is_covered n ranges) (narrower n first range own.0 own.1)
covers_more n [] range (suc i) j le within inside = absurd (omega arith)
covers_more n (first ∷ ranges) range (suc i) zero le within inside = absurd (omega arith)
covers_more n (first ∷ ranges) range (suc i) (suc j) le within inside =
    ap (λ b. is_within n first || b) (covers_more n ranges range i j (omega arith) (omega arith) (λ k over less. inside (suc k) (omega arith) (omega arith)))
    ∙ or_swap (is_within n first) (is_within n range) (is_covered n ranges)

covered_at : (n : ℕ) (ranges : List Range) (k : ℕ) → k < length ranges → is_within n (get_or ranges k (0, 0)) ≡ true → is_covered n ranges ≡ true
covered_at n [] k within is = absurd (omega arith)
covered_at n (first ∷ ranges) zero within is = tells_left (is_within n first) (is_covered n ranges) is
covered_at n (first ∷ ranges) (suc k) within is = tells_right (is_within n first) (is_covered n ranges) (covered_at n ranges k (omega arith) is)

-- where a range goes, by what two searches answer
pub place_from_searches : (ranges : List Range) (range : Range) (i j : ℕ) → AreMaximal ranges → i ≤ length ranges → (i ≤ j) × (j ≤ length ranges)
    → ((k : ℕ) → k < i → last_at ranges k < range.0 - 1) → ((k : ℕ) → i ≤ k → k < length ranges → range.0 - 1 ≤ last_at ranges k)
    → ((k : ℕ) → i ≤ k → k < j → first_at ranges k ≤ range.1 + 1) → (j < length ranges → range.1 + 1 < first_at ranges j)
    → IsPlace ranges range i j
place_from_searches ranges range i j apart bound bounds before from begins after = record {
  order = bounds.0;
  bound = bounds.1;
  before = λ k less. omega (arith, before k less);
  ends = λ k le within. omega (arith, from k le within);
  begins = begins;
  after = λ k le within. elim (eqb j k) as (λ b. eqb j k ≡ b → range.1 + 1 < first_at ranges k) [
    | true ↦ λ same. let e : j ≡ k = grind (arith, nat_tests) in rw e at (after (omega (arith, e, within)))
    | false ↦ λ other. let less : j < k = grind (arith, nat_tests, le) in
        let gap = gap_at 0 ranges apart j k less within in
        let own = range_at 0 ranges apart j (omega (arith, less, within)) in
        let end = after (omega (arith, less, within)) in
        omega (arith, gap, own.1.0, end)
  ] refl;
}

-- it touches none
inserted_at : (ranges : List Range) (range : Range) (i j : ℕ) → i ≡ j → AreMaximal ranges → IsRange range → IsPlace ranges range i j
    → AreMaximal (take i ranges ++ range ∷ drop i ranges) × ((n : ℕ) → is_covered n (take i ranges ++ range ∷ drop i ranges) ≡ (is_within n range || is_covered n ranges))
inserted_at ranges range i j same apart is place =
    let bound : i ≤ length ranges = omega (arith, place.bound, same) in (
      replaced_apart 0 ranges range i i apart is (omega arith) (omega arith) bound place.before (λ k le within. place.after k (omega (arith, same, le)) within),
      λ n. covers_more n ranges range i i (omega arith) bound (λ k le less. absurd (omega (arith, le, less))),
    )

pub inserted : (ranges : List Range) (range : Range) (i j : ℕ) (room : Bool) (after : List Range) → AreMaximal ranges → IsRange range → j ≤ i → IsPlace ranges range i j
    → room ≡ true → after ≡ cond room (insert ranges i range) ranges
    → AreMaximal after × ((n : ℕ) → is_covered n after ≡ (is_within n range || is_covered n ranges))
inserted ranges range i j room after apart is le place some made =
    let as_made : after ≡ take i ranges ++ range ∷ drop i ranges = made ∙ ap (λ b. cond b (insert ranges i range) ranges) some in
    rw as_made (inserted_at ranges range i j (omega (arith, le, place.order)) apart is place)

-- it becomes one with some
abbrev pub joint : List Range → Range → ℕ → ℕ → Range
joint ranges range i j = (min range.0 (first_at ranges i), max range.1 (last_at ranges (j - 1)))

joint_tells : (n : ℕ) (ranges : List Range) (range : Range) (i j : ℕ) → AreMaximal ranges → i < j → IsPlace ranges range i j
    → is_within n (joint ranges range i j) ≡ true → (is_within n range || is_covered n ranges) ≡ true
joint_tells n ranges range i j apart less place is =
    elim (ltb n range.0) as (λ b. ltb n range.0 ≡ b → (is_within n range || is_covered n ranges) ≡ true) [
      | true ↦ λ below.
          let end = place.ends i (omega arith) (omega (arith, less, place.bound)) in
          let own : is_within n (get_or ranges i (0, 0)) ≡ true = grind (arith, nat_tests) in
          tells_right (is_within n range) (is_covered n ranges) (covered_at n ranges i (omega (arith, less, place.bound)) own)
      | false ↦ λ above. elim (leb n range.1) as (λ b. leb n range.1 ≡ b → (is_within n range || is_covered n ranges) ≡ true) [
        | true ↦ λ within. let own : is_within n range ≡ true = grind (arith, nat_tests) in tells_left (is_within n range) (is_covered n ranges) own
        | false ↦ λ behind.
            let end = place.begins (j - 1) (omega (arith, less)) (omega (arith, less)) in
            let own : is_within n (get_or ranges (j - 1) (0, 0)) ≡ true = grind (arith, nat_tests) in
            tells_right (is_within n range) (is_covered n ranges) (covered_at n ranges (j - 1) (omega (arith, less, place.bound)) own)
      ] refl
    ] refl

pub joined : (ranges : List Range) (range : Range) (i j : ℕ) → AreMaximal ranges → IsRange range → i < j → IsPlace ranges range i j
    → AreMaximal (take i ranges ++ joint ranges range i j ∷ drop j ranges) × ((n : ℕ) → is_covered n (take i ranges ++ joint ranges range i j ∷ drop j ranges) ≡ (is_within n range || is_covered n ranges))
joined ranges range i j apart is less place =
    let one = range_at 0 ranges apart i (omega (arith, less, place.bound)) in
    let other = range_at 0 ranges apart (j - 1) (omega (arith, less, place.bound)) in
    let here : i ≤ j = omega (arith, less) in (
      replaced_apart 0 ranges (joint ranges range i j) i j apart (omega (arith, is.0), omega (arith, is.1, other.1.1)) (omega arith) here place.bound
          (λ k before. let gap = gap_at 0 ranges apart k i before (omega (arith, less, place.bound)) in let low = place.before k before in omega (arith, gap, low))
          (λ k le within. let gap = gap_at 0 ranges apart (j - 1) k (omega (arith, less, le)) within in let high = place.after k le within in omega (arith, gap, high)),
      λ n. covers_more n ranges (joint ranges range i j) i j here place.bound (λ k le before. (first_low k le before, last_high k le before))
          ∙ exchanged (is_within n (joint ranges range i j)) (is_within n range) (is_covered n ranges) (joint_tells n ranges range i j apart less place)
          (narrower n range (joint ranges range i j) (omega arith) (omega arith)),
    ) where
      first_low : (k : ℕ) → i ≤ k → k < j → min range.0 (first_at ranges i) ≤ first_at ranges k
      first_low k le before =
          let rises = last_rises ranges apart i k le (omega (arith, before, place.bound)) in
          elim (eqb i k) as (λ b. eqb i k ≡ b → min range.0 (first_at ranges i) ≤ first_at ranges k) [
            | true ↦ λ same. let e : i ≡ k = grind (arith, nat_tests) in rw e (omega arith)
            | false ↦ λ unlike. let more : i < k = grind (arith, nat_tests, le) in
                let gap = gap_at 0 ranges apart i k more (omega (arith, before, place.bound)) in
                let own = range_at 0 ranges apart i (omega (arith, less, place.bound)) in
                omega (arith, gap, own.1.0)
          ] refl

      last_high : (k : ℕ) → i ≤ k → k < j → last_at ranges k ≤ max range.1 (last_at ranges (j - 1))
      last_high k le before =
          let rises = last_rises ranges apart k (j - 1) (omega (arith, before)) (omega (arith, less, place.bound)) in
          omega (arith, rises)

and_true : (b : Bool) → (b && true) ≡ b
and_true true = refl
and_true false = refl

-- a number among maximal ranges: it is in the one that is the first to end at it or behind
pub covered_here : (n least : ℕ) (ranges : List Range) (i : ℕ) → AreApart least ranges → i ≤ length ranges
    → ((k : ℕ) → k < i → last_at ranges k < n) → ((k : ℕ) → i ≤ k → k < length ranges → n ≤ last_at ranges k)
    → is_covered n ranges ≡ (ltb i (length ranges) && leb (first_at ranges i) n)
covered_here n least [] zero apart within before after = refl
covered_here n least [] (suc i) apart within before after = absurd (omega arith)
covered_here n least (range ∷ ranges) zero apart within before after = at_first (after 0 (omega arith) (omega arith)) where
  none : (least : ℕ) (ranges : List Range) → AreApart least ranges → n < least → is_covered n ranges ≡ false
  none least [] apart less = refl
  none least (range ∷ ranges) apart less =
      let off : is_within n range ≡ false = grind (arith, nat_tests, apart.0) in
      rw (off, none (range.1 + 2) ranges apart.2 (omega (arith, apart.0, apart.1.0, less))) refl

  at_first : n ≤ range.1 → is_covered n (range ∷ ranges) ≡ (ltb 0 (length (range ∷ ranges)) && leb range.0 n)
  at_first le =
      let rest = none (range.1 + 2) ranges apart.2 (omega (arith, le)) in
      let ends : leb n range.1 ≡ true = grind (arith, nat_tests) in
      let some : ltb 0 (length (range ∷ ranges)) ≡ true = grind (arith, nat_tests) in
      rw (rest, ends, some) (or_none (leb range.0 n && true) ∙ and_true (leb range.0 n))
covered_here n least (range ∷ ranges) (suc i) apart within before after =
    let less = before 0 (omega arith) in
    let off : is_within n range ≡ false = grind (arith, nat_tests) in
    let rest = covered_here n (range.1 + 2) ranges i apart.2 (omega arith) (λ k h. before (suc k) (omega arith)) (λ k le h. after (suc k) (omega arith) (omega arith)) in
    let same : ltb i (length ranges) ≡ ltb (suc i) (length (range ∷ ranges)) = grind (arith, nat_tests) in
    rw (off, sym same) rest

-- the numbers that ranges cover are their numbers
has_run : (n low k : ℕ) → has n (range_with_len low k) ≡ (leb low n && ltb n (low + k))
has_run n low zero = grind (arith, nat_tests)
has_run n low (suc k) = ap (λ b. eqb low n || b) (has_run n (low + 1) k) ∙ one_more n low k where
  one_more : (n low k : ℕ) → (eqb low n || (leb (low + 1) n && ltb n (low + 1 + k))) ≡ (leb low n && ltb n (low + suc k))
  one_more n low k = grind (arith, nat_tests)

has_within : (n : ℕ) (range : Range) → has n (numbers_in range) ≡ is_within n range
has_within n range = has_run n range.0 (range.1 + 1 - range.0) ∙ same n range.0 range.1 where
  same : (n low high : ℕ) → (leb low n && ltb n (low + (high + 1 - low))) ≡ (leb low n && leb n high)
  same n low high = grind (arith, nat_tests)

pub has_covered : (n : ℕ) (ranges : List Range) → has n (numbers_of ranges) ≡ is_covered n ranges
has_covered n [] = refl
has_covered n (range ∷ ranges) =
    has-append n (numbers_in range) (numbers_of ranges)
    ∙ (ap (λ b. b || has n (numbers_of ranges)) (has_within n range) ∙ ap (λ b. is_within n range || b) (has_covered n ranges))

-- ranges that cover a number more, or those of others too
pub numbers-put : (before after : List Range) (m : ℕ) → AreMaximal before → AreMaximal after → ((n : ℕ) → is_covered n after ≡ (is_within n (m, m) || is_covered n before))
    → numbers_of after ≡ put m (numbers_of before)
numbers-put before after m apart also covered =
    same_set (numbers_of after) (put m (numbers_of before)) (set-numbers_of 0 after also).rising (rising_put m (numbers_of before) (set-numbers_of 0 before apart).rising)
    (λ n. has_covered n after ∙ (covered n ∙ (ap_both (one n) (sym (has_covered n before)) ∙ sym (has-put n m (numbers_of before))))) where
      one : (n : ℕ) → is_within n (m, m) ≡ eqb m n
      one n = grind (arith, nat_tests)

      ap_both : {a b c d : Bool} → a ≡ b → c ≡ d → (a || c) ≡ (b || d)
      ap_both e f = rw (e, f) refl

pub numbers-union : (left right both : List Range) → AreMaximal left → AreMaximal both → ((n : ℕ) → is_covered n both ≡ (is_covered n left || is_covered n right))
    → numbers_of both ≡ union (numbers_of left) (numbers_of right)
numbers-union left right both apart also covered =
    same_set (numbers_of both) (union (numbers_of left) (numbers_of right)) (set-numbers_of 0 both also).rising (rising_union (numbers_of left) (numbers_of right) (set-numbers_of 0 left apart).rising)
    (λ n. has_covered n both ∙ (covered n ∙ (sides n ∙ sym (has-union n (numbers_of left) (numbers_of right))))) where
      turned : (a b : Bool) → (a || b) ≡ (b || a)
      turned true true = refl
      turned true false = refl
      turned false true = refl
      turned false false = refl

      sides : (n : ℕ) → (is_covered n left || is_covered n right) ≡ (has n (numbers_of right) || has n (numbers_of left))
      sides n = rw (has_covered n left, has_covered n right) (turned (is_covered n left) (is_covered n right))
