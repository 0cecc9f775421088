-- The numbers of maximal ranges, and the maximal ranges of numbers: each gives back the other.
use Rattle.std.proofs.Common.{◌≡◌, ℕ, zero, suc, ◌+◌, ◌-◌, ◌^◌, ◌<◌, ◌≤◌, true, false, cond, List, [], ◌∷◌, ◌++◌, length, drop, get_or, refl, ap, subst, ◌∙◌, arith, eqb, append-nil}
use Rattle.std.specs.List.{AllByRecursion, range_with_len}
use Rattle.std.proofs.lemmas.Bool.Decides.{nat_tests}
use Rattle.std.proofs.lemmas.List.{drop_more, length-append}
use Rattle.std.proofs.lemmas.List.FromFn.{length-range_with_len}
use Rattle.sb_text.specs.MaximalRanges.{IsRange, AreApart, AreMaximal, numbers_in, numbers_of}
use Rattle.sb_text.specs.Ranges.{Range, IsSet, onto_ranges, ranges_of}

-- a bound may be lower
pub apart_lower : (less least : ℕ) (ranges : List Range) → less ≤ least → AreApart least ranges → AreApart less ranges
apart_lower less least [] le apart = tt
apart_lower less least (range ∷ ranges) le apart = (omega (arith, apart.0), apart.1, apart.2)

pub all_ranges : (least : ℕ) (ranges : List Range) → AreApart least ranges → AllByRecursion IsRange ranges
all_ranges least [] apart = tt
all_ranges least (range ∷ ranges) apart = (apart.1, all_ranges (range.1 + 2) ranges apart.2)

-- numbers from one on
abbrev AtLeast : ℕ → List ℕ → Type 0
AtLeast least = AllByRecursion (λ n. least ≤ n)

run_least : (least low k : ℕ) (numbers : List ℕ) → least ≤ low → AtLeast least numbers → AtLeast least (range_with_len low k ++ numbers)
run_least least low zero numbers le all = all
run_least least low (suc k) numbers le all = (le, run_least least (low + 1) k numbers (omega arith) all)

above_least : (n : ℕ) (numbers : List ℕ) → AtLeast (n + 1) numbers → AllByRecursion (λ m. n < m) numbers
above_least n [] all = tt
above_least n (m ∷ numbers) all = (omega (arith, all.0), above_least n numbers all.1)

less_least : (less least : ℕ) (numbers : List ℕ) → less ≤ least → AtLeast least numbers → AtLeast less numbers
less_least less least [] le all = tt
less_least less least (m ∷ numbers) le all = (omega (arith, all.0), less_least less least numbers le all.1)

run_set : (low k : ℕ) (numbers : List ℕ) → low + k ≤ 2 ^ 32 → AtLeast (low + k) numbers → IsSet numbers → IsSet (range_with_len low k ++ numbers)
run_set low zero numbers small all set = set
run_set low (suc k) numbers small all set =
    let rest = run_set (low + 1) k numbers (omega arith) (less_least (low + 1 + k) (low + suc k) numbers (omega arith) all) set in
    record {
      rising = (above_least low (range_with_len (low + 1) k ++ numbers) (run_least (low + 1) (low + 1) k numbers (omega arith) (less_least (low + 1) (low + suc k) numbers (omega arith) all)), rest.rising);
      below = (omega arith, rest.below);
    }

-- the numbers of ranges are a set
numbers_least : (least : ℕ) (ranges : List Range) → AreApart least ranges → AtLeast least (numbers_of ranges)
numbers_least least [] apart = tt
numbers_least least (range ∷ ranges) apart =
    run_least least range.0 (range.1 + 1 - range.0) (numbers_of ranges) apart.0
    (numbers_least least ranges (apart_lower least (range.1 + 2) ranges (omega (arith, apart.0, apart.1.0)) apart.2))

pub set-numbers_of : (least : ℕ) (ranges : List Range) → AreApart least ranges → IsSet (numbers_of ranges)
set-numbers_of least [] apart = record { rising = tt; below = tt }
set-numbers_of least (range ∷ ranges) apart =
    let end : range.0 + (range.1 + 1 - range.0) ≡ range.1 + 1 = omega (arith, apart.1.0) in
    run_set range.0 (range.1 + 1 - range.0) (numbers_of ranges) (omega (arith, end, apart.1.1))
    (less_least (range.0 + (range.1 + 1 - range.0)) (range.1 + 2) (numbers_of ranges) (omega (arith, end)) (numbers_least (range.1 + 2) ranges apart.2))
    (set-numbers_of (range.1 + 2) ranges apart.2)

-- a run of numbers
pub run-more : (low end : ℕ) → low < end → range_with_len low (end - low) ≡ low ∷ range_with_len (low + 1) (end - (low + 1))
run-more low end less = let e : end - low ≡ suc (end - (low + 1)) = omega (arith, less) in rw e refl

-- a number before ranges that begin behind it
pub onto_apart : (n : ℕ) (ranges : List Range) → n < 2 ^ 32 → AreApart (n + 1) ranges → AreApart n (onto_ranges n ranges)
onto_apart n [] small apart = (omega arith, (omega arith, small), tt)
onto_apart n (range ∷ ranges) small apart =
    elim (eqb range.0 (n + 1)) as (λ b. eqb range.0 (n + 1) ≡ b → AreApart n (cond b ((n, range.1) ∷ ranges) ((n, n) ∷ range ∷ ranges))) [
      | true ↦ λ _. (omega arith, (omega (arith, apart.0, apart.1.0), apart.1.1), apart.2)
      | false ↦ λ other. (omega arith, (omega arith, small), (grind (arith, nat_tests, apart.0), apart.1, apart.2))
    ] refl

onto_numbers : (n : ℕ) (ranges : List Range) → AreApart (n + 1) ranges → numbers_of (onto_ranges n ranges) ≡ n ∷ numbers_of ranges
onto_numbers n [] apart = let one : n + 1 - n ≡ 1 = omega arith in rw one refl
onto_numbers n (range ∷ ranges) apart =
    elim (eqb range.0 (n + 1)) as (λ b. eqb range.0 (n + 1) ≡ b → numbers_of (cond b ((n, range.1) ∷ ranges) ((n, n) ∷ range ∷ ranges)) ≡ n ∷ numbers_of (range ∷ ranges)) [
      | true ↦ λ same.
          let e : n + 1 ≡ range.0 = grind (arith, nat_tests) in
          ap (λ xs. xs ++ numbers_of ranges) (run-more n (range.1 + 1) (omega (arith, apart.0, apart.1.0)))
          ∙ ap (λ low. n ∷ (range_with_len low (range.1 + 1 - low) ++ numbers_of ranges)) e
      | false ↦ λ _. let one : n + 1 - n ≡ 1 = omega arith in rw one refl
    ] refl

-- the ranges of a set, which are kept for it
behind : (n : ℕ) (numbers : List ℕ) → IsSet (n ∷ numbers) → AreApart n (ranges_of (n ∷ numbers))
behind n [] set = onto_apart n [] set.below.0 tt
behind n (m ∷ numbers) set =
    onto_apart n (ranges_of (m ∷ numbers)) set.below.0
    (apart_lower (n + 1) m (ranges_of (m ∷ numbers)) (omega (arith, set.rising.0.0)) (behind m numbers (record { rising = set.rising.1; below = set.below.1 })))

pub apart-ranges_of : (numbers : List ℕ) → IsSet numbers → AreMaximal (ranges_of numbers)
apart-ranges_of [] set = tt
apart-ranges_of (n ∷ numbers) set = apart_lower 0 n (ranges_of (n ∷ numbers)) (omega arith) (behind n numbers set)

apart_rest : (n : ℕ) (numbers : List ℕ) → IsSet (n ∷ numbers) → AreApart (n + 1) (ranges_of numbers)
apart_rest n [] set = tt
apart_rest n (m ∷ numbers) set =
    apart_lower (n + 1) m (ranges_of (m ∷ numbers)) (omega (arith, set.rising.0.0)) (behind m numbers (record { rising = set.rising.1; below = set.below.1 }))

pub numbers-ranges : (numbers : List ℕ) → IsSet numbers → numbers_of (ranges_of numbers) ≡ numbers
numbers-ranges [] set = refl
numbers-ranges (n ∷ numbers) set =
    onto_numbers n (ranges_of numbers) (apart_rest n numbers set)
    ∙ ap (λ xs. n ∷ xs) (numbers-ranges numbers (record { rising = set.rising.1; below = set.below.1 }))

-- the ranges of the numbers of a range, and of those of ranges that begin behind it
onto_gap : (n : ℕ) (ranges : List Range) → AreApart (n + 2) ranges → onto_ranges n ranges ≡ (n, n) ∷ ranges
onto_gap n [] apart = refl
onto_gap n (range ∷ ranges) apart = let other : eqb range.0 (n + 1) ≡ false = grind (arith, nat_tests, apart.0) in rw other refl

run_ranges : (low k : ℕ) (numbers : List ℕ) → AreApart (low + k + 2) (ranges_of numbers) → ranges_of (range_with_len low (suc k) ++ numbers) ≡ (low, low + k) ∷ ranges_of numbers
run_ranges low zero numbers apart =
    let e : low ≡ low + 0 = omega arith in
    onto_gap low (ranges_of numbers) (apart_lower (low + 2) (low + 0 + 2) (ranges_of numbers) (omega arith) apart) ∙ ap (λ high. (low, high) ∷ ranges_of numbers) e
run_ranges low (suc k) numbers apart =
    let same : eqb (low + 1) (low + 1) ≡ true = grind (arith, nat_tests) in
    let e : low + 1 + k ≡ low + suc k = omega arith in
    rw (run_ranges (low + 1) k numbers (apart_lower (low + 1 + k + 2) (low + suc k + 2) (ranges_of numbers) (omega arith) apart), same) (ap (λ high. (low, high) ∷ ranges_of numbers) e)

range_front : (range : Range) (numbers : List ℕ) → IsRange range → AreApart (range.1 + 2) (ranges_of numbers) → ranges_of (numbers_in range ++ numbers) ≡ range ∷ ranges_of numbers
range_front range numbers is apart =
    let e : range.1 + 1 - range.0 ≡ suc (range.1 - range.0) = omega (arith, is.0) in
    let high : range.0 + (range.1 - range.0) ≡ range.1 = omega (arith, is.0) in
    rw e (run_ranges range.0 (range.1 - range.0) numbers (apart_lower (range.0 + (range.1 - range.0) + 2) (range.1 + 2) (ranges_of numbers) (omega (arith, high)) apart) ∙ ap (λ high. (range.0, high) ∷ ranges_of numbers) high)

pub ranges-numbers : (least : ℕ) (ranges : List Range) → AreApart least ranges → ranges_of (numbers_of ranges) ≡ ranges
ranges-numbers least [] apart = refl
ranges-numbers least (range ∷ ranges) apart =
    let rest = ranges-numbers (range.1 + 2) ranges apart.2 in
    range_front range (numbers_of ranges) apart.1 (rw rest apart.2) ∙ ap (λ rs. range ∷ rs) rest

-- how many numbers there are
pub length-numbers : (range : Range) (ranges : List Range) → length (numbers_of (range ∷ ranges)) ≡ range.1 + 1 - range.0 + length (numbers_of ranges)
length-numbers range ranges = length-append (numbers_in range) (numbers_of ranges) ∙ ap (λ n. n + length (numbers_of ranges)) (length-range_with_len range.0 (range.1 + 1 - range.0))

pub numbers_at : (ranges : List Range) (k : ℕ) → k < length ranges
    → length (numbers_of (drop k ranges)) ≡ (get_or ranges k (0, 0)).1 + 1 - (get_or ranges k (0, 0)).0 + length (numbers_of (drop (k + 1) ranges))
numbers_at ranges k within = ap (λ rs. length (numbers_of rs)) (drop_more ranges k (0, 0) within) ∙ length-numbers (get_or ranges k (0, 0)) (drop (k + 1) ranges)

pub all_at : (ranges : List Range) (k : ℕ) → k < length ranges → AllByRecursion IsRange (drop k ranges) → IsRange (get_or ranges k (0, 0)) × AllByRecursion IsRange (drop (k + 1) ranges)
all_at ranges k within all = subst (AllByRecursion IsRange) (drop_more ranges k (0, 0) within) all

pub few_numbers : (least : ℕ) (ranges : List Range) → AreApart least ranges → length (numbers_of ranges) ≤ 2 ^ 32 - least
few_numbers least [] apart = omega arith
few_numbers least (range ∷ ranges) apart =
    let rest = few_numbers (range.1 + 2) ranges apart.2 in
    omega (arith, length-numbers range ranges, rest, apart.0, apart.1.0, apart.1.1)

pub few_ranges : (least : ℕ) (ranges : List Range) → AreApart least ranges → length ranges ≤ 2 ^ 32 - least
few_ranges least [] apart = omega arith
few_ranges least (range ∷ ranges) apart =
    let rest = few_ranges (range.1 + 2) ranges apart.2 in
    omega (arith, rest, apart.0, apart.1.0, apart.1.1)

pub numbers-span : (from to : ℕ) → from < to → numbers_of ((from, to - 1) ∷ []) ≡ range_with_len from (to - from)
numbers-span from to less =
    let e : to - 1 + 1 - from ≡ to - from = omega (arith, less) in
    append-nil (numbers_in (from, to - 1)) ∙ ap (range_with_len from) e
