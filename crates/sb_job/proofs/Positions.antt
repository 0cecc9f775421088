-- The positions of batches: within the log, in rising order, and how often each is one.
use Rattle.std.proofs.Common.{◌≡◌, ℕ, suc, ◌+◌, ◌<◌, ◌≤◌, Bool, true, false, cond, ◌&&◌, List, [], ◌∷◌, ◌++◌, length, refl, sym, ap, ◌∙◌, arith}
use Rattle.std.specs.Prelude.{◌==◌, nat_lt, nat_le, min, max}
use Rattle.std.specs.List.{AllByRecursion, sum_by}
use Rattle.std.specs.List.Sorted.{IsPermutation, IsNonDecreasingBy, IsSortedByKey}
use Rattle.std.specs.Ordering.{nat_cmp}
use Rattle.std.proofs.lemmas.Bool.{ltb-true, ltb-false, leb-true, leb-false, eqb-true, eqb-false}
use Rattle.std.proofs.lemmas.List.Elements.{recursion_from_All}
use Rattle.std.proofs.lemmas.List.Sorted.{IsNonDecreasingBy-from_sort, sum_by-IsPermutation}
use Rattle.std.proofs.lemmas.List.Sums.{sum_by-cons}
use Rattle.sb_laws.proofs.Positions.{ap_both}
use Rattle.sb_feed.specs.Index.{positions_from, positions_of}
use Rattle.sb_job.specs.Emitted.{is_between}

-- ---- how often a number is in a list

abbrev pub one_if : Bool → ℕ
one_if t = cond t 1 0

abbrev pub times : ℕ → List ℕ → ℕ
times n [] = 0
times n (x ∷ xs) = one_if (x == n) + times n xs

times_both : (n : ℕ) (xs ys : List ℕ) → times n (xs ++ ys) ≡ times n xs + times n ys
times_both n [] ys = omega arith
times_both n (x ∷ xs) ys = omega (arith, times_both n xs ys)

times_sum : (n : ℕ) (xs : List ℕ) → times n xs ≡ sum_by (λ x. one_if (x == n)) xs
times_sum n [] = refl
times_sum n (x ∷ xs) = ap (λ k. one_if (x == n) + k) (times_sum n xs) ∙ sym (sum_by-cons (λ k. one_if (k == n)) x xs)

-- a list in another order has each number as often
pub times_moved : (xs ys : List ℕ) → IsPermutation xs ys → (n : ℕ) → times n ys ≡ times n xs
times_moved xs ys p n = times_sum n ys ∙ (sum_by-IsPermutation (λ x. one_if (x == n)) xs ys p ∙ sym (times_sum n xs))

-- ---- lists that don't fall

abbrev pub Climbs : List ℕ → Type 0
Climbs [] = Unit {0}
Climbs (x ∷ xs) = AllByRecursion (λ y. x ≤ y) xs × Climbs xs

climbs : (xs : List ℕ) → IsNonDecreasingBy (λ y. y) xs → Climbs xs
climbs [] h = tt
climbs (x ∷ xs) h = (
  recursion_from_All (λ y. x ≤ y) xs (λ i d less. h 0 (suc i) d (omega arith) (omega (arith, less))),
  climbs xs (λ i j d le less. h (suc i) (suc j) d (omega (arith, le)) (omega (arith, less))),
)

one_of : (x n : ℕ) (t : Bool) → (x == n) ≡ t → x ≡ n → one_if t ≡ 1
one_of x n true e h = refl
one_of x n false e h = absurd (omega (arith, h, eqb-false))

none_of : (x n : ℕ) (t : Bool) → (x == n) ≡ t → n < x → one_if t ≡ 0
none_of x n true e h = absurd (omega (arith, h, eqb-true))
none_of x n false e h = refl

none_below : (n : ℕ) (xs : List ℕ) → AllByRecursion (λ y. n < y) xs → times n xs ≡ 0
none_below n [] h = refl
none_below n (x ∷ xs) h = omega (arith, none_below n xs h.1, none_of x n _ refl h.0)

all_above : (n x : ℕ) (xs : List ℕ) → n < x → AllByRecursion (λ y. x ≤ y) xs → AllByRecursion (λ y. n < y) xs
all_above n x [] less h = tt
all_above n x (y ∷ xs) less h = (omega (arith, less, h.0), all_above n x xs less h.1)

-- the head of a list isn't below that of another with the same numbers
no_lower : (x y : ℕ) (xs ys : List ℕ) → AllByRecursion (λ z. y ≤ z) ys → times x (x ∷ xs) ≡ times x (y ∷ ys) → x < y → ⊥
no_lower x y xs ys h same less = omega (arith, same, one_of x x _ refl refl, none_of y x _ refl less, none_below x ys (all_above x y ys less h))

same_head : (x y : ℕ) (s t : Bool) → nat_lt x y ≡ s → nat_lt y x ≡ t → (x < y → ⊥) → (y < x → ⊥) → x ≡ y
same_head x y true t e f h k = absurd (h (ltb-true _ _ e))
same_head x y false true e f h k = absurd (k (ltb-true _ _ f))
same_head x y false false e f h k = omega (arith, ltb-false)

-- lists that don't fall and have each number as often are equal
pub same_climbs : (xs ys : List ℕ) → Climbs xs → Climbs ys → ((n : ℕ) → times n xs ≡ times n ys) → xs ≡ ys
same_climbs [] [] h k same = refl
same_climbs [] (y ∷ ys) h k same = absurd (omega (arith, same y, one_of y y _ refl refl))
same_climbs (x ∷ xs) [] h k same = absurd (omega (arith, same x, one_of x x _ refl refl))
same_climbs (x ∷ xs) (y ∷ ys) h k same =
    let e : x ≡ y = same_head x y _ _ refl refl (no_lower x y xs ys k.0 (same x)) (no_lower y x ys xs h.0 (sym (same y))) in
    ap_both ◌∷◌ e (same_climbs xs ys h.1 k.1 (λ n. omega (arith, same n, ap (λ z. one_if (z == n)) e)))

-- ---- the positions of batches

onto_all : (P : ℕ → Type 0) (i : ℕ) (t : Bool) (rest : List ℕ) → P i → AllByRecursion P rest → AllByRecursion P (cond t (i ∷ []) [] ++ rest)
onto_all P i true rest p h = (p, h)
onto_all P i false rest p h = h

not_below : (passes : ℕ → Bool) (m i : ℕ) (batches : List ℕ) → m ≤ i → AllByRecursion (λ k. m ≤ k) (positions_from passes i batches)
not_below passes m i [] le = tt
not_below passes m i (b ∷ batches) le =
    onto_all (λ k. m ≤ k) i (passes b) (positions_from passes (suc i) batches) le (not_below passes m (suc i) batches (omega (arith, le)))

-- they are positions of the log
pub within : (passes : ℕ → Bool) (i e : ℕ) (batches : List ℕ) → i + length batches ≤ e → AllByRecursion (λ k. k < e) (positions_from passes i batches)
within passes i e [] le = tt
within passes i e (b ∷ batches) le =
    onto_all (λ k. k < e) i (passes b) (positions_from passes (suc i) batches) (omega (arith, le)) (within passes (suc i) e batches (omega (arith, le)))

onto_climbs : (i : ℕ) (t : Bool) (rest : List ℕ) → AllByRecursion (λ k. i ≤ k) rest → Climbs rest → Climbs (cond t (i ∷ []) [] ++ rest)
onto_climbs i true rest low h = (low, h)
onto_climbs i false rest low h = h

positions_climb : (passes : ℕ → Bool) (i : ℕ) (batches : List ℕ) → Climbs (positions_from passes i batches)
positions_climb passes i [] = tt
positions_climb passes i (b ∷ batches) =
    onto_climbs i (passes b) (positions_from passes (suc i) batches) (not_below passes i (suc i) batches (omega arith)) (positions_climb passes (suc i) batches)

-- tests that agree on the batches
pub positions_same : (s t : ℕ → Bool) (i : ℕ) (batches : List ℕ) → AllByRecursion (λ b. s b ≡ t b) batches → positions_from s i batches ≡ positions_from t i batches
positions_same s t i [] h = refl
positions_same s t i (b ∷ batches) h = ap_both ◌++◌ (ap (λ u. cond u (i ∷ []) []) h.0) (positions_same s t (suc i) batches h.1)

one_more : (n i from at next b : ℕ) (k l m o : Bool) → next ≡ at + 1 → from ≤ at → nat_le from b ≡ k → nat_lt b next ≡ l → nat_lt b at ≡ m → (b == at) ≡ o
    → times n (cond (k && l) (i ∷ []) []) ≡ times n (cond (k && m) (i ∷ []) []) + times n (cond o (i ∷ []) [])
one_more n i from at next b true true true true e le x y z w = absurd (omega (arith, ltb-true, eqb-true))
one_more n i from at next b true true true false e le x y z w = omega arith
one_more n i from at next b true true false true e le x y z w = omega arith
one_more n i from at next b true true false false e le x y z w = absurd (omega (arith, e, ltb-true, ltb-false, eqb-false))
one_more n i from at next b true false true o e le x y z w = absurd (omega (arith, e, ltb-true, ltb-false))
one_more n i from at next b true false false true e le x y z w = absurd (omega (arith, e, ltb-false, eqb-true))
one_more n i from at next b true false false false e le x y z w = refl
one_more n i from at next b false l m true e le x y z w = absurd (omega (arith, le, leb-false, eqb-true))
one_more n i from at next b false l m false e le x y z w = refl

-- the positions of a range of batches and of the next one, number by number
pub times_next : (n from at next : ℕ) (batches : List ℕ) (i : ℕ) → next ≡ at + 1 → from ≤ at
    → times n (positions_from (is_between from next) i batches) ≡ times n (positions_from (is_between from at) i batches) + times n (positions_from (λ b. b == at) i batches)
times_next n from at next [] i e le = refl
times_next n from at next (b ∷ batches) i e le = omega (
  arith,
  times_both n (cond (is_between from next b) (i ∷ []) []) (positions_from (is_between from next) (suc i) batches),
  times_both n (cond (is_between from at b) (i ∷ []) []) (positions_from (is_between from at) (suc i) batches),
  times_both n (cond (b == at) (i ∷ []) []) (positions_from (λ c. c == at) (suc i) batches),
  one_more n i from at next b _ _ _ _ e le refl refl refl refl,
  times_next n from at next batches (suc i) e le,
)

-- one batch more at the end of those that are gathered
pub gathered_next : (from at next : ℕ) (batches before now : List ℕ) → next ≡ at + 1 → from ≤ at → ((n : ℕ) → times n before ≡ times n (positions_from (is_between from at) 0 batches)) → now ≡ before ++ positions_of batches at
    → (n : ℕ) → times n now ≡ times n (positions_from (is_between from next) 0 batches)
gathered_next from at next batches before now e le h is n =
    ap (times n) is ∙ (times_both n before (positions_of batches at) ∙ (ap (λ k. k + times n (positions_of batches at)) (h n) ∙ sym (times_next n from at next batches 0 e le)))

nothing : (from b : ℕ) (k l : Bool) → nat_le from b ≡ k → nat_lt b from ≡ l → (k && l) ≡ false
nothing from b true true x y = absurd (omega (arith, leb-true, ltb-true))
nothing from b true false x y = refl
nothing from b false l x y = refl

positions_none : (from i : ℕ) (batches : List ℕ) → positions_from (is_between from from) i batches ≡ []
positions_none from i [] = refl
positions_none from i (b ∷ batches) = ap_both ◌++◌ (ap (λ t. cond t (i ∷ []) []) (nothing from b _ _ refl refl)) (positions_none from (suc i) batches)

-- no batch is gathered yet
pub gathered_none : (from : ℕ) (batches none : List ℕ) → none ≡ [] → (n : ℕ) → times n none ≡ times n (positions_from (is_between from from) 0 batches)
gathered_none from batches none e n = ap (times n) (e ∙ sym (positions_none from 0 batches))

same_end : (from to end b : ℕ) (k l m : Bool) → end ≡ max from (min to 65536) → b ≤ 65535 → nat_le from b ≡ k → nat_lt b end ≡ l → nat_lt b to ≡ m → (k && l) ≡ (k && m)
same_end from to end b true true true e le x y z = refl
same_end from to end b true true false e le x y z = absurd (omega (arith, e, le, leb-true, ltb-true, ltb-false))
same_end from to end b true false true e le x y z = absurd (omega (arith, e, le, leb-true, ltb-true, ltb-false))
same_end from to end b true false false e le x y z = refl
same_end from to end b false l m e le x y z = refl

ends_agree : (from to end : ℕ) (batches : List ℕ) → end ≡ max from (min to 65536) → AllByRecursion (λ b. b ≤ 65535) batches → AllByRecursion (λ b. is_between from end b ≡ is_between from to b) batches
ends_agree from to end [] e h = tt
ends_agree from to end (b ∷ batches) e h = (same_end from to end b _ _ _ e h.0 refl refl refl, ends_agree from to end batches e h.1)

-- all batches are gathered, and their positions are sorted
pub gathered_all : (from to end : ℕ) (batches gathered sorted : List ℕ) → end ≡ max from (min to 65536) → AllByRecursion (λ b. b ≤ 65535) batches
    → ((n : ℕ) → times n gathered ≡ times n (positions_from (is_between from end) 0 batches)) → IsPermutation gathered sorted → IsSortedByKey (λ x. x) nat_cmp sorted
    → sorted ≡ positions_from (is_between from to) 0 batches
gathered_all from to end batches gathered sorted e few h moved up =
    same_climbs sorted (positions_from (is_between from to) 0 batches) (climbs sorted (IsNonDecreasingBy-from_sort (λ x. x) sorted up)) (positions_climb (is_between from to) 0 batches)
    (λ n. times_moved gathered sorted moved n ∙ (h n ∙ ap (times n) (positions_same (is_between from end) (is_between from to) 0 batches (ends_agree from to end batches e few))))

is_next : (from to b : ℕ) (k l m : Bool) → to ≡ from + 1 → (b == from) ≡ k → nat_le from b ≡ l → nat_lt b to ≡ m → k ≡ (l && m)
is_next from to b true true true e x y z = refl
is_next from to b true true false e x y z = absurd (omega (arith, e, eqb-true, ltb-false))
is_next from to b true false m e x y z = absurd (omega (arith, eqb-true, leb-false))
is_next from to b false true true e x y z = absurd (omega (arith, e, eqb-false, leb-true, ltb-true))
is_next from to b false true false e x y z = refl
is_next from to b false false m e x y z = refl

-- the positions of one batch
pub one_batch : (from to i : ℕ) (batches : List ℕ) → to ≡ from + 1 → positions_from (λ b. b == from) i batches ≡ positions_from (is_between from to) i batches
one_batch from to i [] e = refl
one_batch from to i (b ∷ batches) e = ap_both ◌++◌ (ap (λ t. cond t (i ∷ []) []) (is_next from to b _ _ _ e refl refl refl)) (one_batch from to (suc i) batches e)
