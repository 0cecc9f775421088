-- One register raised, and the zeros before the first one bit.
use Rattle.std.proofs.Common.{◌≡◌, ◌≢◌, ◌⊎◌, inl, inr, true, false, ℕ, zero, suc, ◌+◌, ◌-◌, ◌/◌, ◌*◌, ◌%◌, ◌^◌, ◌<◌, ◌≤◌, List, [], ◌∷◌, length, Some, refl, sym, ap, ap₂, subst, ◌∙◌, arith}
use Rattle.std.specs.Prelude.{◌==◌, if◌then◌else◌, IsTrue, nat_le, max, bit_and, slice_get, slice_set, slice_index_or}
use Rattle.std.proofs.lemmas.Bool.Decides.{nat_tests}
use Rattle.std.specs.List.{AllByRecursion}
use Rattle.std.proofs.lemmas.List.{set-get_or, get_or-set_same, get_or-set_other, length-set, length-replicate}
use lib.Count.{count_leading_zeros}
use native.Mathlib.Nat.{pow-suc, pow-le-pow_right, mod-lt}
use Rattle.std.proofs.lemmas.Nat.{pow_pos, one_shl, and_mask, shr_below, leading_le}
use Rattle.sb_sketch.specs.Cells.{greatest_of_both, zeros, one_cell}
use Rattle.sb_sketch.specs.CellLaws.{greatest_commute, cells_commute, greatest_within, zero_within, zero_and_greatest, cells_kept, onto_zeros}
use Rattle.sb_sketch.specs.Hll.{IsPosition, AreRegisters, register_of, position_of, registers_of}
use Rattle.sb_sketch.specs.Hash.{first_word}
use Rattle.sb_sketch.proofs.Counting.{set_again, zero_at}
use Rattle.sb_sketch.proofs.Joining.{set_later, there}
use Rattle.sb_sketch.proofs.Rows.{get_zero, zeros_length, one_is_valid}

one_wider : (k n : ℕ) → n < 2 ^ k → count_leading_zeros (suc k) n ≡ suc (count_leading_zeros k n)
unfolding count_leading_zeros
one_wider zero zero h = refl
one_wider zero (suc n) h = absurd (omega (arith, h))
one_wider (suc k) zero h = refl
one_wider (suc k) (suc n) h = one_wider k (suc n / 2) (omega (arith, h, pow-suc 2 k))

-- a number of k bits has j zeros more before it among k + j bits
pub wider : (j k n : ℕ) → n < 2 ^ k → count_leading_zeros (j + k) n ≡ j + count_leading_zeros k n
wider zero k n h =
    let same : 0 + k ≡ k = omega arith in
    ap (λ i. count_leading_zeros i n) same ∙ omega arith
wider (suc j) k n h =
    let one : suc j + k ≡ suc (j + k) = omega arith in
    let fits : n < 2 ^ (j + k) = omega (arith, h, pow-le-pow_right {n = 2} (omega arith) {i = k} {j = j + k} (omega arith)) in
    ap (λ i. count_leading_zeros i n) one ∙ (one_wider (j + k) n fits ∙ omega (arith, wider j k n h))

-- the register at this place raised to this position
pub raised : (b : ℕ) (xs : List ℕ) (at v position : ℕ) → AreRegisters b xs → at < 2 ^ b → slice_get xs at ≡ Some v → slice_set xs at (max v position) ≡ greatest_of_both xs (one_cell (2 ^ b) at position)
raised b xs at v position h p e =
    let whole : greatest_of_both xs (zeros (2 ^ b)) ≡ xs = cells_commute max greatest_commute xs (zeros (2 ^ b)) ∙ onto_zeros max (IsPosition b) (λ x _. zero_and_greatest x) (2 ^ b) xs h in
    ap (λ l. slice_set l at (max v position)) (sym whole)
    ∙ set_later max position raised_once xs (zeros (2 ^ b)) at v (ap (λ l. slice_get l at) whole ∙ e) (get_zero (2 ^ b) at p)
  where
    raised_once : (x : ℕ) → max (max x 0) position ≡ max x position
    raised_once x = omega arith

-- the zeros of a word without its top bits
pub zeros_after : (bits word : ℕ) → 4 ≤ bits → bits ≤ 12
    → count_leading_zeros 64 (bit_and word (1 * 2 ^ (64 - bits) % 2 ^ 64 - 1)) ≡ bits + count_leading_zeros (64 - bits) (word % 2 ^ (64 - bits))
zeros_after bits word p q =
    let shifted : 1 * 2 ^ (64 - bits) % 2 ^ 64 ≡ 2 ^ (64 - bits) = one_shl (64 - bits) 64 (omega (arith, p)) in
    let masked : bit_and word (1 * 2 ^ (64 - bits) % 2 ^ 64 - 1) ≡ word % 2 ^ (64 - bits) = ap (λ n. bit_and word (n - 1)) shifted ∙ and_mask word (64 - bits) in
    let all : 64 ≡ bits + (64 - bits) = omega (arith, q) in
    ap (count_leading_zeros 64) masked
    ∙ (ap (λ n. count_leading_zeros n (word % 2 ^ (64 - bits))) all ∙ wider bits (64 - bits) (word % 2 ^ (64 - bits)) (mod-lt word (pow_pos (64 - bits))))

-- the top bits number a register
pub register_below : (bits word : ℕ) → bits ≤ 12 → word < 2 ^ 64 → word / 2 ^ (64 - bits) < 2 ^ bits
register_below bits word q h =
    let all : 64 ≡ bits + (64 - bits) = omega (arith, q) in
    shr_below word bits (64 - bits) (subst (λ n. word < 2 ^ n) all h)

any : (xs : List ℕ) → AllByRecursion (λ _. Unit {0}) xs
any [] = tt
any (x ∷ xs) = (tt, any xs)

one_count : (b : ℕ) (item : List ℕ) → length (registers_of b item) ≡ 2 ^ b
one_count b item = length-set (zeros (2 ^ b)) (register_of b item) (position_of b item) ∙ length-replicate (2 ^ b) 0

-- the registers of one item are valid
pub registers_are : (b : ℕ) (item : List ℕ) → b ≤ 12 → AreRegisters b (registers_of b item)
registers_are b item h =
    let fits : position_of b item ≤ 65 - b = omega (arith, h, leading_le (64 - b) (first_word item % 2 ^ (64 - b))) in
    record { count = one_count b item; valid = one_is_valid (IsPosition b) (2 ^ b) (register_of b item) (position_of b item) (zero_within (65 - b)) fits }

pub onto_none : (b : ℕ) (item : List ℕ) → greatest_of_both (zeros (2 ^ b)) (registers_of b item) ≡ registers_of b item
onto_none b item = onto_zeros max (λ _. Unit {0}) (λ x _. zero_and_greatest x) (2 ^ b) (registers_of b item) (record { count = one_count b item; valid = any (registers_of b item) })

-- the item's register, raised
pub raise_is : (b bits word register position both : ℕ) (xs item : List ℕ) → bits ≡ b → b ≤ 12 → word ≡ first_word item → word < 2 ^ 64 → AreRegisters b xs
    → slice_get xs (word / 2 ^ (64 - bits)) ≡ Some register → position ≡ count_leading_zeros (64 - bits) (word % 2 ^ (64 - bits)) + 1 → both ≡ max register position
    → slice_set xs (word / 2 ^ (64 - bits)) both ≡ greatest_of_both xs (registers_of b item)
raise_is b bits word register position both xs item same small is fits h e p m =
    let at : word / 2 ^ (64 - bits) ≡ register_of b item = ap₂ (λ w n. w / 2 ^ (64 - n)) is same in
    let place : position ≡ position_of b item = p ∙ ap₂ (λ w n. count_leading_zeros (64 - n) (w % 2 ^ (64 - n)) + 1) is same in
    let below : register_of b item < 2 ^ b = register_below b (first_word item) small (subst (λ n. n < 2 ^ 64) is fits) in
    ap₂ (slice_set xs) at (m ∙ ap (max register) place)
    ∙ raised b xs (register_of b item) register (position_of b item) h below (sym (ap (slice_get xs) at) ∙ e)

-- with an item added registers stay valid
pub raised_are : (b : ℕ) (xs item : List ℕ) → b ≤ 12 → AreRegisters b xs → AreRegisters b (greatest_of_both xs (registers_of b item))
raised_are b xs item small h = cells_kept max (IsPosition b) (greatest_within (65 - b)) (2 ^ b) xs (registers_of b item) h (registers_are b item small)

-- the item's register is there
pub register_there : (b bits word count : ℕ) → bits ≡ b → b ≤ 12 → word < 2 ^ 64 → count ≡ 2 ^ b → word / 2 ^ (64 - bits) < count
register_there b bits word count same small fits is =
    subst (λ n. word / 2 ^ (64 - bits) < n) (ap (λ n. 2 ^ n) same ∙ sym is) (register_below bits word (omega (arith, same, small)) fits)

-- registers raised by one register alone
max_zero : (x : ℕ) → x ≡ max x 0
max_zero x = omega arith

kept_by_zeros : (xs : List ℕ) → xs ≡ greatest_of_both xs (zeros (length xs))
kept_by_zeros [] = refl
kept_by_zeros (x ∷ xs) = ap₂ (λ v l. v ∷ l) (max_zero x) (kept_by_zeros xs)

raised_at : (xs : List ℕ) (at q : ℕ) → slice_set xs at (max (slice_index_or xs at 0) q) ≡ greatest_of_both xs (one_cell (length xs) at q)
raised_at [] at q = refl
raised_at (x ∷ xs) zero q = ap (λ l. max x q ∷ l) (kept_by_zeros xs)
raised_at (x ∷ xs) (suc at) q = ap₂ (λ v l. v ∷ l) (max_zero x) (raised_at xs at q)

set_beyond : (xs : List ℕ) (at v : ℕ) → length xs ≤ at → slice_set xs at v ≡ xs
set_beyond [] at v h = refl
set_beyond (x ∷ xs) zero v h = absurd (omega (arith, h))
set_beyond (x ∷ xs) (suc at) v h = ap (λ l. x ∷ l) (set_beyond xs at v (omega (arith, h)))

-- no register is there
pub raised_beyond : (xs : List ℕ) (at q : ℕ) → length xs ≤ at → xs ≡ greatest_of_both xs (one_cell (length xs) at q)
raised_beyond xs at q h = sym (set_beyond xs at (max (slice_index_or xs at 0) q) h) ∙ raised_at xs at q

-- it is as great already
pub raised_before : (xs : List ℕ) (at q : ℕ) → q ≤ slice_index_or xs at 0 → xs ≡ greatest_of_both xs (one_cell (length xs) at q)
raised_before xs at q h =
    let same : slice_index_or xs at 0 ≡ max (slice_index_or xs at 0) q = omega (arith, h) in
    sym (set-get_or xs at 0) ∙ (ap (slice_set xs at) same ∙ raised_at xs at q)

pub raised_now : (xs : List ℕ) (at q : ℕ) → slice_index_or xs at 0 < q → slice_set xs at q ≡ greatest_of_both xs (one_cell (length xs) at q)
raised_now xs at q h =
    let same : q ≡ max (slice_index_or xs at 0) q = omega (arith, h) in
    ap (slice_set xs at) same ∙ raised_at xs at q

-- what stands at a place, whatever stands where none is
pub stands : (xs : List ℕ) (at place v : ℕ) → place ≡ at → at < length xs → v ≡ slice_index_or xs place v → slice_index_or xs at 0 ≡ v
stands xs at place v same h e = stands_there xs at v h ∙ sym (e ∙ ap (λ n. slice_index_or xs n v) same)
  where
    stands_there : (xs : List ℕ) (at v : ℕ) → at < length xs → slice_index_or xs at 0 ≡ slice_index_or xs at v
    stands_there [] at v h = absurd (omega (arith, h))
    stands_there (x ∷ xs) zero v h = refl
    stands_there (x ∷ xs) (suc at) v h = stands_there xs at v (omega (arith, h))

-- what stood in a register that was raised takes it back
pub raised_back : (xs : List ℕ) (at q : ℕ) → at < length xs → slice_index_or xs at 0 < q
    → (at < length (slice_set xs at q)) × (slice_index_or (slice_set xs at q) at 0 ≢ 0) × (slice_set (slice_set xs at q) at (slice_index_or xs at 0) ≡ xs)
raised_back xs at q h less = (
  omega (arith, length-set xs at q, h),
  (λ none. omega (arith, sym (get_or-set_same xs at q 0 h) ∙ none, less)),
  set_again xs at q (slice_index_or xs at 0) ∙ set-get_or xs at 0,
)

-- the one register of a short form
one_value : (count own at register : ℕ) → at < count → slice_index_or (one_cell count own register) at 0 ≡ (if own == at then register else 0)
one_value count own at register h =
    elim (own == at) as (λ b. (own == at) ≡ b → slice_index_or (one_cell count own register) at 0 ≡ (if b then register else 0)) [
      | true ↦ λ is. let same : own ≡ at = grind (arith, nat_tests, is) in
          ap (λ n. slice_index_or (one_cell count n register) at 0) same ∙ get_or-set_same (zeros count) at register 0 (omega (arith, zeros_length count, h))
      | false ↦ λ is. let other : at ≢ own = grind (arith, nat_tests, is) in get_or-set_other (zeros count) own at register 0 other ∙ zero_at count at
    ] refl

pub one_register : (count own at register : ℕ) → at < count → slice_get (one_cell count own register) at ≡ Some (if own == at then register else 0)
one_register count own at register h =
    let long : length (one_cell count own register) ≡ count = length-set (zeros count) own register ∙ zeros_length count in
    there (one_cell count own register) at (omega (arith, long, h)) ∙ ap (λ v. Some v) (one_value count own at register h)

pub no_register : (count at register : ℕ) → one_cell count at register ≡ zeros count → at < count → register ≡ 0
no_register count at register is h =
    sym (get_or-set_same (zeros count) at register 0 (omega (arith, zeros_length count, h))) ∙ (ap (λ l. slice_index_or l at 0) is ∙ zero_at count at)

set_zero_to_zero : (count at : ℕ) → one_cell count at 0 ≡ zeros count
set_zero_to_zero count at = ap (slice_set (zeros count) at) (sym (zero_at count at)) ∙ set-get_or (zeros count) at 0

pub only_zeros : (count at register : ℕ) → (register ≡ 0) ⊎ (count ≤ at) → one_cell count at register ≡ zeros count
only_zeros count at register (inl none) = ap (one_cell count at) none ∙ set_zero_to_zero count at
only_zeros count at register (inr beyond) = set_beyond (zeros count) at register (omega (arith, zeros_length count, beyond))

-- one register on the left, and a full list
pub raised_to_one : (count at register : ℕ) (one raised : List ℕ) → one_cell count at register ≡ one → length raised ≡ length one
    → greatest_of_both raised (one_cell (length raised) at register) ≡ greatest_of_both one raised
raised_to_one count at register one raised is e =
    let long : length raised ≡ count = e ∙ (ap length (sym is) ∙ (length-set (zeros count) at register ∙ zeros_length count)) in
    ap (λ n. greatest_of_both raised (one_cell n at register)) long
    ∙ (ap (greatest_of_both raised) is ∙ cells_commute max greatest_commute raised one)

-- the number of a register fits 16 bits
pub register_fits : (b bits word : ℕ) → bits ≡ b → b ≤ 12 → word < 2 ^ 64 → word / 2 ^ (64 - bits) < 2 ^ 16
register_fits b bits word same small fits =
    let few : bits ≤ 12 = omega (arith, same, small) in
    omega (arith, register_below bits word few fits, pow-le-pow_right {n = 2} (omega arith) {i = bits} {j = 12} few)

no_truth : IsTrue false → ⊥
no_truth e = cc

-- a register above 0 is nothing only where it isn't there
pub not_nothing : (count at register : ℕ) → register ≢ 0
    → (IsTrue (nat_le count at) → one_cell count at register ≡ zeros count) × (one_cell count at register ≡ zeros count → IsTrue (nat_le count at))
not_nothing count at register above =
    elim (nat_le count at) as (λ b. nat_le count at ≡ b → (IsTrue b → one_cell count at register ≡ zeros count) × (one_cell count at register ≡ zeros count → IsTrue b)) [
      | true ↦ λ is. let beyond : count ≤ at = grind (arith, nat_tests, is) in ((λ _. only_zeros count at register (inr beyond)), (λ _. refl))
      | false ↦ λ is. let below : at < count = grind (arith, nat_tests, is) in ((λ none. absurd (no_truth none)), (λ e. absurd (above (no_register count at register e below))))
    ] refl
