-- A value added at its place in a rising table, and rows taken one list after the other.
use Rattle.std.proofs.Common.{◌≡◌, ℕ, zero, suc, ◌-◌, ◌<◌, ◌≤◌, Bool, true, false, cond, List, [], ◌∷◌, length, take, drop, get_or, set, insert, refl, sym, ap, subst, arith, T}
use Rattle.std.specs.Prelude.{nat_lt, ◌==◌}
use Rattle.std.specs.List.{AllByRecursion}
use Rattle.std.specs.declared.cmp.Ordering.TheVariants.{Less, Equal, Greater}
use Rattle.std.specs.Ordering.{nat_cmp, is_lt}
use Rattle.std.specs.FinMap.{is_sorted}
use Rattle.std.specs.FinMap.Entries.{below_all}
use Rattle.std.proofs.lemmas.Bool.{ltb-true}
use Rattle.std.proofs.lemmas.Bool.Decides.{nat_tests}
use Rattle.sb_laws.specs.Tables.{add_to}
use Rattle.sb_laws.proofs.Tables.{first, second}

is_less : (x y : ℕ) → x < y → nat_cmp x y ≡ Less
is_less x y h = let a : nat_lt x y ≡ true = grind (arith, nat_tests) in rw a refl

is_greater : (x y : ℕ) → y < x → nat_cmp x y ≡ Greater
is_greater x y h = let a : nat_lt x y ≡ false = grind (arith, nat_tests) in let b : (x == y) ≡ false = grind (arith, nat_tests) in rw (a, b) refl

is_equal : (x : ℕ) → nat_cmp x x ≡ Equal
is_equal x = let a : nat_lt x x ≡ false = grind (arith, nat_tests) in let b : (x == x) ≡ true = grind (arith, nat_tests) in rw (a, b) refl

below_is_less : (x y : ℕ) → T (is_lt (nat_cmp x y)) → x < y
below_is_less x y h = tested (nat_lt x y) (x == y) refl h
  where
    tested : (a b : Bool) → nat_lt x y ≡ a → T (is_lt (cond a Less (cond b Equal Greater))) → x < y
    tested true b e p = ltb-true x y e
    tested false true e p = absurd p
    tested false false e p = absurd p

module _ {E : Type 0} (add : E → E → E) (k : ℕ) (v : E) where
  -- where the entry at the place has the number, the value is added to its sum
  pub added_there : (xs : List (ℕ × E)) (at : ℕ) (d : ℕ × E) → AllByRecursion (λ x. x.0 < k) (take at xs) → at < length xs → (get_or xs at d).0 ≡ k
      → set xs at ((get_or xs at d).0, add (get_or xs at d).1 v) ≡ add_to nat_cmp add k v xs
  added_there [] at d before within e = absurd (omega arith)
  added_there (x ∷ xs) zero d before within e = let is : nat_cmp k x.0 ≡ Equal = subst (λ n. nat_cmp k n ≡ Equal) (sym e) (is_equal k) in rw is refl
  added_there (x ∷ xs) (suc at) d before within e =
      let is = is_greater k x.0 before.0 in rw is (ap (λ l. x ∷ l) (added_there xs at d before.1 (omega arith) e))

  -- where no entry has the number, the value is an entry of its own
  pub added_between : (xs : List (ℕ × E)) (at : ℕ) → AllByRecursion (λ x. x.0 < k) (take at xs) → AllByRecursion (λ x. k < x.0) (drop at xs) → at ≤ length xs
      → insert xs at (k, v) ≡ add_to nat_cmp add k v xs
  added_between [] zero before after within = refl
  added_between [] (suc at) before after within = absurd (omega arith)
  added_between (x ∷ xs) zero before after within = let is = is_less k x.0 after.0 in rw is refl
  added_between (x ∷ xs) (suc at) before after within =
      let is = is_greater k x.0 before.0 in rw is (ap (λ l. x ∷ l) (added_between xs at before.1 after (omega arith)))

module _ {E : Type 0} where
  -- in a rising table, what stands before an entry below k is below k
  pub all_before : (k : ℕ) (xs : List (ℕ × E)) (at : ℕ) (d : ℕ × E) → T (is_sorted nat_cmp xs) → at < length xs → (get_or xs at d).0 < k → AllByRecursion (λ x. x.0 < k) (take (suc at) xs)
  all_before k [] at d h within less = absurd (omega arith)
  all_before k (x ∷ xs) zero d h within less = (less, tt)
  all_before k (x ∷ xs) (suc at) d h within less =
      let above = below_at x.0 xs at d (first _ _ h) (omega (arith, within)) in
      (omega (arith, less, above), all_before k xs at d (second _ _ h) (omega (arith, within)) less)
    where
      below_at : (n : ℕ) (ys : List (ℕ × E)) (i : ℕ) (e : ℕ × E) → T (below_all nat_cmp n ys) → i < length ys → n < (get_or ys i e).0
      below_at n [] i e h w = absurd (omega arith)
      below_at n (y ∷ ys) zero e h w = below_is_less n y.0 (first _ _ h)
      below_at n (y ∷ ys) (suc i) e h w = below_at n ys i e (second _ _ h) (omega arith)

  -- what follows a place where the entries are k or more and the first is not k is above k
  pub all_after : (k : ℕ) (xs : List (ℕ × E)) → T (is_sorted nat_cmp xs) → (at : ℕ) → AllByRecursion (λ x. k ≤ x.0) (drop at xs) → ((d : ℕ × E) → at < length xs → (get_or xs at d).0 ≡ k → ⊥)
      → AllByRecursion (λ x. k < x.0) (drop at xs)
  all_after k [] h zero after other = tt
  all_after k [] h (suc at) after other = tt
  all_after k (x ∷ xs) h (suc at) after other = all_after k xs (second _ _ h) at after (λ d w e. other d (omega arith) e)
  all_after k (x ∷ xs) h zero after other =
      let above : k < x.0 = (let n : (x.0 ≡ k → ⊥) = other x (omega arith) in grind (arith, n, after.0)) in
      (above, later x.0 xs (first _ _ h) above)
    where
      later : (n : ℕ) (ys : List (ℕ × E)) → T (below_all nat_cmp n ys) → k < n → AllByRecursion (λ x. k < x.0) ys
      later n [] h l = tt
      later n (y ∷ ys) h l = (omega (arith, l, below_is_less n y.0 (first _ _ h)), later n ys (second _ _ h) l)

  pub before_place : (k : ℕ) (xs : List (ℕ × E)) (at : ℕ) (d : ℕ × E) → T (is_sorted nat_cmp xs) → 0 < at → at ≤ length xs → (get_or xs (at - 1) d).0 < k → AllByRecursion (λ x. x.0 < k) (take at xs)
  before_place k xs zero d h some within less = absurd (omega (arith, some))
  before_place k xs (suc n) d h some within less =
      let e : suc n - 1 ≡ n = omega arith in
      all_before k xs n d h (omega (arith, within)) (subst (λ i. (get_or xs i d).0 < k) e less)

  -- an entry that is there is the same whatever the default
  pub there : (xs : List (ℕ × E)) (at : ℕ) (d e : ℕ × E) → at < length xs → get_or xs at d ≡ get_or xs at e
  there [] at d e h = absurd (omega arith)
  there (x ∷ xs) zero d e h = refl
  there (x ∷ xs) (suc at) d e h = there xs at d e (omega arith)
