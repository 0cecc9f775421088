-- Rising lists: a number put into one, the union of two, and which numbers are in them.
use Rattle.std.proofs.Common.{◌≡◌, ℕ, ◌<◌, ◌≤◌, Bool, true, false, cond, ◌||◌, List, [], ◌∷◌, ◌++◌, Contains, refl, sym, ap, subst, ◌∙◌, arith, eqb}
use Rattle.std.specs.Prelude.{nat_lt}
use Rattle.std.specs.List.{AllByRecursion}
use Rattle.std.specs.Bool.{Decides}
use Rattle.std.proofs.lemmas.Bool.Decides.{nat_tests, Decides-by_or, Decides-eqb}
use Rattle.std.proofs.lemmas.List.Elements.{Decides-contains}
use Rattle.sb_text.specs.Ranges.{IsRising, put, union}

-- all numbers are above n
abbrev Above : ℕ → List ℕ → Type 0
Above n = AllByRecursion (λ m. n < m)

above_less : (n m : ℕ) (numbers : List ℕ) → n < m → Above m numbers → Above n numbers
above_less n m [] less above = tt
above_less n m (x ∷ numbers) less above = (omega (arith, above.0), above_less n m numbers less above.1)

-- what holds of all numbers still does
all_put : (P : ℕ → Type 0) (n : ℕ) (numbers : List ℕ) → P n → AllByRecursion P numbers → AllByRecursion P (put n numbers)
all_put P n [] one all = (one, tt)
all_put P n (m ∷ numbers) one all =
    elim (nat_lt n m) as (λ b. AllByRecursion P (cond b (n ∷ m ∷ numbers) (cond (eqb n m) (m ∷ numbers) (m ∷ put n numbers)))) [
      | true ↦ (one, all)
      | false ↦ elim (eqb n m) as (λ b. AllByRecursion P (cond b (m ∷ numbers) (m ∷ put n numbers))) [
        | true ↦ all
        | false ↦ (all.0, all_put P n numbers one all.1)
      ]
    ]

pub rising_put : (n : ℕ) (numbers : List ℕ) → IsRising numbers → IsRising (put n numbers)
rising_put n [] rising = (tt, tt)
rising_put n (m ∷ numbers) rising =
    elim (nat_lt n m) as (λ b. nat_lt n m ≡ b → IsRising (cond b (n ∷ m ∷ numbers) (cond (eqb n m) (m ∷ numbers) (m ∷ put n numbers)))) [
      | true ↦ λ is. let less : n < m = grind (arith, nat_tests) in ((less, above_less n m numbers less rising.0), rising)
      | false ↦ λ unlike. elim (eqb n m) as (λ b. eqb n m ≡ b → IsRising (cond b (m ∷ numbers) (m ∷ put n numbers))) [
        | true ↦ λ _. rising
        | false ↦ λ other. let more : m < n = grind (arith, nat_tests) in (all_put (λ k. m < k) n numbers more rising.0, rising_put n numbers rising.1)
      ] refl
    ] refl

pub rising_union : (xs ys : List ℕ) → IsRising xs → IsRising (union xs ys)
rising_union xs [] rising = rising
rising_union xs (y ∷ ys) rising = rising_put y (union xs ys) (rising_union xs ys rising)

-- tests of which one is asked for twice, or in another order
pub or_swap : (a b c : Bool) → (a || (b || c)) ≡ (b || (a || c))
or_swap true true c = refl
or_swap true false c = refl
or_swap false true c = refl
or_swap false false c = refl

pub or_assoc : (a b c : Bool) → ((a || b) || c) ≡ (a || (b || c))
or_assoc true b c = refl
or_assoc false b c = refl

pub or_none : (a : Bool) → (a || false) ≡ a
or_none true = refl
or_none false = refl

-- whether a number is among others
abbrev pub has : ℕ → List ℕ → Bool
has n [] = false
has n (m ∷ numbers) = eqb m n || has n numbers

pub has_contains : (n : ℕ) (numbers : List ℕ) → Decides (has n numbers) (Contains numbers n)
has_contains n numbers = Decides-contains numbers n (has n numbers) (Decides-by_or (λ m. eqb m n) (λ m. m ≡ n) (has n) (λ m. Decides-eqb m n) refl (λ _ _. refl) numbers)

pub has-append : (n : ℕ) (xs ys : List ℕ) → has n (xs ++ ys) ≡ (has n xs || has n ys)
has-append n [] ys = refl
has-append n (x ∷ xs) ys = ap (λ b. eqb x n || b) (has-append n xs ys) ∙ sym (or_assoc (eqb x n) (has n xs) (has n ys))

pub has-put : (n m : ℕ) (numbers : List ℕ) → has n (put m numbers) ≡ (eqb m n || has n numbers)
has-put n m [] = refl
has-put n m (x ∷ numbers) =
    elim (nat_lt m x) as (λ b. has n (cond b (m ∷ x ∷ numbers) (cond (eqb m x) (x ∷ numbers) (x ∷ put m numbers))) ≡ (eqb m n || (eqb x n || has n numbers))) [
      | true ↦ refl
      | false ↦ elim (eqb m x) as (λ b. eqb m x ≡ b → has n (cond b (x ∷ numbers) (x ∷ put m numbers)) ≡ (eqb m n || (eqb x n || has n numbers))) [
        | true ↦ λ same. again (eqb m n) (eqb x n) (has n numbers) (grind (arith, nat_tests))
        | false ↦ λ _. ap (λ b. eqb x n || b) (has-put n m numbers) ∙ or_swap (eqb x n) (eqb m n) (has n numbers)
      ] refl
    ] where
      again : (a b c : Bool) → a ≡ b → (b || c) ≡ (a || (b || c))
      again true b c e = rw (sym e) refl
      again false b c e = refl

pub has-union : (n : ℕ) (xs ys : List ℕ) → has n (union xs ys) ≡ (has n ys || has n xs)
has-union n xs [] = refl
has-union n xs (y ∷ ys) = has-put n y (union xs ys) ∙ (ap (λ b. eqb y n || b) (has-union n xs ys) ∙ sym (or_assoc (eqb y n) (has n ys) (has n xs)))

-- two rising lists with the same numbers are the same
not_above : (n m : ℕ) (numbers : List ℕ) → n ≤ m → Above m numbers → has n numbers ≡ false
not_above n m [] le above = refl
not_above n m (x ∷ numbers) le above =
    let other : eqb x n ≡ false = grind (arith, nat_tests, above.0) in
    rw (other, not_above n m numbers le above.1) refl

not_first : (x y : ℕ) (xs ys : List ℕ) → Above y ys → x < y → has x (x ∷ xs) ≡ has x (y ∷ ys) → ⊥
not_first x y xs ys above less same =
    let own : eqb x x ≡ true = grind (arith, nat_tests) in
    let other : eqb y x ≡ false = grind (arith, nat_tests) in
    let none = not_above x y ys (omega (arith, less)) above in
    let no : true ≡ false = rw (own, other, none) at same in cc

rest_same : (x : ℕ) (xs ys : List ℕ) → Above x xs → Above x ys → ((n : ℕ) → has n (x ∷ xs) ≡ has n (x ∷ ys)) → (n : ℕ) → has n xs ≡ has n ys
rest_same x xs ys above also same n =
    elim (eqb x n) as (λ b. eqb x n ≡ b → has n xs ≡ has n ys) [
      | true ↦ λ is. let le : n ≤ x = grind (arith, nat_tests) in not_above n x xs le above ∙ sym (not_above n x ys le also)
      | false ↦ λ is. rw is at (same n)
    ] refl

firsts : (x y : ℕ) (xs ys : List ℕ) → x ≡ y → IsRising (x ∷ xs) → IsRising (y ∷ ys) → ((n : ℕ) → has n (x ∷ xs) ≡ has n (y ∷ ys)) → (n : ℕ) → has n xs ≡ has n ys
firsts x y xs ys e rising also same n =
    let above : Above x ys = rw e also.0 in
    let same_here : (n : ℕ) → has n (x ∷ xs) ≡ has n (x ∷ ys) = λ n. subst (λ z. has n (x ∷ xs) ≡ has n (z ∷ ys)) (sym e) (same n) in
    rest_same x xs ys rising.0 above same_here n

pub same_set : (xs ys : List ℕ) → IsRising xs → IsRising ys → ((n : ℕ) → has n xs ≡ has n ys) → xs ≡ ys
same_set [] [] rising also same = refl
same_set [] (y ∷ ys) rising also same = let own : eqb y y ≡ true = grind (arith, nat_tests) in let no : false ≡ true = rw own at (same y) in cc
same_set (x ∷ xs) [] rising also same = let own : eqb x x ≡ true = grind (arith, nat_tests) in let no : true ≡ false = rw own at (same x) in cc
same_set (x ∷ xs) (y ∷ ys) rising also same =
    elim (nat_lt x y) as (λ b. nat_lt x y ≡ b → x ∷ xs ≡ y ∷ ys) [
      | true ↦ λ is. absurd (not_first x y xs ys also.0 (grind (arith, nat_tests)) (same x))
      | false ↦ λ is. elim (nat_lt y x) as (λ b. nat_lt y x ≡ b → x ∷ xs ≡ y ∷ ys) [
        | true ↦ λ less. absurd (not_first y x ys xs rising.0 (grind (arith, nat_tests)) (sym (same y)))
        | false ↦ λ less.
            let e : x ≡ y = grind (arith, nat_tests) in
            ap (λ zs. x ∷ zs) (same_set xs ys rising.1 also.1 (firsts x y xs ys e rising also same)) ∙ ap (λ z. z ∷ ys) e
      ] refl
    ] refl
