-- What holds of each item of a list with its place.
use Rattle.std.proofs.Common.{◌≡◌, ℕ, zero, suc, ◌+◌, List, [], ◌∷◌, ◌++◌, length, map, Some, None, refl, sym, ap, subst, arith}
use Rattle.std.specs.Prelude.{slice_get, slice_set}
use Rattle.std.proofs.lemmas.List.{length-append}
use Rattle.std.specs.List.{AllByRecursion, range_with_len}
use Rattle.sb_session.specs.Sessions.{IsEach}

module _ {X : Type 0} where
  -- the first item has this place
  abbrev pub AreFrom : (ℕ → X → Type 0) → ℕ → List X → Type 0
  AreFrom P a [] = Unit {0}
  AreFrom P a (x ∷ xs) = P a x × AreFrom P (a + 1) xs

  pub from_made : (P : ℕ → X → Type 0) (f : ℕ → X) (a n : ℕ) → ((k : ℕ) → P k (f k)) → AreFrom P a (map f (range_with_len a n))
  from_made P f a zero h = tt
  from_made P f a (suc n) h = (h a, from_made P f (a + 1) n h)

  pub from_all : (Q : X → Type 0) (P : ℕ → X → Type 0) (a : ℕ) (xs : List X) → ((k : ℕ) (x : X) → Q x → P k x) → AllByRecursion Q xs → AreFrom P a xs
  from_all Q P a [] f h = tt
  from_all Q P a (x ∷ xs) f h = (f a x h.0, from_all Q P (a + 1) xs f h.1)

  each_from : (P : ℕ → X → Type 0) (a : ℕ) (xs : List X) → AreFrom P a xs → (k : ℕ) (x : X) → slice_get xs k ≡ Some x → P (a + k) x
  each_from P a [] h k x e = absurd (let no : None ≡ Some x = e in cc)
  each_from P a (y ∷ xs) h zero x e =
      let same : Some y ≡ Some x = e in let is : y ≡ x = cc in
      subst (λ n. P n x) (omega arith) (subst (P a) is h.0)
  each_from P a (y ∷ xs) h (suc k) x e = subst (λ n. P n x) (omega arith) (each_from P (a + 1) xs h.1 k x e)

  pub each_of : (P : ℕ → X → Type 0) (xs : List X) → AreFrom P 0 xs → IsEach P xs
  each_of P xs h k x e = subst (λ n. P n x) (omega arith) (each_from P 0 xs h k x e)

  from_each : (P : ℕ → X → Type 0) (a : ℕ) (xs : List X) → ((k : ℕ) (x : X) → slice_get xs k ≡ Some x → P (a + k) x) → AreFrom P a xs
  from_each P a [] h = tt
  from_each P a (x ∷ xs) h = (
    subst (λ n. P n x) (omega arith) (h 0 x refl),
    from_each P (a + 1) xs (λ k y e. subst (λ n. P n y) (omega arith) (h (suc k) y e)),
  )

  pub from_start : (P : ℕ → X → Type 0) (xs : List X) → IsEach P xs → AreFrom P 0 xs
  from_start P xs h = from_each P 0 xs (λ k x e. subst (λ n. P n x) (omega arith) (h k x e))

  -- what stands behind the first ones
  get_behind : (ys : List X) (x : X) (xs : List X) → slice_get (ys ++ x ∷ xs) (length ys) ≡ Some x
  get_behind [] x xs = refl
  get_behind (y ∷ ys) x xs = get_behind ys x xs

  pub same_some : (x y : X) → Some x ≡ Some y → x ≡ y
  same_some x y e = cc

  -- the last of one item
  pub last_first : (xs ys : List X) (x : X) → length xs ≡ 1 → xs ≡ ys ++ x ∷ [] → slice_get xs 0 ≡ Some x
  last_first xs [] x one e = ap (λ l. slice_get l 0) e
  last_first xs (y ∷ ys) x one e = absurd (omega (arith, one, ap length e, length-append ys (x ∷ [])))

  pub one_there : (xs : List X) → length xs ≡ 1 → (x : X) × (slice_get xs 0 ≡ Some x)
  one_there [] one = absurd (omega (arith, one))
  one_there (x ∷ xs) one = (x, refl)

  -- what comes next stands at the number of those that came
  pub next_there : (ys : List X) (x : X) (xs all : List X) → ys ++ x ∷ xs ≡ all → slice_get all (length ys) ≡ Some x
  next_there ys x xs all e = subst (λ l. slice_get l (length ys) ≡ Some x) e (get_behind ys x xs)

  pub length_set : (xs : List X) (k : ℕ) (y : X) → length (slice_set xs k y) ≡ length xs
  length_set [] k y = refl
  length_set (x ∷ xs) zero y = refl
  length_set (x ∷ xs) (suc k) y = ap suc (length_set xs k y)

  -- an item put where it stands
  pub set_there : (xs : List X) (k : ℕ) (x : X) → slice_get xs k ≡ Some x → slice_set xs k x ≡ xs
  set_there [] k x e = refl
  set_there (y ∷ xs) zero x e = (let same : Some y ≡ Some x = e in let is : y ≡ x = cc in ap (λ z. z ∷ xs) (sym is))
  set_there (y ∷ xs) (suc k) x e = ap (λ l. y ∷ l) (set_there xs k x e)

  pub get_same : (xs : List X) (k : ℕ) (y z : X) → slice_get (slice_set xs k y) k ≡ Some z → y ≡ z
  get_same [] k y z e = absurd (let no : None ≡ Some z = e in cc)
  get_same (x ∷ xs) zero y z e = (let same : Some y ≡ Some z = e in cc)
  get_same (x ∷ xs) (suc k) y z e = get_same xs k y z e

  pub get_other : (xs : List X) (k j : ℕ) (y z : X) → (j ≡ k → ⊥) → slice_get (slice_set xs k y) j ≡ Some z → slice_get xs j ≡ Some z
  get_other [] k j y z apart e = e
  get_other (x ∷ xs) zero zero y z apart e = absurd (apart refl)
  get_other (x ∷ xs) zero (suc j) y z apart e = e
  get_other (x ∷ xs) (suc k) zero y z apart e = e
  get_other (x ∷ xs) (suc k) (suc j) y z apart e = get_other xs k j y z (λ i. apart (ap suc i)) e
