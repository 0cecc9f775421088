-- One entry merged into a ring.
use Rattle.std.proofs.Common.{◌≡◌, ◌≢◌, ℕ, zero, suc, ◌-◌, ◌<◌, ◌≤◌, true, false, List, [], ◌∷◌, ◌++◌, length, take, drop, Some, None, refl, sym, ap, subst, ◌∙◌, arith, append_assoc}
use Rattle.std.proofs.Math.Seq.{take-append_seam, drop-append_seam}
use Rattle.std.specs.Prelude.{slice_get, slice_set, remove}
use Rattle.std.specs.List.{AllByRecursion}
use Rattle.std.specs.declared.cmp.Ordering.{Ordering}
use Rattle.std.specs.declared.cmp.Ordering.TheVariants.{Less, Equal, Greater}
use Rattle.std.specs.Cmp.{IsTotalOrder}
use Rattle.std.specs.FinMap.Entries.{by_order}
use Rattle.std.proofs.lemmas.Cmp.{tied_itself}
use Rattle.sb_laws.proofs.Sums.{valid_right}
use Rattle.sb_gather.specs.Entries.{entry_added}
use Rattle.sb_gather.specs.EntryLaws.{less_back}
use Rattle.sb_gather.specs.Merges.{turned, IsAfter, IsNext, IsNotBefore}
use Rattle.std.proofs.Math.Seq.{drop-length}
use Rattle.sb_gather.specs.TopLaws.{uncut}
use Rattle.sb_gather.specs.Steps.{StepBack, StepsBack}
use Rattle.sb_gather.proofs.Search.{above, same_some}

all_both : {X : Type 0} (P : X → Type 0) (xs ys : List X) → AllByRecursion P xs → AllByRecursion P ys → AllByRecursion P (xs ++ ys)
all_both P [] ys h k = k
all_both P (x ∷ xs) ys h k = (h.0, all_both P xs ys h.1 k)

pub all_one_more : {X : Type 0} (P : X → Type 0) (j : ℕ) (xs : List X) (x : X) → AllByRecursion P (take j xs) → slice_get xs j ≡ Some x → P x → AllByRecursion P (take (suc j) xs)
all_one_more P j [] x h e p = tt
all_one_more P zero (y ∷ xs) x h e p = (subst P (sym (same_some y x e)) p, tt)
all_one_more P (suc j) (y ∷ xs) x h e p = (h.0, all_one_more P j xs x h.1 e p)

-- the first j pass
module _ {X : Type 0} where
  rest_parts : (j left : ℕ) (xs : List X) → j ≤ left → left ≤ length xs → drop j xs ≡ drop j (take left xs) ++ drop left xs
  rest_parts zero zero xs a b = refl
  rest_parts zero (suc left) [] a b = absurd (omega (arith, b))
  rest_parts zero (suc left) (x ∷ xs) a b = ap (λ l. x ∷ l) (rest_parts zero left xs (omega arith) (omega (arith, b)))
  rest_parts (suc j) zero xs a b = absurd (omega (arith, a))
  rest_parts (suc j) (suc left) [] a b = absurd (omega (arith, b))
  rest_parts (suc j) (suc left) (x ∷ xs) a b = rest_parts j left xs (omega (arith, a)) (omega (arith, b))

  rest_length : (j left : ℕ) (xs : List X) → j ≤ left → left ≤ length xs → length (drop j (take left xs)) ≡ left - j
  rest_length zero zero xs a b = refl
  rest_length zero (suc left) [] a b = absurd (omega (arith, b))
  rest_length zero (suc left) (x ∷ xs) a b = omega (arith, rest_length zero left xs (omega arith) (omega (arith, b)))
  rest_length (suc j) zero xs a b = absurd (omega (arith, a))
  rest_length (suc j) (suc left) [] a b = absurd (omega (arith, b))
  rest_length (suc j) (suc left) (x ∷ xs) a b = omega (arith, rest_length j left xs (omega (arith, a)) (omega (arith, b)))

  rotated : (j left : ℕ) (xs : List X) → j ≤ left → left ≤ length xs → drop j xs ++ take j xs ≡ drop j (take left xs) ++ (drop left xs ++ take j xs)
  rotated j left xs a b = ap (λ l. l ++ take j xs) (rest_parts j left xs a b) ∙ append_assoc (drop j (take left xs)) (drop left xs) (take j xs)

  pub left_after : (j left : ℕ) (xs : List X) → j ≤ left → left ≤ length xs → take (left - j) (drop j xs ++ take j xs) ≡ drop j (take left xs)
  left_after j left xs a b =
      ap (take (left - j)) (rotated j left xs a b)
      ∙ (ap (λ n. take n (drop j (take left xs) ++ (drop left xs ++ take j xs))) (sym (rest_length j left xs a b)) ∙ take-append_seam (drop j (take left xs)) (drop left xs ++ take j xs))

  pub passed_after : (j left : ℕ) (xs : List X) → j ≤ left → left ≤ length xs → drop (left - j) (drop j xs ++ take j xs) ≡ drop left xs ++ take j xs
  passed_after j left xs a b =
      ap (drop (left - j)) (rotated j left xs a b)
      ∙ (ap (λ n. drop n (drop j (take left xs) ++ (drop left xs ++ take j xs))) (sym (rest_length j left xs a b)) ∙ drop-append_seam (drop j (take left xs)) (drop left xs ++ take j xs))

  first_of_left : (j left : ℕ) (xs : List X) → j ≤ left → take j xs ++ drop j (take left xs) ≡ take left xs
  first_of_left zero left xs a = refl
  first_of_left (suc j) zero xs a = absurd (omega (arith, a))
  first_of_left (suc j) (suc left) [] a = refl
  first_of_left (suc j) (suc left) (x ∷ xs) a = ap (λ l. x ∷ l) (first_of_left j left xs (omega (arith, a)))

  -- the ring stands for the same list
  pub same_list : (j left : ℕ) (xs : List X) → j ≤ left → left ≤ length xs → turned (left - j) (drop j xs ++ take j xs) ≡ turned left xs
  same_list j left xs a b =
      ap (λ l. l ++ take (left - j) (drop j xs ++ take j xs)) (passed_after j left xs a b)
      ∙ (ap (λ l. (drop left xs ++ take j xs) ++ l) (left_after j left xs a b)
      ∙ (append_assoc (drop left xs) (take j xs) (drop j (take left xs)) ∙ ap (λ l. drop left xs ++ l) (first_of_left j left xs a)))

  set_first : (left : ℕ) (xs : List X) (y : X) (ys : List X) (z : X) → take left xs ≡ y ∷ ys → turned left (slice_set xs 0 z) ≡ drop left xs ++ z ∷ ys
  set_first zero xs y ys z e = cc
  set_first (suc left) [] y ys z e = cc
  set_first (suc left) (x ∷ xs) y ys z e = ap (λ l. drop left xs ++ z ∷ l) (tails x y (take left xs) ys e)
    where
      tails : (x y : X) (xs ys : List X) → x ∷ xs ≡ y ∷ ys → xs ≡ ys
      tails x y xs ys e = ap (drop 1) e

  pushed : (left : ℕ) (xs : List X) (x : X) → left ≤ length xs → (drop left (xs ++ x ∷ []) ≡ drop left xs ++ x ∷ []) × (take left (xs ++ x ∷ []) ≡ take left xs)
  pushed zero xs x a = (refl, refl)
  pushed (suc left) [] x a = absurd (omega (arith, a))
  pushed (suc left) (y ∷ xs) x a = let rest = pushed left xs x (omega (arith, a)) in (rest.0, ap (λ l. y ∷ l) rest.1)

  pub push_last : (left : ℕ) (xs : List X) (x : X) → left ≤ length xs → turned left (xs ++ x ∷ []) ≡ drop left xs ++ x ∷ take left xs
  push_last left xs x a =
      let both = pushed left xs x a in
      ap (λ l. l ++ take left (xs ++ x ∷ [])) both.0 ∙ (ap (λ l. (drop left xs ++ x ∷ []) ++ l) both.1 ∙ append_assoc (drop left xs) (x ∷ []) (take left xs))

  remove_seam : (xs : List X) (x : X) (ys : List X) → remove (xs ++ x ∷ ys) (length xs) ≡ xs ++ ys
  remove_seam [] x ys = refl
  remove_seam (y ∷ xs) x ys = ap (λ l. y ∷ l) (remove_seam xs x ys)

  get_seam : (xs : List X) (x : X) (ys : List X) → slice_get (xs ++ x ∷ ys) (length xs) ≡ Some x
  get_seam [] x ys = refl
  get_seam (y ∷ xs) x ys = get_seam xs x ys

  set_seam : (xs : List X) (x y : X) (ys : List X) → slice_set (xs ++ x ∷ ys) (length xs) y ≡ xs ++ y ∷ ys
  set_seam [] x y ys = refl
  set_seam (z ∷ xs) x y ys = ap (λ l. z ∷ l) (set_seam xs x y ys)

  seam_within : (xs : List X) (x : X) (ys : List X) → length xs < length (xs ++ x ∷ ys)
  seam_within [] x ys = omega arith
  seam_within (y ∷ xs) x ys = omega (arith, seam_within xs x ys)

module _ {X : Type 0} (R : X → X → Ordering) (join : X → X → X) where
  -- past what it is after, an entry is added to the rest
  added_past : (x : X) (xs ys : List X) → IsAfter R x xs → entry_added R join x (xs ++ ys) ≡ xs ++ entry_added R join x ys
  added_past x [] ys h = refl
  added_past x (y ∷ xs) ys h =
      ap (λ r. by_order r (x ∷ y ∷ xs ++ ys) (join y x ∷ xs ++ ys) (y ∷ entry_added R join x (xs ++ ys))) h.0 ∙ ap (λ l. y ∷ l) (added_past x xs ys h.1)

  added_first : (x : X) (ys : List X) → IsNext R x false ys → entry_added R join x ys ≡ x ∷ ys
  added_first x [] h = refl
  added_first x (y ∷ ys) h = ap (λ r. by_order r (x ∷ y ∷ ys) (join y x ∷ ys) (y ∷ entry_added R join x ys)) h

  pub pushed_is_added : (x : X) (left : ℕ) (xs : List X) → left ≤ length xs → IsAfter R x (drop left xs) → IsNext R x false (take left xs)
      → turned left (xs ++ x ∷ []) ≡ entry_added R join x (turned left xs)
  pushed_is_added x left xs a h k =
      push_last left xs x a ∙ (sym (ap (λ l. drop left xs ++ l) (added_first x (take left xs) k)) ∙ sym (added_past x (drop left xs) (take left xs) h))

  pub joined_is_added : (x y : X) (ys : List X) (left : ℕ) (xs : List X) → IsAfter R x (drop left xs) → take left xs ≡ y ∷ ys → R x y ≡ Equal
      → turned left (slice_set xs 0 (join y x)) ≡ entry_added R join x (turned left xs)
  joined_is_added x y ys left xs h e p =
      set_first left xs y ys (join y x) e
      ∙ (sym (ap (λ l. drop left xs ++ l) (ap (λ r. by_order r (x ∷ y ∷ ys) (join y x ∷ ys) (y ∷ entry_added R join x ys)) p))
      ∙ (sym (added_past x (drop left xs) (y ∷ ys) h) ∙ sym (ap (λ l. entry_added R join x (drop left xs ++ l)) e)))

module _ {X U : Type 0} (T : U → X → X → Type 0) where
  pub push_back_step : (left : ℕ) (xs : List X) (x : X) (at : ℕ) → left ≤ length xs → at ≡ length (drop left xs) → StepBack T (at, None) (turned left (xs ++ x ∷ [])) (turned left xs)
  push_back_step left xs x at a e =
      let list = sym (push_last left xs x a) in (
        subst (λ n. n < length (turned left (xs ++ x ∷ []))) (sym e) (subst (λ l. length (drop left xs) < length l) list (seam_within (drop left xs) x (take left xs))),
        subst (λ n. remove (turned left (xs ++ x ∷ [])) n ≡ turned left xs) (sym e) (subst (λ l. remove l (length (drop left xs)) ≡ turned left xs) list (remove_seam (drop left xs) x (take left xs))),
      )

  pub join_step : (u : U) (y z : X) (ys : List X) (left : ℕ) (xs : List X) (at : ℕ) → take left xs ≡ y ∷ ys → T u z y → at ≡ length (drop left xs)
      → StepBack T (at, Some u) (turned left (slice_set xs 0 z)) (turned left xs)
  join_step u y z ys left xs at e t is =
      let later = set_first left xs y ys z e in
      let seam = drop left xs in
      let earlier : turned left xs ≡ seam ++ y ∷ ys = ap (λ l. seam ++ l) e in
      subst (λ n. StepBack T (n, Some u) (turned left (slice_set xs 0 z)) (turned left xs)) (sym is)
      (subst (λ l. StepBack T (length seam, Some u) l (turned left xs)) (sym later)
      (subst (λ l. StepBack T (length seam, Some u) (seam ++ z ∷ ys) l) (sym earlier)
      (y, z, get_seam seam z ys, t, set_seam seam z y ys)))

module _ {X : Type 0} (R : X → X → Ordering) (o : IsTotalOrder R) where
  after_next : (x y : X) (ys : List X) → R x y ≡ Less → IsNotBefore R x ys → IsAfter R y ys
  after_next x y [] p h = tt
  after_next x y (z ∷ ys) p h = (above R o y x z (less_back R o x y p) h.0, after_next x y ys p h.1)

  -- what the entry isn't before, all later entries are after
  pub all_after_passed : (x : X) (more ys : List X) → AllByRecursion (λ y. R x y ≡ Less) more → IsNotBefore R x ys → AllByRecursion (λ y. IsAfter R y ys) more
  all_after_passed x [] ys p h = tt
  all_after_passed x (y ∷ more) ys p h = (after_next x y ys p.0 h, all_after_passed x more ys p.1 h)

  pub not_before : (x : X) (ys : List X) → IsAfter R x ys → IsNotBefore R x ys
  not_before x [] h = tt
  not_before x (y ∷ ys) h = ((λ e. clash (R x y) h.0 e), not_before x ys h.1)
    where
      clash : (r : Ordering) → r ≡ Greater → r ≡ Less → ⊥
      clash r p q = cc

  pub after_both : (x : X) (xs ys : List X) → IsAfter R x xs → IsAfter R x ys → IsAfter R x (xs ++ ys)
  after_both x xs ys h k = all_both (λ y. R x y ≡ Greater) xs ys h k

module _ {X : Type 0} (R : X → X → Ordering) (x : X) where
  pub next_before : (at left : ℕ) (xs : List X) (y : X) → at < left → slice_get xs at ≡ Some y → R x y ≡ Less → IsNext R x false (drop at (take left xs))
  next_before at zero xs y a e p = absurd (omega (arith, a))
  next_before at (suc left) [] y a e p = cc
  next_before zero (suc left) (z ∷ xs) y a e p = ap (R x) (same_some z y e) ∙ p
  next_before (suc at) (suc left) (z ∷ xs) y a e p = next_before at left xs y (omega (arith, a)) e p

  pub next_ties : (at left : ℕ) (xs : List X) (y : X) → at < left → slice_get xs at ≡ Some y → R x y ≡ Equal → IsNext R x true (drop at (take left xs))
  next_ties at zero xs y a e p = absurd (omega (arith, a))
  next_ties at (suc left) [] y a e p = cc
  next_ties zero (suc left) (z ∷ xs) y a e p = ap (R x) (same_some z y e) ∙ p
  next_ties (suc at) (suc left) (z ∷ xs) y a e p = next_ties at left xs y (omega (arith, a)) e p

  pub none_next : (left : ℕ) (xs : List X) → IsNext R x false (drop left (take left xs))
  none_next zero xs = tt
  none_next (suc left) [] = tt
  none_next (suc left) (y ∷ xs) = none_next left xs

  -- the one that ties stands first in the ring
  pub tied_first : (left : ℕ) (xs : List X) (y : X) → IsNext R x true (take left xs) → slice_get xs 0 ≡ Some y → (ys : List X) × (take left xs ≡ y ∷ ys) × (R x y ≡ Equal)
  tied_first zero xs y h e = absurd h
  tied_first (suc left) [] y h e = absurd h
  tied_first (suc left) (z ∷ xs) y h e =
      let is = same_some z y e in
      (take left xs, ap (λ w. w ∷ take left xs) is, ap (R x) (sym is) ∙ h)

  pub tied_there : (left : ℕ) (xs : List X) → IsNext R x true (take left xs) → 0 < length xs
  tied_there zero xs h = absurd h
  tied_there (suc left) [] h = absurd h
  tied_there (suc left) (y ∷ xs) h = omega arith

module _ {X : Type 0} where
  pub passed_length : (left : ℕ) (xs : List X) → left ≤ length xs → length xs - left ≡ length (drop left xs)
  passed_length zero xs a = omega arith
  passed_length (suc left) [] a = absurd (omega (arith, a))
  passed_length (suc left) (x ∷ xs) a = omega (arith, passed_length left xs (omega (arith, a)))

  pub set_passed : (left : ℕ) (xs : List X) (y z : X) (ys : List X) → take left xs ≡ y ∷ ys → drop left (slice_set xs 0 z) ≡ drop left xs
  set_passed zero xs y z ys e = cc
  set_passed (suc left) [] y z ys e = cc
  set_passed (suc left) (x ∷ xs) y z ys e = refl

  pub first_valid : (V : X → Type 0) (left : ℕ) (xs : List X) (y : X) (ys : List X) → AllByRecursion V (turned left xs) → take left xs ≡ y ∷ ys → V y
  first_valid V left xs y ys h e = (subst (AllByRecursion V) e (valid_right V (drop left xs) (take left xs) h)).0

module _ {X : Type 0} (R : X → X → Ordering) (o : IsTotalOrder R) where
  itself : (x : X) → R x x ≢ Less
  itself x e = clash (R x x) (tied_itself o x) e
    where
      clash : (r : Ordering) → r ≡ Equal → r ≡ Less → ⊥
      clash r p q = cc

  pub pushed_passed : (x : X) (left : ℕ) (xs : List X) → left ≤ length xs → IsAfter R x (drop left xs) → IsNotBefore R x (drop left (xs ++ x ∷ []))
  pushed_passed x left xs a h =
      subst (IsNotBefore R x) (sym (pushed left xs x a).0) (all_both (λ y. R x y ≢ Less) (drop left xs) (x ∷ []) (not_before R o x (drop left xs) h) (itself x, tt))

  pub joined_passed : (x y z : X) (ys : List X) (left : ℕ) (xs : List X) → take left xs ≡ y ∷ ys → IsAfter R x (drop left xs) → IsNotBefore R x (drop left (slice_set xs 0 z))
  joined_passed x y z ys left xs e h = subst (IsNotBefore R x) (sym (set_passed left xs y z ys e)) (not_before R o x (drop left xs) h)

module _ {X S : Type 0} (B : S → List X → List X → Type 0) where
  -- nothing has passed, and no step is noted
  pub at_first : (left : ℕ) (ring list : List X) (steps : List S) → left ≡ length ring → ring ≡ list → steps ≡ [] → StepsBack B steps (turned left ring) list
  at_first left ring list steps a e none =
      subst (λ s. StepsBack B s (turned left ring) list) (sym none)
      (ap (λ n. turned n ring) a ∙ (ap (λ l. l ++ take (length ring) ring) (drop-length ring) ∙ (uncut (length ring) ring (omega arith) ∙ e)))
