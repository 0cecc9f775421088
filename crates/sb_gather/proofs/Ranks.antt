-- One entry merged into a ranked list, of which some have passed.
use Rattle.std.proofs.Common.{◌≡◌, ◌≢◌, ℕ, zero, suc, ◌+◌, ◌-◌, ◌<◌, ◌≤◌, min, false, List, [], ◌∷◌, ◌++◌, length, take, Option, Some, None, refl, sym, ap, subst, ◌∙◌, arith, append_assoc}
use Rattle.std.proofs.lemmas.List.{length-append}
use Rattle.std.specs.Prelude.{option_to_list, MatchOption}
use Rattle.std.specs.List.{AllByRecursion, insert}
use Rattle.std.specs.declared.cmp.Ordering.{Ordering}
use Rattle.std.specs.declared.cmp.Ordering.TheVariants.{Less, Equal, Greater}
use Rattle.std.specs.Cmp.{IsTotalOrder}
use Rattle.std.specs.FinMap.Entries.{by_order}
use Rattle.sb_gather.specs.Merges.{IsNext, IsNotBefore}
use Rattle.sb_gather.specs.Steps.{TopStepBack}
use Rattle.sb_gather.specs.Tops.{placed}
use Rattle.sb_gather.specs.TopLaws.{placed_before, placed_after}
use Rattle.sb_gather.proofs.Cut.{cut_inserted, back_again}
use Rattle.sb_gather.proofs.Search.{below, inserted_longer}

module _ {X : Type 0} where
  insert_seam : (passed left : List X) (x : X) → insert (passed ++ left) (length passed) x ≡ passed ++ x ∷ left
  insert_seam [] left x = refl
  insert_seam (y ∷ passed) left x = ap (λ l. y ∷ l) (insert_seam passed left x)

  seam_within : (passed left : List X) → length passed ≤ length (passed ++ left)
  seam_within [] left = omega arith
  seam_within (y ∷ passed) left = omega (arith, seam_within passed left)

  -- where as many have passed as stay, none is left, and the next is cut away
  pub full_passed : (k : ℕ) (passed left : List X) (x : X) → k ≤ length passed → length (passed ++ left) ≤ k → passed ++ left ≡ take k (passed ++ x ∷ left)
  full_passed zero [] [] x a b = refl
  full_passed zero [] (y ∷ left) x a b = absurd (omega (arith, b))
  full_passed zero (y ∷ passed) left x a b = absurd (omega (arith, b))
  full_passed (suc k) [] left x a b = absurd (omega (arith, a))
  full_passed (suc k) (y ∷ passed) left x a b = ap (λ l. y ∷ l) (full_passed k passed left x (omega (arith, a)) (omega (arith, b)))

  out_of_both : (k : ℕ) (passed left : List X) (out : Option X) → length passed < k → MatchOption out (length left < k - length passed) (λ _. length left + 1 ≡ k - length passed)
      → MatchOption out (length (passed ++ left) < k) (λ _. length (passed ++ left) + 1 ≡ k)
  out_of_both k passed left None a f = omega (arith, length-append passed left, a, f)
  out_of_both k passed left (Some z) a f = omega (arith, length-append passed left, a, f)

  pushed : (passed left : List X) (x : X) → (passed ++ x ∷ []) ++ left ≡ insert (passed ++ left) (length passed) x
  pushed passed left x = append_assoc passed (x ∷ []) left ∙ sym (insert_seam passed left x)

  pushed_back : (passed left kept : List X) (x : X) (out : Option X) → left ≡ kept ++ option_to_list out → TopStepBack (length passed, out) ((passed ++ x ∷ []) ++ kept) (passed ++ left)
  pushed_back passed left kept x out e =
      let all : passed ++ left ≡ (passed ++ kept) ++ option_to_list out = ap (λ l. passed ++ l) e ∙ sym (append_assoc passed kept (option_to_list out)) in
      subst (λ l. TopStepBack (length passed, out) l (passed ++ left)) (sym (pushed passed kept x))
      (inserted_longer (passed ++ kept) (length passed) x (seam_within passed kept), back_again (length passed) x (passed ++ kept) (passed ++ left) out all (seam_within passed kept))

  -- the next passes, and the last of k falls out
  pub pushed_step : (passed left kept now before : List X) (at : ℕ) (x : X) (out : Option X) → at ≡ length passed → left ≡ kept ++ option_to_list out → now ≡ passed ++ x ∷ [] → passed ++ left ≡ before
      → TopStepBack (at, out) (now ++ kept) before
  pushed_step passed left kept now before at x out a e p b =
      let one = subst (λ n. TopStepBack (n, out) ((passed ++ x ∷ []) ++ kept) (passed ++ left)) (sym a) (pushed_back passed left kept x out e) in
      let two = subst (λ l. TopStepBack (at, out) (l ++ kept) (passed ++ left)) (sym p) one in
      subst (λ l. TopStepBack (at, out) (now ++ kept) l) b two

module _ {X : Type 0} (R : X → X → Ordering) where
  -- the place of an entry is behind all that has passed
  pub placed_next : (x : X) (passed left : List X) → IsNotBefore R x passed → IsNext R x false left → placed R x (passed ++ left) ≡ passed ++ x ∷ left
  placed_next x [] [] h k = refl
  placed_next x [] (y ∷ left) h k = placed_before R x y left k
  placed_next x (y ∷ passed) left h k = placed_after R x y (passed ++ left) h.0 ∙ ap (λ l. y ∷ l) (placed_next x passed left h.1 k)

  pub pushed_is_placed : (k : ℕ) (passed left kept : List X) (x : X) (out : Option X) → left ≡ kept ++ option_to_list out → length passed < k
      → MatchOption out (length kept < k - length passed) (λ _. length kept + 1 ≡ k - length passed) → IsNotBefore R x passed → IsNext R x false left
      → (passed ++ x ∷ []) ++ kept ≡ take k (placed R x (passed ++ left))
  pushed_is_placed k passed left kept x out e a f h n =
      let all : passed ++ left ≡ (passed ++ kept) ++ option_to_list out = ap (λ l. passed ++ l) e ∙ sym (append_assoc passed kept (option_to_list out)) in
      pushed passed kept x
      ∙ (cut_inserted k (length passed) x (passed ++ kept) (passed ++ left) out all (out_of_both k passed kept out a f) (seam_within passed kept)
      ∙ ap (take k) (insert_seam passed left x ∙ sym (placed_next x passed left h n)))

  placed_longer : (x : X) (xs : List X) → length (placed R x xs) ≤ suc (length xs)
  placed_longer x [] = omega arith
  placed_longer x (y ∷ ys) = elim (R x y) as (λ r. length (by_order r (x ∷ y ∷ ys) (y ∷ placed R x ys) (y ∷ placed R x ys)) ≤ suc (length (y ∷ ys))) [
    | Less ↦ omega arith
    | Equal ↦ omega (arith, placed_longer x ys)
    | Greater ↦ omega (arith, placed_longer x ys)
  ]

  cut_shorter : (k : ℕ) (xs : List X) → length (take k xs) ≤ length xs
  cut_shorter zero xs = omega arith
  cut_shorter (suc k) [] = omega arith
  cut_shorter (suc k) (x ∷ xs) = omega (arith, cut_shorter k xs)

  pub one_longer : (k : ℕ) (x : X) (xs : List X) → length (take k (placed R x xs)) ≤ suc (length xs)
  one_longer k x xs = omega (arith, cut_shorter k (placed R x xs), placed_longer x xs)

module _ {X : Type 0} (R : X → X → Ordering) (o : IsTotalOrder R) where
  later_not_before : (x y : X) (passed : List X) → R y x ≢ Less → IsNotBefore R x passed → IsNotBefore R y passed
  later_not_before x y [] p h = tt
  later_not_before x y (z ∷ passed) p h = ((λ e. p (below R o y z x e h.0)), later_not_before x y passed p h.1)

  -- what an entry isn't before, no later one is before
  pub all_not_before : (x : X) (more passed : List X) → AllByRecursion (λ y. R y x ≢ Less) more → IsNotBefore R x passed → AllByRecursion (λ y. IsNotBefore R y passed) more
  all_not_before x [] passed p h = tt
  all_not_before x (y ∷ more) passed p h = (later_not_before x y passed p.0 h, all_not_before x more passed p.1 h)

-- room for one entry less, after one came in
pub room_after : (k before after rest cap : ℕ) → after ≤ suc before → min k (before + suc rest) ≤ cap → min k (after + rest) ≤ cap
room_after k before after rest cap a b = omega (arith, a, b)
