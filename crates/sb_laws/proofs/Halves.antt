-- The sum of the first elements, by two parts of them.
use Rattle.std.proofs.Common.{◌≡◌, ℕ, zero, suc, ◌+◌, List, [], ◌∷◌, take, drop, Some, sym, ap, subst, ◌∙◌}
use Rattle.std.proofs.Math.Seq.{take-add}
use Rattle.std.specs.List.{AllByRecursion}
use Rattle.sb_laws.specs.Sums.{sum_of, both_sums, IsValid, SemigroupLaws}
use Rattle.sb_laws.proofs.Sums.{sum_valid, sum_append}

module _ {E : Type 0} (V : E → Type 0) where
  pub valid_take : (n : ℕ) (xs : List E) → AllByRecursion V xs → AllByRecursion V (take n xs)
  valid_take zero xs h = tt
  valid_take (suc n) [] h = tt
  valid_take (suc n) (x ∷ xs) h = (h.0, valid_take n xs h.1)

  pub valid_drop : (n : ℕ) (xs : List E) → AllByRecursion V xs → AllByRecursion V (drop n xs)
  valid_drop zero xs h = h
  valid_drop (suc n) [] h = tt
  valid_drop (suc n) (x ∷ xs) h = valid_drop n xs h.1

module _ {E : Type 0} (V : E → Type 0) (add : E → E → E) (laws : SemigroupLaws V add) where
  pub taken_valid : (a : E) (n : ℕ) (xs : List E) → AllByRecursion V xs → Some a ≡ sum_of add (take n xs) → V a
  taken_valid a n xs h e = subst (IsValid V) (sym e) (sum_valid V add laws (take n xs) (valid_take V n xs h))

  pub dropped_valid : (a : E) (n k : ℕ) (xs ys : List E) → AllByRecursion V xs → ys ≡ drop n xs → Some a ≡ sum_of add (take k ys) → V a
  dropped_valid a n k xs ys h r e = taken_valid a k ys (subst (AllByRecursion V) (sym r) (valid_drop V n xs h)) e

  pub parts_added : (a b c : E) (h r n : ℕ) (xs ys : List E) → AllByRecursion V xs → n ≡ h + r → ys ≡ drop h xs
      → Some a ≡ sum_of add (take h xs) → Some b ≡ sum_of add (take r ys) → c ≡ add a b → Some c ≡ sum_of add (take n xs)
  parts_added a b c h r n xs ys v e rest left right is =
      let right' : Some b ≡ sum_of add (take r (drop h xs)) = right ∙ ap (λ zs. sum_of add (take r zs)) rest in
      ap Some is
      ∙ (ap (λ z. both_sums add z (Some b)) left
      ∙ (ap (both_sums add (sum_of add (take h xs))) right'
      ∙ (sym (sum_append V add laws (take h xs) (take r (drop h xs)) (valid_take V h xs v) (valid_take V r (drop h xs) (valid_drop V h xs v)))
      ∙ sym (ap (sum_of add) (ap (λ k. take k xs) e ∙ take-add h r xs)))))
