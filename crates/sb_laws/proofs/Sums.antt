-- Sums that may be none, and sums of lists put together.
use Rattle.std.proofs.Common.{◌≡◌, List, [], ◌∷◌, ◌++◌, Option, Some, None, refl, sym, ap, subst, ◌∙◌}
use Rattle.std.specs.List.{AllByRecursion}
use Rattle.sb_laws.specs.Sums.{sum_onto, sum_of, both_sums, IsValid, SemigroupLaws}

pub both_none : {E : Type 0} (add : E → E → E) (a : Option E) → both_sums add a None ≡ a
both_none add None = refl
both_none add (Some a) = refl

pub valid_append : {E : Type 0} (V : E → Type 0) (xs ys : List E) → AllByRecursion V xs → AllByRecursion V ys → AllByRecursion V (xs ++ ys)
valid_append V [] ys h k = k
valid_append V (x ∷ xs) ys h k = (h.0, valid_append V xs ys h.1 k)

pub valid_left : {E : Type 0} (V : E → Type 0) (xs ys : List E) → AllByRecursion V (xs ++ ys) → AllByRecursion V xs
valid_left V [] ys h = tt
valid_left V (x ∷ xs) ys h = (h.0, valid_left V xs ys h.1)

pub valid_right : {E : Type 0} (V : E → Type 0) (xs ys : List E) → AllByRecursion V (xs ++ ys) → AllByRecursion V ys
valid_right V [] ys h = h
valid_right V (x ∷ xs) ys h = valid_right V xs ys h.1

-- one more at the end
pub sum_onto_last : {E : Type 0} (add : E → E → E) (s : E) (xs : List E) (x : E) → sum_onto add s (xs ++ x ∷ []) ≡ add (sum_onto add s xs) x
sum_onto_last add s [] x = refl
sum_onto_last add s (y ∷ xs) x = sum_onto_last add (add s y) xs x

pub sum_last : {E : Type 0} (add : E → E → E) (xs : List E) (x : E) → sum_of add (xs ++ x ∷ []) ≡ both_sums add (sum_of add xs) (Some x)
sum_last add [] x = refl
sum_last add (y ∷ xs) x = ap Some (sum_onto_last add y xs x)

module _ {E : Type 0} (V : E → Type 0) (add : E → E → E) (laws : SemigroupLaws V add) where
  pub both_valid : (a b : Option E) → IsValid V a → IsValid V b → IsValid V (both_sums add a b)
  both_valid None b p q = q
  both_valid (Some a) None p q = p
  both_valid (Some a) (Some b) p q = laws.keeps_valid a b p q

  pub both_associates : (a b c : Option E) → IsValid V a → IsValid V b → IsValid V c
      → both_sums add (both_sums add a b) c ≡ both_sums add a (both_sums add b c)
  both_associates None b c p q r = refl
  both_associates (Some a) None c p q r = refl
  both_associates (Some a) (Some b) None p q r = refl
  both_associates (Some a) (Some b) (Some c) p q r = ap Some (laws.associates a b c p q r)

  onto_valid : (s : E) (xs : List E) → V s → AllByRecursion V xs → V (sum_onto add s xs)
  onto_valid s [] p h = p
  onto_valid s (x ∷ xs) p h = onto_valid (add s x) xs (laws.keeps_valid s x p h.0) h.1

  -- the sum of valid elements is valid
  pub sum_valid : (xs : List E) → AllByRecursion V xs → IsValid V (sum_of add xs)
  sum_valid [] h = tt
  sum_valid (x ∷ xs) h = onto_valid x xs h.0 h.1

  -- one more at the front
  pub sum_first : (x : E) (xs : List E) → V x → AllByRecursion V xs → sum_of add (x ∷ xs) ≡ both_sums add (Some x) (sum_of add xs)
  sum_first x [] p h = refl
  sum_first x (y ∷ xs) p h =
      sum_first (add x y) xs (laws.keeps_valid x y p h.0) h.1
      ∙ (both_associates (Some x) (Some y) (sum_of add xs) p h.0 (sum_valid xs h.1) ∙ ap (both_sums add (Some x)) (sym (sum_first y xs h.0 h.1)))

  -- the sum of two lists in a row
  pub sum_append : (xs ys : List E) → AllByRecursion V xs → AllByRecursion V ys → sum_of add (xs ++ ys) ≡ both_sums add (sum_of add xs) (sum_of add ys)
  sum_append [] ys h k = refl
  sum_append (x ∷ xs) ys h k =
      sum_first x (xs ++ ys) h.0 (valid_append V xs ys h.1 k)
      ∙ (ap (both_sums add (Some x)) (sum_append xs ys h.1 k)
      ∙ (sym (both_associates (Some x) (sum_of add xs) (sum_of add ys) h.0 (sum_valid xs h.1) (sum_valid ys k))
      ∙ ap (λ s. both_sums add s (sum_of add ys)) (sym (sum_first x xs h.0 h.1))))

module _ {E : Type 0} (V : E → Type 0) (add : E → E → E) (commutes : (a b : E) → V a → V b → add a b ≡ add b a) where
  pub both_commutes : (a b : Option E) → IsValid V a → IsValid V b → both_sums add a b ≡ both_sums add b a
  both_commutes None None p q = refl
  both_commutes None (Some b) p q = refl
  both_commutes (Some a) None p q = refl
  both_commutes (Some a) (Some b) p q = ap Some (commutes a b p q)

-- One list more in a sum of lists.
module _ {E : Type 0} (V : E → Type 0) (add : E → E → E) (laws : SemigroupLaws V add) where
  pub part_valid : (part : Option E) (list rest : List E) → AllByRecursion V (list ++ rest) → part ≡ sum_of add list → IsValid V part
  part_valid part list rest h e = subst (IsValid V) (sym e) (sum_valid V add laws list (valid_left V list rest h))

  pub list_added : (before part after all : Option E) (list rest : List E) → IsValid V before → AllByRecursion V (list ++ rest)
      → part ≡ sum_of add list → after ≡ both_sums add before part → both_sums add before (sum_of add (list ++ rest)) ≡ all → both_sums add after (sum_of add rest) ≡ all
  list_added before part after all list rest p h e f is =
      let left = valid_left V list rest h in
      let right = valid_right V list rest h in
      ap (λ z. both_sums add z (sum_of add rest)) (f ∙ ap (both_sums add before) e)
      ∙ (both_associates V add laws before (sum_of add list) (sum_of add rest) p (sum_valid V add laws list left) (sum_valid V add laws rest right)
      ∙ (ap (both_sums add before) (sym (sum_append V add laws list rest left right)) ∙ is))
