-- Sums from left to right.
use Rattle.std.specs.Prelude.{◌≡◌, List, [], ◌∷◌, Option, Some, None}

abbrev pub sum_onto : {E : Type 0} → (E → E → E) → E → List E → E
sum_onto add sum [] = sum
sum_onto add sum (x ∷ xs) = sum_onto add (add sum x) xs

-- the sum of the empty list is none, and of any other list its elements added from left to right
abbrev pub sum_of : {E : Type 0} → (E → E → E) → List E → Option E
sum_of add [] = None
sum_of add (x ∷ xs) = Some (sum_onto add x xs)

-- two sums added, where none is nothing
abbrev pub both_sums : {E : Type 0} → (E → E → E) → Option E → Option E → Option E
both_sums add None b = b
both_sums add (Some a) None = Some a
both_sums add (Some a) (Some b) = Some (add a b)

-- an element that is there is valid
abbrev pub IsValid : {E : Type 0} → (E → Type 0) → Option E → Type 0
IsValid V None = Unit {0}
IsValid V (Some a) = V a

-- the laws of a dictionary, by its valid elements and its plus
pub record SemigroupLaws {E : Type 0} (V : E → Type 0) (add : E → E → E) : Type 0 where
  pub keeps_valid : (a b : E) → V a → V b → V (add a b)
  pub associates : (a b c : E) → V a → V b → V c → add (add a b) c ≡ add a (add b c)

-- the laws of a dictionary that commutes
pub record CommutingLaws {E : Type 0} (V : E → Type 0) (add : E → E → E) : Type 0 where
  pub semigroup : SemigroupLaws V add
  pub commutes : (a b : E) → V a → V b → add a b ≡ add b a
