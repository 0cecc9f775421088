-- The text of a value, variant by variant.
use Rattle.std.proofs.Common.{◌≡◌, ◌∙◌, ℕ, List, [], ◌∷◌, ◌++◌, length, take, Some, refl, ap}
use Rattle.std.specs.Prelude.{codes}
use Rattle.sb_types.specs.Text.{value_text, parts_text}
use Rattle.sb_types.specs.ValView.{value_of, view_values}
use Rattle.sb_types.specs.declared.values.Val.{Val, Pair, Opt, List as Listed, Rec}
use Rattle.sb_types.proofs.ValViews.{value_of-Pair, value_of-Some, value_of-List, value_of-Rec}

pub text-Pair : (v a b : Val) → v ≡ Pair a b → value_text (value_of v) ≡ codes "(" ++ value_text (value_of a) ++ codes "," ++ value_text (value_of b) ++ codes ")"
text-Pair v a b is = ap (λ v. value_text (value_of v)) is ∙ ap value_text (value_of-Pair a b)

pub text-Some : (v a : Val) → v ≡ Opt (Some a) → value_text (value_of v) ≡ codes "+" ++ value_text (value_of a)
text-Some v a is = ap (λ v. value_text (value_of v)) is ∙ ap value_text (value_of-Some a)

pub text-List : (v : Val) (vs : List Val) → v ≡ Listed vs → value_text (value_of v) ≡ codes "[" ++ parts_text (view_values vs) ++ codes "]"
text-List v vs is = ap (λ v. value_text (value_of v)) is ∙ ap value_text (value_of-List vs)

pub text-Rec : (v : Val) (vs : List Val) → v ≡ Rec vs → value_text (value_of v) ≡ codes "{" ++ parts_text (view_values vs) ++ codes "}"
text-Rec v vs is = ap (λ v. value_text (value_of v)) is ∙ ap value_text (value_of-Rec vs)

-- what stood before two steps stands there after both
pub front_kept : (xs ys zs : List ℕ) → take (length xs) ys ≡ xs → take (length ys) zs ≡ ys → take (length xs) zs ≡ xs
front_kept [] ys zs first second = refl
front_kept (x ∷ xs) [] zs first second = cc
front_kept (x ∷ xs) (y ∷ ys) [] first second = cc
front_kept (x ∷ xs) (y ∷ ys) (z ∷ zs) first second =
    let one : take (length xs) ys ≡ xs = cc in
    let two : take (length ys) zs ≡ ys = cc in
    let same : z ≡ x = cc in
    ap (λ a. a ∷ take (length xs) zs) same ∙ ap (λ rest. x ∷ rest) (front_kept xs ys zs one two)

front_longer : (xs ys more : List ℕ) → take (length xs) ys ≡ xs → take (length xs) (ys ++ more) ≡ xs
front_longer [] ys more is = refl
front_longer (x ∷ xs) [] more is = cc
front_longer (x ∷ xs) (y ∷ ys) more is =
    let rest : take (length xs) ys ≡ xs = cc in
    let same : y ≡ x = cc in
    ap (λ a. a ∷ take (length xs) (ys ++ more)) same ∙ ap (λ rest. x ∷ rest) (front_longer xs ys more rest)

pub front_own : (xs : List ℕ) → take (length xs) xs ≡ xs
front_own [] = refl
front_own (x ∷ xs) = ap (λ rest. x ∷ rest) (front_own xs)

pub front_step : (xs ys zs more : List ℕ) → take (length xs) ys ≡ xs → zs ≡ ys ++ more → take (length xs) zs ≡ xs
front_step xs ys zs more front is = rw is (front_longer xs ys more front)
