-- Keys of the one store by their texts.
use Rattle.std.proofs.Common.{◌≡◌, ℕ, Bool, true, false, ◌&&◌, List, [], ◌∷◌, Ordering, refl, ◌∙◌, arith}
use Rattle.std.specs.Prelude.{◌==◌}
use Rattle.std.proofs.lemmas.Bool.{eqb-true, eqb-false}
use Rattle.std.proofs.lemmas.Bool.Decides.{nat_tests}
use Rattle.std.proofs.lemmas.Cmp.{same_from_slice_cmp}
use Rattle.std.specs.Cmp.Lexicographic.{slice_cmp}
use Rattle.std.specs.Ordering.{nat_cmp, is_eq}
use Rattle.std.specs.Str.{bytes_eq}
use Rattle.sb_laws.proofs.Positions.{ap_both}

abbrev pub by_bytes : List ℕ → List ℕ → Ordering
by_bytes = slice_cmp nat_cmp

pub same_bytes : (xs ys : List ℕ) (o : Ordering) → o ≡ by_bytes xs ys → is_eq o ≡ bytes_eq xs ys
same_bytes = same_from_slice_cmp nat_cmp is_eq bytes_eq refl (λ _ _. refl) (λ _ _. refl) (λ x y xs ys o h. grind (arith, nat_tests))

same_cases : (a b : ℕ) (s t : Bool) → (a == b) ≡ s → (b == a) ≡ t → s ≡ t
same_cases a b true true e f = refl
same_cases a b true false e f = absurd (omega (arith, eqb-true, eqb-false))
same_cases a b false true e f = absurd (omega (arith, eqb-true, eqb-false))
same_cases a b false false e f = refl

turned : (xs ys : List ℕ) → bytes_eq xs ys ≡ bytes_eq ys xs
turned [] [] = refl
turned [] (y ∷ ys) = refl
turned (x ∷ xs) [] = refl
turned (x ∷ xs) (y ∷ ys) = ap_both ◌&&◌ (same_cases x y _ _ refl refl) (turned xs ys)

-- a key ties where its text is the same
pub ties : (key text : List ℕ) → is_eq (by_bytes key text) ≡ bytes_eq text key
ties key text = same_bytes key text (by_bytes key text) refl ∙ turned key text
