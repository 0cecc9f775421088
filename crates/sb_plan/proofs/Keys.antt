-- Keys of stores by their texts.
use Rattle.std.proofs.Common.{◌≡◌, ◌≢◌, ℕ, Bool, true, false, ◌&&◌, List, [], ◌∷◌, Ordering, refl, ap, ◌∙◌, arith}
use Rattle.std.specs.Prelude.{◌==◌, nat_lt}
use Rattle.std.proofs.lemmas.Bool.{eqb-true, eqb-false}
use Rattle.std.proofs.lemmas.Bool.Decides.{nat_tests}
use Rattle.std.proofs.lemmas.Cmp.{same_from_slice_cmp}
use Rattle.std.specs.declared.cmp.Ordering.TheVariants.{Equal}
use Rattle.std.specs.Cmp.Lexicographic.{slice_cmp}
use Rattle.std.specs.Ordering.{nat_cmp, is_eq, ordering_then}
use Rattle.std.specs.Str.{bytes_eq}
use Rattle.sb_laws.proofs.Positions.{ap_both}
use Rattle.sb_feed.specs.Keys.{same_key}
use Rattle.sb_feed.proofs.PartSums.{same_is_equal}
use Rattle.sb_plan.specs.Parts.{key_at}

abbrev by_bytes : List ℕ → List ℕ → Ordering
by_bytes = slice_cmp nat_cmp

same_bytes : (xs ys : List ℕ) (o : Ordering) → o ≡ by_bytes xs ys → is_eq o ≡ bytes_eq xs ys
same_bytes = same_from_slice_cmp nat_cmp is_eq bytes_eq refl (λ _ _. refl) (λ _ _. refl) (λ x y xs ys o h. grind (arith, nat_tests))

same_cases : (a b : ℕ) (s t : Bool) → (a == b) ≡ s → (b == a) ≡ t → s ≡ t
same_cases a b true true e f = refl
same_cases a b true false e f = absurd (omega (arith, eqb-true, eqb-false))
same_cases a b false true e f = absurd (omega (arith, eqb-true, eqb-false))
same_cases a b false false e f = refl

turned : (xs ys : List ℕ) → bytes_eq xs ys ≡ bytes_eq ys xs
turned [] [] = refl
turned [] (y ∷ ys) = refl
turned (x ∷ xs) [] = refl
turned (x ∷ xs) (y ∷ ys) = ap_both ◌&&◌ (same_cases x y _ _ refl refl) (turned xs ys)

same_number : (n : ℕ) → nat_cmp n n ≡ Equal
same_number n = let a : nat_lt n n ≡ false = grind (arith, nat_tests) in let b : (n == n) ≡ true = grind (arith, nat_tests) in rw (a, b) refl

-- keys of one store are the same where their texts are
pub ties_by_text : (store : ℕ) (key text : List ℕ) → same_key (key_at store key) (key_at store text) ≡ bytes_eq text key
ties_by_text store key text =
    ap (λ o. is_eq (ordering_then o (by_bytes key text))) (same_number store) ∙ (same_bytes key text (by_bytes key text) refl ∙ turned key text)

-- keys of two stores differ
pub apart : (s t : ℕ) (key text : List ℕ) → s ≢ t → same_key (key_at s key) (key_at t text) ≡ false
apart s t key text h = by _ refl
  where
    by : (b : Bool) → same_key (key_at s key) (key_at t text) ≡ b → same_key (key_at s key) (key_at t text) ≡ false
    by true e = absurd (h (ap (λ k. k.store) (same_is_equal (key_at s key) (key_at t text) e)))
    by false e = e
