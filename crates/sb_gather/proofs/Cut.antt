-- An entry that comes into a list of at most n.
use Rattle.std.proofs.Common.{◌≡◌, ℕ, zero, suc, ◌+◌, ◌<◌, ◌≤◌, List, [], ◌∷◌, ◌++◌, length, take, Option, Some, None, refl, sym, ap, subst, ◌∙◌, arith, append-nil}
use Rattle.std.specs.Prelude.{remove, option_to_list, MatchOption}
use Rattle.std.specs.List.{insert}
use Rattle.sb_gather.specs.TopLaws.{uncut}
use Rattle.sb_gather.proofs.Search.{remove_inserted}

module _ {X : Type 0} where
  -- past n nothing changes
  pub cut_away : (n at : ℕ) (x : X) (xs : List X) → n ≤ at → at ≤ length xs → length xs ≤ n → xs ≡ take n (insert xs at x)
  cut_away zero at x [] a b c = refl
  cut_away zero at x (y ∷ xs) a b c = absurd (omega (arith, c))
  cut_away (suc n) zero x xs a b c = absurd (omega (arith, a))
  cut_away (suc n) (suc at) x [] a b c = absurd (omega (arith, b))
  cut_away (suc n) (suc at) x (y ∷ xs) a b c = ap (λ l. y ∷ l) (cut_away n at x xs (omega (arith, a)) (omega (arith, b)) (omega (arith, c)))

  few_inserted : (n at : ℕ) (x : X) (xs : List X) → at ≤ length xs → length xs < n → length (insert xs at x) ≤ n
  few_inserted n zero x xs a b = omega (arith, b)
  few_inserted n (suc at) x [] a b = absurd (omega (arith, a))
  few_inserted zero (suc at) x (y ∷ xs) a b = absurd (omega (arith, b))
  few_inserted (suc n) (suc at) x (y ∷ xs) a b = omega (arith, few_inserted n at x xs (omega (arith, a)) (omega (arith, b)))

  first_stay : (n : ℕ) (xs : List X) (z : X) → n ≡ length xs → take n (xs ++ z ∷ []) ≡ xs
  first_stay zero [] z e = refl
  first_stay zero (y ∷ xs) z e = absurd (omega (arith, e))
  first_stay (suc n) [] z e = absurd (omega (arith, e))
  first_stay (suc n) (y ∷ xs) z e = ap (λ l. y ∷ l) (first_stay n xs z (omega (arith, e)))

  full_inserted : (n at : ℕ) (x z : X) (xs : List X) → at ≤ length xs → length xs + 1 ≡ n → insert xs at x ≡ take n (insert (xs ++ z ∷ []) at x)
  full_inserted zero at x z xs a e = absurd (omega (arith, e))
  full_inserted (suc n) zero x z xs a e = ap (λ l. x ∷ l) (sym (first_stay n xs z (omega (arith, e))))
  full_inserted (suc n) (suc at) x z [] a e = absurd (omega (arith, a))
  full_inserted (suc n) (suc at) x z (y ∷ xs) a e = ap (λ l. y ∷ l) (full_inserted n at x z xs (omega (arith, a)) (omega (arith, e)))

  -- there is room, or the last falls out
  pub cut_inserted : (n at : ℕ) (x : X) (xs list : List X) (out : Option X) → list ≡ xs ++ option_to_list out → MatchOption out (length xs < n) (λ _. length xs + 1 ≡ n) → at ≤ length xs
      → insert xs at x ≡ take n (insert list at x)
  cut_inserted n at x xs list None e f a =
      sym (uncut n (insert xs at x) (few_inserted n at x xs a f)) ∙ ap (λ l. take n (insert l at x)) (sym (e ∙ append-nil xs))
  cut_inserted n at x xs list (Some z) e f a = full_inserted n at x z xs a f ∙ ap (λ l. take n (insert l at x)) (sym e)

  pub at_within : (n at : ℕ) (xs list : List X) (out : Option X) → list ≡ xs ++ option_to_list out → MatchOption out (length xs < n) (λ _. length xs + 1 ≡ n) → at < n → at ≤ length list → at ≤ length xs
  at_within n at xs list None e f a b = subst (λ l. at ≤ length l) (e ∙ append-nil xs) b
  at_within n at xs list (Some z) e f a b = omega (arith, f, a)

  pub back_again : (at : ℕ) (x : X) (xs list : List X) (out : Option X) → list ≡ xs ++ option_to_list out → at ≤ length xs → remove (insert xs at x) at ++ option_to_list out ≡ list
  back_again at x xs list out e a = ap (λ l. l ++ option_to_list out) (remove_inserted xs at x a) ∙ sym e
