-- Whether a number is one of a list's.
use Rattle.std.proofs.Common.{◌≡◌, ◌↔◌, ◌==◌, ℕ, Bool, true, false, List, eqb, refl, sym, subst, arith, IsTrue, Contains, slice_index_or}
use Rattle.std.proofs.lemmas.Bool.Decides.{nat_tests}
use Rattle.std.proofs.lemmas.List.Folds.{list_any_at, Any-from_list_any}
use Rattle.sb_meaning.specs.Fold.{is_in}

found : (numbers : List ℕ) (n : ℕ) → Contains numbers n → is_in numbers n ≡ true
found numbers n there =
    let same : eqb n n ≡ true = grind (arith, nat_tests) in
    list_any_at (λ m. m == n) numbers there.0 n there.1 (rw there.2 same)

listed : (numbers : List ℕ) (n : ℕ) → is_in numbers n ≡ true → Contains numbers n
listed numbers n is =
    let any = Any-from_list_any (λ m. m == n) numbers is in
    let same : any.1 ≡ n = grind (arith, nat_tests, any.4) in
    (any.0, any.2, subst (λ m. slice_index_or numbers any.0 m ≡ m) same any.3)

pub taken : (numbers : List ℕ) (n : ℕ) (answer : Bool) → IsTrue answer ↔ Contains numbers n → answer ≡ is_in numbers n
taken numbers n true same = sym (found numbers n (same.0 refl))
taken numbers n false same = elim (is_in numbers n) as (λ is. is_in numbers n ≡ is → false ≡ is) [
  | true ↦ λ is. same.1 (listed numbers n is)
  | false ↦ λ _. refl
] refl
