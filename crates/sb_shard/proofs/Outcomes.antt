-- What holds of outcomes.
use Rattle.std.proofs.Common.{◌≡◌, ℕ, ◌<◌, ◌≤◌, Bool, true, false, refl, arith}
use Rattle.std.specs.Prelude.{nat_lt, ◌↔◌, OnOk, IfOk}
use Rattle.std.specs.declared.result.Result.{Result}
use Rattle.std.specs.declared.result.Result.TheVariants.{Ok, Err}
use Rattle.std.proofs.lemmas.Bool.Decides.{nat_tests}

pub both_ok : {T R : Type 0} {P Q S : Type 0} (r : Result T R) → OnOk r P → OnOk r Q → (P → Q → S) → OnOk r S
both_ok (Ok _) p q f = f p q
both_ok (Err _) p q f = tt

pub if_both : {T R : Type 0} {P Q S : T → Type 0} (r : Result T R) → IfOk r P → IfOk r Q → ((x : T) → P x → Q x → S x) → IfOk r S
if_both (Ok x) p q f = f x p q
if_both (Err _) p q f = tt

-- what is refused exactly above a bound is within it where it succeeds
pub within_ok : {T R : Type 0} (r : Result T R) (e : R) (p n : ℕ) → (r ≡ Err e) ↔ (p < n) → OnOk r (n ≤ p)
within_ok (Err _) e p n h = tt
within_ok {T} {R} (Ok x) e p n h = tested (nat_lt p n) refl
  where
    differ : {A B : Type 0} (y : A) (z : B) → Ok y ≡ Err z → ⊥
    differ y z k = cc

    less : nat_lt p n ≡ true → p < n
    less k = grind (arith, nat_tests)

    tested : (t : Bool) → nat_lt p n ≡ t → n ≤ p
    tested true k = absurd (differ x e (h.1 (less k)))
    tested false k = grind (arith, nat_tests)
