-- Sets of positions by tests: how conditions compose and split.
use Rattle.std.proofs.Common.{◌≡◌, ℕ, suc, ◌+◌, Bool, true, false, ◌&&◌, ◌||◌, not, refl, sym, ap, arith}
use Rattle.std.specs.Prelude.{nat_lt, nat_le, ◌==◌}
use Rattle.std.proofs.lemmas.Bool.{ltb-true, ltb-false, leb-true, leb-false, eqb-true, eqb-false}
use Rattle.sb_laws.specs.Folds.{IsSplit}

pub split_and : (a u s t : Bool) → IsSplit u s t → IsSplit (a && u) (a && s) (a && t)
split_and true u s t k = k
split_and false u s t k = tt

pub split_or : (s t : Bool) → (s && t) ≡ false → IsSplit (s || t) s t
split_or true true h = cc
split_or true false h = tt
split_or false true h = tt
split_or false false h = tt

pub split_none : (s : Bool) → IsSplit s s false
split_none true = tt
split_none false = tt

next_cases : (j p q : ℕ) (u s t : Bool) → q ≡ suc p → nat_lt j q ≡ u → nat_lt j p ≡ s → (j == p) ≡ t → IsSplit u s t
next_cases j p q true true true e a b c = absurd (omega (arith, ltb-true, eqb-true))
next_cases j p q true true false e a b c = tt
next_cases j p q true false true e a b c = tt
next_cases j p q true false false e a b c = absurd (omega (arith, ltb-true, ltb-false, eqb-false))
next_cases j p q false true t e a b c = absurd (omega (arith, ltb-true, ltb-false))
next_cases j p q false false true e a b c = absurd (omega (arith, ltb-false, eqb-true))
next_cases j p q false false false e a b c = tt

-- below p + 1: below p, or p
pub below_next : (j p : ℕ) → IsSplit (nat_lt j (p + 1)) (nat_lt j p) (j == p)
below_next j p = next_cases j p (p + 1) _ _ _ (omega arith) refl refl refl

pub below_suc : (j p : ℕ) → IsSplit (nat_lt j (suc p)) (nat_lt j p) (j == p)
below_suc j p = next_cases j p (suc p) _ _ _ refl refl refl refl

from_cases : (j p q : ℕ) (a b c : Bool) → q ≡ suc p → (j == p) ≡ a → nat_le p j ≡ b → nat_le q j ≡ c → (not a && b) ≡ c
from_cases j p q true b true e x y z = absurd (omega (arith, ltb-true, ltb-false, leb-true, leb-false, eqb-true, eqb-false))
from_cases j p q true b false e x y z = refl
from_cases j p q false true true e x y z = refl
from_cases j p q false true false e x y z = absurd (omega (arith, ltb-true, ltb-false, leb-true, leb-false, eqb-true, eqb-false))
from_cases j p q false false true e x y z = absurd (omega (arith, ltb-true, ltb-false, leb-true, leb-false, eqb-true, eqb-false))
from_cases j p q false false false e x y z = refl

-- from p on and not p: from p + 1 on
pub from_next : (j p : ℕ) → (not (j == p) && nat_le p j) ≡ nat_le (p + 1) j
from_next j p = from_cases j p (p + 1) _ _ _ (omega arith) refl refl refl

pub from_suc : (j p : ℕ) → (not (j == p) && nat_le p j) ≡ nat_le (suc p) j
from_suc j p = from_cases j p (suc p) _ _ _ refl refl refl refl

at_cases : (b j : ℕ) (h : ℕ → Bool) (t : Bool) → (b == j) ≡ t → (t && h j) ≡ (t && h b)
at_cases b j h true e = ap h (sym (eqb-true _ _ e))
at_cases b j h false e = refl

-- what is asked of b where b is j may be asked of j
pub at_equal : (b j : ℕ) (h : ℕ → Bool) → ((b == j) && h j) ≡ ((b == j) && h b)
at_equal b j h = at_cases b j h _ refl

either_cases : (b p : ℕ) (l m c : Bool) → nat_lt b p ≡ l → nat_le p b ≡ m → IsSplit (l || c) l (m && c)
either_cases b p true true c y z = absurd (omega (arith, ltb-true, leb-true))
either_cases b p true false c y z = tt
either_cases b p false true true y z = tt
either_cases b p false true false y z = tt
either_cases b p false false c y z = absurd (omega (arith, ltb-false, leb-false))

-- below p or c: below p, or from p on and c
pub below_or : (b p : ℕ) (c : Bool) → IsSplit (nat_lt b p || c) (nat_lt b p) (nat_le p b && c)
below_or b p c = either_cases b p _ _ c refl refl
