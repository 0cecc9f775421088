-- A count that isn't at its end.
use Rattle.std.proofs.Common.{◌≡◌, ◌≢◌, ◌-◌, ℕ, suc, ap, arith}

pub deeper : {A : Type 0} (f : ℕ → A) (n : ℕ) → n ≢ 0 → f n ≡ f (suc (n - 1))
deeper f n h = ap f (omega arith)
