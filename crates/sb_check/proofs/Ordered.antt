-- Stores of which none is ordered.
use Rattle.std.proofs.Common.{◌≡◌, ◌+◌, ℕ, Bool, true, false, ◌&&◌, cond, List, [], ◌∷◌, Option, Some, None, refl}
use Rattle.sb_kind.specs.Monoids.{commutes}
use Rattle.sb_check.specs.Admission.{first_ordered, all_commute}
use Rattle.sb_check.specs.Declarations.{Store}

step : {X : Type 0} (a b : Bool) (rest : Option X) (x : X) → (rest ≡ None → b ≡ true) → cond a rest (Some x) ≡ None → (a && b) ≡ true
step true b rest x f e = f e
step false b rest x f e = cc

pub none_ordered : (n : ℕ) (stores : List Store) → first_ordered n stores ≡ None → all_commute stores ≡ true
none_ordered n [] e = refl
none_ordered n (s ∷ stores) e = step (commutes s.monoid) (all_commute stores) (first_ordered (n + 1) stores) (n, s) (none_ordered (n + 1) stores) e
