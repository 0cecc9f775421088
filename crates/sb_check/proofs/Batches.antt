-- The batches of a log's records.
use Rattle.std.proofs.Common.{◌≡◌, ◌≤◌, ℕ, Bool, true, false, ◌&&◌, List, [], ◌∷◌, Option, Some, None, refl, arith}
use Rattle.std.specs.Prelude.{fold, max}
use Rattle.std.proofs.lemmas.Bool.Decides.{nat_tests}
use Rattle.sb_batcher.specs.Batches.{Batching, batch_of}
use Rattle.sb_check.specs.Log.{Logged, is_batch, are_in_batches, up_to, batch_count}

pub first_true : (a b : Bool) → (a && b) ≡ true → a ≡ true
first_true true b e = refl
first_true false b e = e

pub second_true : (a b : Bool) → (a && b) ≡ true → b ≡ true
second_true true b e = e
second_true false b e = cc

-- a batch takes the count to 65,536 at most
within : (batch : Option ℕ) → is_batch batch ≡ true → up_to batch ≤ 65536
within None is = omega arith
within (Some n) is = grind (arith, nat_tests)

counted_from : (b : Batching) (n : ℕ) (rs : List Logged) → n ≤ 65536 → are_in_batches b rs ≡ true → fold (λ most r. max most (up_to (batch_of b r.time))) n rs ≤ 65536
counted_from b n [] p are = p
counted_from b n (r ∷ rs) p are =
    let q = within (batch_of b r.time) (first_true _ _ are) in
    counted_from b (max n (up_to (batch_of b r.time))) rs (omega arith) (second_true _ _ are)

pub few_batches : (b : Batching) (rs : List Logged) → are_in_batches b rs ≡ true → batch_count b rs ≤ 65536
few_batches b rs are = counted_from b 0 rs (omega arith) are
