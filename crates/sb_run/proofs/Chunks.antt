-- As many records as batches.
use Rattle.std.proofs.Common.{◌≡◌, List, [], ◌∷◌, map, length, refl, arith}
use Rattle.sb_feed.specs.Jobs.{Record}

pub as_many : {E : Type 0} (records : List (Record E)) → length (map (λ r. r.batch) records) ≡ length records
as_many [] = refl
as_many (r ∷ records) = let others = as_many records in omega (arith, others)
