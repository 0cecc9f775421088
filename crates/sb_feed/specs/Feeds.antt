-- What a feed emits.
use Rattle.std.specs.Prelude.{ℕ, zero, suc, List, [], ◌∷◌, map}
use Rattle.sb_feed.specs.declared.parts.Part.{Part}
use Rattle.sb_feed.specs.Jobs.{Record}

-- the parts of a record, in its batch
abbrev pub parts_of : {E : Type 0} → Record E → List (Part E)
parts_of r = map (λ part. record { key = part.0; batch = r.batch; value = part.1 }) r.parts

-- the parts of the record at a position
abbrev pub parts_at : {E : Type 0} → List (Record E) → ℕ → List (Part E)
parts_at [] i = []
parts_at (r ∷ records) zero = parts_of r
parts_at (r ∷ records) (suc i) = parts_at records i
