-- The parts that the records of a feed emit.
use Rattle.std.specs.Prelude.{ℕ, suc, Bool, ◌&&◌, nat_le, nat_lt, List, [], ◌∷◌, ◌++◌, if◌then◌else◌}
use Rattle.sb_feed.specs.declared.parts.Part.{Part}
use Rattle.sb_feed.specs.Feeds.{parts_of}
use Rattle.sb_feed.specs.Jobs.{Record}

-- the parts of the records at the positions that pass, where the first of these records has the position i
abbrev pub parts_where : {E : Type 0} → (ℕ → Bool) → ℕ → List (Record E) → List (Part E)
parts_where passes i [] = []
parts_where passes i (r ∷ records) = (if passes i then parts_of r else []) ++ parts_where passes (suc i) records

-- from one number on and below another
abbrev pub is_between : ℕ → ℕ → ℕ → Bool
is_between from to i = nat_le from i && nat_lt i to
