-- What the online store of a shard keeps, and the sums that it holds by it.
use Rattle.std.specs.Prelude.{◌≡◌, ℕ, suc, false, not, ◌&&◌, nat_le, ◌==◌, List, [], ◌∷◌, ◌++◌, map, filter, Option, None, if◌then◌else◌}
use Rattle.std.specs.List.{AllByRecursion, IsDistinct}
use Rattle.std.specs.Map.{keys_of}
use Rattle.sb_feed.specs.declared.key.KeyBytes.{KeyBytes}
use Rattle.sb_feed.specs.declared.parts.Part.{Part}
use Rattle.sb_feed.specs.Keys.{same_key}
use Rattle.sb_feed.specs.Places.{is_in}
use Rattle.sb_feed.specs.Stands.{sum_at, keyed_values}

-- the sums of each batch, from 0 on; parts that aren't added to them yet; the chunks whose parts were applied
pub record OnlineValue (E : Type 0) : Type 0 where
  pub tables : List (List (KeyBytes × E))
  pub waiting : List (Part E)
  pub cover : List ℕ

-- the sums of a batch as parts of it
abbrev pub table_parts : {E : Type 0} → ℕ → List (KeyBytes × E) → List (Part E)
table_parts j table = map (λ row. record { key = row.0; batch = j; value = row.1 }) table

-- the sums of batches as parts of them, where the first table has the number j
abbrev pub tables_parts : {E : Type 0} → ℕ → List (List (KeyBytes × E)) → List (Part E)
tables_parts j [] = []
tables_parts j (table ∷ tables) = table_parts j table ++ tables_parts (suc j) tables

-- all that is kept, as parts: those that make a sum stand in the order in which they are added
abbrev pub parts_of : {E : Type 0} → OnlineValue E → List (Part E)
parts_of held = tables_parts 0 held.tables ++ held.waiting

abbrev pub online_sum : {E : Type 0} → (ℕ → E → E → E) → OnlineValue E → KeyBytes → ℕ → Option E
online_sum add held key j = sum_at add key j (parts_of held)

-- the sums of the batches from one on
abbrev pub sum_from : {E : Type 0} → (ℕ → E → E → E) → OnlineValue E → ℕ → KeyBytes → ℕ → Option E
sum_from add held from key j = if nat_le from j then online_sum add held key j else None

-- all values that are kept, with their keys
abbrev pub kept_by : {E : Type 0} → OnlineValue E → List (KeyBytes × E)
kept_by held = keyed_values (parts_of held)

-- no key has two sums in a table
abbrev pub AreApart : {E : Type 0} → List (List (KeyBytes × E)) → Type 0
AreApart tables = AllByRecursion (λ table. IsDistinct same_key (keys_of table)) tables

-- the tables have a part in addition, whatever is added after it
abbrev pub AddsPart : {E : Type 0} → (ℕ → E → E → E) → Part E → List (List (KeyBytes × E)) → List (List (KeyBytes × E)) → Type 0
AddsPart {E} add part before after = (key : KeyBytes) (j : ℕ) (later : List (Part E)) → sum_at add key j (tables_parts 0 after ++ later) ≡ sum_at add key j (tables_parts 0 before ++ part ∷ later)

-- the parts of the batches from one on
abbrev pub parts_from : {E : Type 0} → ℕ → List (Part E) → List (Part E)
parts_from p parts = filter (λ part. nat_le p part.batch) parts

-- the parts of the other batches
abbrev pub without : {E : Type 0} → ℕ → List (Part E) → List (Part E)
without b parts = filter (λ part. not (part.batch == b)) parts

-- no number is in both
abbrev pub ShareNone : List ℕ → List ℕ → Type 0
ShareNone xs ys = (n : ℕ) → (is_in xs n && is_in ys n) ≡ false
