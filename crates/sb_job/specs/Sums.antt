-- The sum of each key.
use Rattle.std.specs.Prelude.{◌≡◌, List, [], ◌∷◌, ◌++◌, Option}
use Rattle.std.specs.List.{IsDistinct}
use Rattle.std.specs.Map.{keys_of}
use Rattle.std.specs.FinMap.{find}
use Rattle.sb_laws.specs.Sums.{sum_of}
use Rattle.sb_laws.specs.Tables.{values_at}
use Rattle.sb_feed.specs.declared.key.KeyBytes.{KeyBytes}
use Rattle.sb_feed.specs.Jobs.{Dictionaries, AreValid}
use Rattle.sb_feed.specs.Keys.{key_order, same_key}

-- the sum of a key's values from left to right
abbrev pub key_sum : {E : Type 0} → Dictionaries E → KeyBytes → List (KeyBytes × E) → Option E
key_sum d key values = sum_of (d.add key.store) (values_at key_order key values)

-- the rows have the sum of each key with a value, and no other key
abbrev pub HasKeySums : {E : Type 0} → Dictionaries E → List (KeyBytes × E) → List (KeyBytes × E) → Type 0
HasKeySums d values rows = (key : KeyBytes) → find key_order key rows ≡ key_sum d key values

-- valid rows that have the sum of each key with a value, and no other key; they rise by their type
pub record AreKeySums {E : Type 0} (d : Dictionaries E) (values rows : List (KeyBytes × E)) : Type 0 where
  pub valid : AreValid d rows
  pub sums : HasKeySums d values rows

-- whatever values the sums were of, they are those of the same values with this one behind, and no key has two
pub record AddsValue {E : Type 0} (d : Dictionaries E) (key : KeyBytes) (value : E) (before after : List (KeyBytes × E)) : Type 0 where
  pub sums : (values : List (KeyBytes × E)) → HasKeySums d values before → HasKeySums d (values ++ (key, value) ∷ []) after
  pub apart : IsDistinct same_key (keys_of after)
