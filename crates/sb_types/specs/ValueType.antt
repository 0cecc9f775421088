-- Types as definitions see them: the plain mirror of `Ty`.
use Rattle.std.specs.Prelude.{ℕ, List, [], ◌∷◌}

mutual
  -- the types of all ints, texts, truths, pairs, options, lists of at most a number, and records
  pub data ValueType : Type 0 where
    ints : ValueType
    texts : ValueType
    truths : ValueType
    pairs : ValueType → ValueType → ValueType
    options : ValueType → ValueType
    lists : ValueType → ℕ → ValueType
    records : Fields → ValueType

  -- the fields of a record: the first's name and type, and the others
  pub data Fields : Type 0 where
    no_field : Fields
    field : List ℕ → ValueType → Fields → Fields

abbrev pub fields_of : List (List ℕ × ValueType) → Fields
fields_of [] = no_field
fields_of (f ∷ fs) = field f.0 f.1 (fields_of fs)
