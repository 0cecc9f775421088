-- The values of a type.
use Rattle.std.specs.Prelude.{◌≡◌, ◌≤◌, ◌⊎◌, ℕ, ℤ, Bool, List, length, FitsSigned, IsUtf8}
use Rattle.std.specs.Int.{w64}
use Rattle.std.specs.List.{AllByRecursion}
use Rattle.sb_types.specs.Value.{Value, Values, int, text, truth, pair, none, some, list, rec, end, more, items_of}
use Rattle.sb_types.specs.ValueType.{ValueType, ints, texts, truths, pairs, options, lists, records, Fields, no_field, field}

abbrev mutual
  -- an int is an i64, a text is UTF-8, and a list has at most as many values as its type says
  pub IsValueOf : ValueType → Value → Type 0
  IsValueOf ints v = (n : ℤ) × (v ≡ int n) × FitsSigned w64 n
  IsValueOf texts v = (t : List ℕ) × (v ≡ text t) × IsUtf8 t
  IsValueOf truths v = (b : Bool) × (v ≡ truth b)
  IsValueOf (pairs a b) v = (x : Value) × (y : Value) × (v ≡ pair x y) × IsValueOf a x × IsValueOf b y
  IsValueOf (options a) v = (v ≡ none) ⊎ ((x : Value) × (v ≡ some x) × IsValueOf a x)
  IsValueOf (lists a most) v = (vs : Values) × (v ≡ list vs) × AllByRecursion (IsValueOf a) (items_of vs) × (length (items_of vs) ≤ most)
  IsValueOf (records fields) v = (vs : Values) × (v ≡ rec vs) × AreFieldsOf fields vs

  -- a value for each field, in their order
  pub AreFieldsOf : Fields → Values → Type 0
  AreFieldsOf no_field vs = vs ≡ end
  AreFieldsOf (field name t fields) vs = (w : Value) × (ws : Values) × (vs ≡ more w ws) × IsValueOf t w × AreFieldsOf fields ws
