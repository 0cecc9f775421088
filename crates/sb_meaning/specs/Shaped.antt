-- The values of a type whose texts have a property.
use Rattle.std.specs.Prelude.{◌≡◌, ◌≤◌, ◌⊎◌, ℕ, ℤ, Bool, List, length, FitsSigned}
use Rattle.std.specs.Int.{w64}
use Rattle.std.specs.List.{AllByRecursion}
use Rattle.sb_types.specs.Value.{Value, Values, int, text, truth, pair, none, some, list, rec, end, more, items_of}
use Rattle.sb_types.specs.ValueType.{ValueType, ints, texts, truths, pairs, options, lists, records, Fields, no_field, field}

abbrev mutual
  -- as `IsValueOf`, where a text is UTF-8
  pub IsValueWith : (List ℕ → Type 0) → ValueType → Value → Type 0
  IsValueWith P ints v = (n : ℤ) × (v ≡ int n) × FitsSigned w64 n
  IsValueWith P texts v = (t : List ℕ) × (v ≡ text t) × P t
  IsValueWith P truths v = (b : Bool) × (v ≡ truth b)
  IsValueWith P (pairs a b) v = (x : Value) × (y : Value) × (v ≡ pair x y) × IsValueWith P a x × IsValueWith P b y
  IsValueWith P (options a) v = (v ≡ none) ⊎ ((x : Value) × (v ≡ some x) × IsValueWith P a x)
  IsValueWith P (lists a most) v = (vs : Values) × (v ≡ list vs) × AllByRecursion (IsValueWith P a) (items_of vs) × (length (items_of vs) ≤ most)
  IsValueWith P (records fields) v = (vs : Values) × (v ≡ rec vs) × AreFieldsWith P fields vs

  -- a value for each field, in their order
  pub AreFieldsWith : (List ℕ → Type 0) → Fields → Values → Type 0
  AreFieldsWith P no_field vs = vs ≡ end
  AreFieldsWith P (field name t fields) vs = (w : Value) × (ws : Values) × (vs ≡ more w ws) × IsValueWith P t w × AreFieldsWith P fields ws
