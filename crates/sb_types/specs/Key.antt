-- Keys: values of a key type, which is one of ints, texts, truths, or pairs or options of key types.
use Rattle.std.specs.Prelude.{◌≡◌, ◌⊎◌, ℕ, ℤ, Bool, true, false, ◌&&◌, List, FitsSigned, IsUtf8}
use Rattle.std.specs.Int.{w64}
use Rattle.sb_types.specs.Value.{Value, int, text, truth, pair, none, some, list, rec}
use Rattle.sb_types.specs.ValueType.{ValueType, ints, texts, truths, pairs, options, lists, records}

-- the value is a key of this type; lists and records are none
abbrev pub IsKeyOf : ValueType → Value → Type 0
IsKeyOf ints v = (n : ℤ) × (v ≡ int n) × FitsSigned w64 n
IsKeyOf texts v = (t : List ℕ) × (v ≡ text t) × IsUtf8 t
IsKeyOf truths v = (b : Bool) × (v ≡ truth b)
IsKeyOf (pairs a b) v = (x : Value) × (y : Value) × (v ≡ pair x y) × IsKeyOf a x × IsKeyOf b y
IsKeyOf (options a) v = (v ≡ none) ⊎ ((x : Value) × (v ≡ some x) × IsKeyOf a x)
IsKeyOf (lists a most) v = ⊥
IsKeyOf (records fields) v = ⊥

-- no list and no record is in the value
abbrev pub is_key : Value → Bool
is_key (int n) = true
is_key (text t) = true
is_key (truth b) = true
is_key (pair v w) = is_key v && is_key w
is_key none = true
is_key (some v) = is_key v
is_key (list vs) = false
is_key (rec vs) = false
