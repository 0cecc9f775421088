-- What a store sums: the type of its keys, the type of the values that it takes, and its monoid.
use Rattle.std.specs.Prelude.{ℕ, ◌*◌, nat_lt, nat_le, Bool, true, false, ◌&&◌, Option, Some, None, Ok, Err, if◌then◌else◌}
use Rattle.sb_types.specs.ValueType.{ValueType, ints, texts, truths, pairs, options, lists, records}
use Rattle.sb_grammar.specs.declared.programs.MonoTree.{MonoTree}
use Rattle.sb_grammar.specs.declared.programs.MonoTree.TheOpen as written
use Rattle.sb_grammar.specs.declared.programs.MonoTree.TheOpen.{MonoTree-F}
use Rattle.sb_grammar.specs.declared.programs.MonoTree.TheFolds.{fold-MonoTree}
use Rattle.sb_gather.specs.Limits.{most_places}
use Rattle.sb_sketch.specs.Limits.{most_rows, most_cells, least_bits, most_bits}
use Rattle.sb_kind.specs.Monoids.{Monoid, sums, least, greatest, firsts, lasts, concats, sets, tops, sketches, registers}
use Rattle.sb_kind.specs.Monoids as monoid
use Rattle.sb_terms.specs.declared.fault.Fault.TheVariants.{Mistyped, NotAKey}
use Rattle.sb_terms.specs.Outcome.{Outcome, and_then}

-- ints, texts, truths, and pairs and options of key types
abbrev pub is_key_type : ValueType → Bool
is_key_type ints = true
is_key_type texts = true
is_key_type truths = true
is_key_type (pairs a b) = is_key_type a && is_key_type b
is_key_type (options a) = is_key_type a
is_key_type (lists a most) = false
is_key_type (records fields) = false

-- the outcome, where this is a key type
abbrev pub when_key : {A : Type 0} → ValueType → Outcome A → Outcome A
when_key t next = if is_key_type t then next else Err NotAKey

-- the parts of a pair
abbrev pub parts : ValueType → Option (ValueType × ValueType)
parts (pairs a b) = Some (a, b)
parts _ = None

-- ---- the limits of the numbers in a monoid's text

-- how many items a top has
abbrev pub is_top : ℕ → Bool
is_top k = nat_lt 0 k && nat_le k most_places

-- rows of a count-min sketch, and cells of a row
abbrev pub is_sketch : ℕ → ℕ → Bool
is_sketch d w = nat_lt 0 d && (nat_le d most_rows && (nat_lt 0 w && nat_le (d * w) most_cells))

-- 2 to this power are the registers of a HyperLogLog
abbrev pub is_registers : ℕ → Bool
is_registers b = nat_le least_bits b && nat_le b most_bits

-- ---- the monoid, where the value has the type that it takes

-- the monoid of a text over values of a type
abbrev pub Walk : Type 0
Walk = ValueType → Outcome Monoid

abbrev pub is_int : ValueType → Bool
is_int ints = true
is_int _ = false

abbrev pub is_text : ValueType → Bool
is_text texts = true
is_text _ = false

abbrev pub is_scored : ValueType → Bool
is_scored (pairs a b) = is_int a && is_text b
is_scored _ = false

abbrev pub of_ints : Monoid → ValueType → Outcome Monoid
of_ints m t = if is_int t then Ok m else Err Mistyped

abbrev pub of_texts : Bool → Monoid → ValueType → Outcome Monoid
of_texts within m t = if is_text t && within then Ok m else Err Mistyped

-- pairs of a score and an item
abbrev pub of_scored : Bool → Monoid → ValueType → Outcome Monoid
of_scored within m t = if is_scored t && within then Ok m else Err Mistyped

abbrev pub of_pairs : Walk → Walk → Walk
of_pairs a b (pairs t u) = and_then (a t) (λ m. and_then (b u) (λ n. Ok (monoid.pairs m n)))
of_pairs a b _ = Err Mistyped

abbrev pub of_entries : Walk → Walk
of_entries a (pairs k t) = when_key k (and_then (a t) (λ m. Ok (monoid.maps m)))
of_entries a _ = Err Mistyped

-- the whole before its parts, these from the left
abbrev pub mono_layer : MonoTree-F Walk → Walk
mono_layer written.Sum t = of_ints sums t
mono_layer written.Min t = of_ints least t
mono_layer written.Max t = of_ints greatest t
mono_layer written.First t = Ok firsts
mono_layer written.Last t = Ok lasts
mono_layer written.Concat t = Ok concats
mono_layer written.Set t = when_key t (Ok sets)
mono_layer (written.Top k) t = of_scored (is_top k) (tops k) t
mono_layer (written.Cms d w) t = of_texts (is_sketch d w) (sketches d w) t
mono_layer (written.Hll b) t = of_texts (is_registers b) (registers b) t
mono_layer (written.Pair a b) t = of_pairs a b t
mono_layer (written.Map a) t = of_entries a t

-- the monoid of a text over values of this type
abbrev pub mono_walk : MonoTree → Walk
mono_walk = fold-MonoTree Walk mono_layer
