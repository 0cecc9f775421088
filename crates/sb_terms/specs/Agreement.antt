-- Types that agree are equal apart from how many values their lists have at most.
use Rattle.std.specs.Prelude.{ℕ, max, List, if◌then◌else◌, bytes_eq, Option, Some, None, option_map}
use Rattle.sb_types.specs.ValueType.{ValueType, ints, texts, truths, pairs, options, lists, records, Fields, no_field, field}

-- what two parts make, where there are both
abbrev pub both : {A B C : Type 0} → (A → B → C) → Option A → Option B → Option C
both f None b = None
both f (Some a) b = option_map (f a) b

-- the part, where two names are the same
abbrev pub same_named : {A : Type 0} → List ℕ → List ℕ → Option A → Option A
same_named name other part = if bytes_eq name other then part else None

abbrev mutual
  -- the join of two types has the greater number at each place; there is none where they don't agree
  pub joined : ValueType → ValueType → Option ValueType
  joined ints ints = Some ints
  joined texts texts = Some texts
  joined truths truths = Some truths
  joined (pairs a b) (pairs c d) = both pairs (joined a c) (joined b d)
  joined (options a) (options b) = option_map options (joined a b)
  joined (lists a m) (lists b n) = option_map (λ t. lists t (max m n)) (joined a b)
  joined (records fs) (records gs) = option_map records (fields_joined fs gs)
  joined _ _ = None

  -- fields have the same names in the same order
  pub fields_joined : Fields → Fields → Option Fields
  fields_joined no_field no_field = Some no_field
  fields_joined (field name t fs) (field other u gs) =
      both (field name) (same_named name other (joined t u)) (fields_joined fs gs)
  fields_joined _ _ = None
