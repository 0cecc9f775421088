-- How large a type is, and how much a value of it may hold.
use Rattle.std.specs.Prelude.{ℕ, ◌+◌, ◌*◌, max}
use Rattle.sb_types.specs.ValueType.{ValueType, ints, texts, truths, pairs, options, lists, records, Fields, no_field, field}

-- the most nodes of a type
abbrev pub most_nodes : ℕ
most_nodes = 64

-- the most leaves of a type, and of a stream: its width times the leaves of its type
abbrev pub most_leaves : ℕ
most_leaves = 1024

abbrev mutual
  -- one, and those of the parts
  pub nodes : ValueType → ℕ
  nodes ints = 1
  nodes texts = 1
  nodes truths = 1
  nodes (pairs a b) = nodes a + nodes b + 1
  nodes (options a) = nodes a + 1
  nodes (lists a most) = nodes a + 1
  nodes (records fields) = field_nodes fields + 1

  pub field_nodes : Fields → ℕ
  field_nodes no_field = 0
  field_nodes (field name t fields) = nodes t + field_nodes fields

abbrev mutual
  -- how many single values there are at most, with one for each list
  pub leaves : ValueType → ℕ
  leaves ints = 1
  leaves texts = 1
  leaves truths = 1
  leaves (pairs a b) = leaves a + leaves b
  leaves (options a) = leaves a
  leaves (lists a most) = most * leaves a + 1
  leaves (records fields) = max (field_leaves fields) 1

  pub field_leaves : Fields → ℕ
  field_leaves no_field = 0
  field_leaves (field name t fields) = leaves t + field_leaves fields
