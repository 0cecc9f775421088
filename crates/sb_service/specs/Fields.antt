-- The fields of logs and services.
use Rattle.std.specs.Prelude.{ℕ, Bool, true, false, codes, List, Option, Some, None, option_map, if◌then◌else◌, bytes_eq}
use Rattle.sb_text.specs.Decimal.{integer}
use Rattle.sb_text.specs.Field.{field_text}
use Rattle.sb_types.specs.Value.{Value, int, text, truth}
use Rattle.sb_types.specs.ValueType.{ValueType, ints, texts, truths, pairs, options, lists, records}

-- the truth that a field spells
abbrev pub truth_in : List ℕ → Option Bool
truth_in bytes =
    if bytes_eq bytes (codes "true") then Some true
    else (if bytes_eq bytes (codes "false") then Some false else None)

-- the value that a field spells; the fields of lines are ints, texts and truths
abbrev pub value_in : ValueType → List ℕ → Option Value
value_in ints bytes = option_map int (integer bytes)
value_in texts bytes = option_map text (field_text bytes)
value_in truths bytes = option_map truth (truth_in bytes)
value_in (pairs a b) bytes = None
value_in (options a) bytes = None
value_in (lists a most) bytes = None
value_in (records fields) bytes = None
