use Rattle.std.proofs.Common.{◌≡◌, ◌-◌, drop, map}
use Rattle.std.specs.Prelude.{option_map}
use Rattle.sb_types.specs.Read.{onto_parts, further_front, parts_front, value_front, fields_front}
use Rattle.sb_types.specs.TyView.{type_of, view_fields}
use Rattle.sb_types.specs.ValView.{value_of}
use Rattle.sb_types.proofs.ReadSteps.{fields_from}
use Rattle.sb_types.proofs.reading.+read.Given as goal

abbrev pub invariant-read_fields-loop-at : goal.invariant-read_fields-loop-at
invariant-read_fields-loop-at l =
    option_map (onto_parts (map value_of l.values.items)) (fields_from l.at (view_fields (drop l.at l.fields)) l.rest) ≡ fields_front (view_fields l.fields) l.fn.bytes

abbrev pub invariant-read_parts-loop : goal.invariant-read_parts-loop
invariant-read_parts-loop l =
    onto_parts (map value_of l.values.items) (further_front (value_front (type_of l.of)) (l.end - l.counter) l.rest) ≡ parts_front (value_front (type_of l.of)) l.fn.bytes
