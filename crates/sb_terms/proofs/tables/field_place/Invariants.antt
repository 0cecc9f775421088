use Rattle.std.proofs.Common.{◌≡◌, ◌+◌, drop}
use Rattle.std.specs.Prelude.{option_map}
use Rattle.sb_terms.specs.Tables.{field_place}
use Rattle.sb_types.specs.TyView.{view_fields}
use Rattle.sb_terms.proofs.tables.field_place.Given as goal

abbrev pub invariant-loop-at : goal.invariant-loop-at
invariant-loop-at l = option_map (λ n. l.at + n) (field_place l.name (view_fields (drop l.at l.fields))) ≡ field_place l.name (view_fields l.fields)
