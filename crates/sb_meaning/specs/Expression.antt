-- The value of an expression.
use Rattle.std.specs.Prelude.{map, if◌then◌else◌}
use Rattle.sb_types.specs.Value.{Value, list, values_of}
use Rattle.sb_types.specs.ValView.{value_of}
use Rattle.sb_terms.specs.declared.term.Term.{Term}
use Rattle.sb_terms.specs.declared.term.Term.TheOpen as layer
use Rattle.sb_terms.specs.declared.term.Term.TheOpen.{Term-F}
use Rattle.sb_terms.specs.declared.term.Term.TheFolds.{fold-Term}
use Rattle.sb_meaning.specs.Operations.{one, two, truth_in}

-- one layer, in which each part has a value already
abbrev pub ev_layer : Term-F (Value → Value) → Value → Value
ev_layer layer.It v = v
ev_layer (layer.Constant c) v = value_of c
ev_layer (layer.One op a) v = one op (a v)
ev_layer (layer.Two op a b) v = two op (a v) (b v)
ev_layer (layer.If c a b) v = if truth_in (c v) then a v else b v
ev_layer (layer.List parts) v = list (values_of (map (λ part. part v) parts))

-- the value where `it` is v
abbrev pub ev : Term → Value → Value
ev = fold-Term (Value → Value) ev_layer
