-- Types as programs write them.
use Rattle.sb_types.specs.ValueType.{ValueType, ints, texts, truths, pairs, options, lists}
use Rattle.sb_grammar.specs.declared.expressions.Scalar.{Scalar}
use Rattle.sb_grammar.specs.declared.expressions.Scalar.TheVariants as scalars
use Rattle.sb_grammar.specs.declared.expressions.TypeTree.{TypeTree}
use Rattle.sb_grammar.specs.declared.expressions.TypeTree.TheOpen.{TypeTree-F}
use Rattle.sb_grammar.specs.declared.expressions.TypeTree.TheFolds.{fold-TypeTree}

abbrev pub scalar_type : Scalar → ValueType
scalar_type scalars.Int = ints
scalar_type scalars.Text = texts
scalar_type scalars.Bool = truths

-- one layer, in which each part is seen already
abbrev pub written_layer : TypeTree-F ValueType → ValueType
written_layer (TypeTree-F.Scalar s) = scalar_type s
written_layer (TypeTree-F.Pair a b) = pairs a b
written_layer (TypeTree-F.Opt a) = options a
written_layer (TypeTree-F.List a most) = lists a most

abbrev pub written_type : TypeTree → ValueType
written_type = fold-TypeTree ValueType written_layer
