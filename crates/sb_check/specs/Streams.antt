-- The walk of a stream: head and stages from the left, of a merge its left stream, its right
-- stream, then itself, and in each stage its expression before the stage.
use Rattle.std.specs.Prelude.{Bool, true, ◌&&◌, List, [], ◌∷◌, Option, Some, None, is_some, Ok, Err}
use Rattle.sb_grammar.specs.declared.programs.Stream.{Stream}
use Rattle.sb_grammar.specs.declared.programs.Head.{Head}
use Rattle.sb_grammar.specs.declared.programs.Head.TheOpen.{Head-F, Stream-F}
use Rattle.sb_grammar.specs.declared.programs.Head.TheFolds.{fold-Head, fold-Stream}
use Rattle.sb_grammar.specs.declared.programs.Stage.{Stage}
use Rattle.sb_grammar.specs.declared.programs.Stage.TheVariants as staged
use Rattle.sb_terms.specs.declared.fault.Fault.TheVariants.{Unknown}
use Rattle.sb_terms.specs.Expressions.{expr_walk}
use Rattle.sb_terms.specs.Outcome.{Outcome, and_then}
use Rattle.sb_check.specs.Declarations.{Declarations, TypedFlow}
use Rattle.sb_check.specs.Names.{stream_named, service_named}
use Rattle.sb_check.specs.StreamNodes.{map_node, filter_node, flat_node, join_node, merge_node}

-- what a stream is over what is declared, and whether its names are known
abbrev pub Walk : Type 0
Walk = Declarations → Outcome TypedFlow

abbrev pub Test : Type 0
Test = Declarations → Bool

abbrev pub or_unknown : {A : Type 0} → Option A → Outcome A
or_unknown (Some a) = Ok a
or_unknown None = Err Unknown

-- a stage behind the stream before it
abbrev pub stage_walk : Declarations → Stage → TypedFlow → Outcome TypedFlow
stage_walk d (staged.Map e) s = and_then (expr_walk e s.type) (map_node s)
stage_walk d (staged.Filter e) s = and_then (expr_walk e s.type) (filter_node s)
stage_walk d (staged.FlatMap e) s = and_then (expr_walk e s.type) (flat_node s)
stage_walk d (staged.LeftJoin name) s = and_then (or_unknown (service_named d name)) (join_node s)

abbrev pub stages_walk : Declarations → List Stage → TypedFlow → Outcome TypedFlow
stages_walk d [] s = Ok s
stages_walk d (stage ∷ stages) s = and_then (stage_walk d stage s) (stages_walk d stages)

-- one layer, in which each stream inside is walked already
abbrev pub head_layer : Head-F Walk Walk → Walk
head_layer (Head-F.Name name) d = or_unknown (stream_named d name)
head_layer (Head-F.Merge a b) d = and_then (a d) (λ x. and_then (b d) (merge_node x))

abbrev pub stream_layer : Stream-F Walk Walk → Walk
stream_layer l d = and_then (l.head d) (stages_walk d l.stages)

abbrev pub head_walk : Head → Walk
head_walk = fold-Head Walk Walk head_layer stream_layer

abbrev pub stream_walk : Stream → Walk
stream_walk = fold-Stream Walk Walk head_layer stream_layer

-- ---- whether every name in a stream is declared as what it stands for

abbrev pub stage_known : Declarations → Stage → Bool
stage_known d (staged.Map e) = true
stage_known d (staged.Filter e) = true
stage_known d (staged.FlatMap e) = true
stage_known d (staged.LeftJoin name) = is_some (service_named d name)

abbrev pub stages_known : Declarations → List Stage → Bool
stages_known d [] = true
stages_known d (stage ∷ stages) = stage_known d stage && stages_known d stages

abbrev pub head_known_layer : Head-F Test Test → Test
head_known_layer (Head-F.Name name) d = is_some (stream_named d name)
head_known_layer (Head-F.Merge a b) d = a d && b d

abbrev pub stream_known_layer : Stream-F Test Test → Test
stream_known_layer l d = l.head d && stages_known d l.stages

abbrev pub head_known : Head → Test
head_known = fold-Head Test Test head_known_layer stream_known_layer

abbrev pub stream_known : Stream → Test
stream_known = fold-Stream Test Test head_known_layer stream_known_layer
