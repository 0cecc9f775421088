-- The texts that stand in expressions and in streams.
use Rattle.std.specs.Prelude.{ℕ, List, [], ◌∷◌, ◌++◌}
use Rattle.std.specs.List.{flat_map}
use Rattle.sb_types.specs.ValView.{value_of}
use Rattle.sb_terms.specs.declared.term.Term.{Term}
use Rattle.sb_terms.specs.declared.term.Term.TheOpen as layer
use Rattle.sb_terms.specs.declared.term.Term.TheOpen.{Term-F}
use Rattle.sb_terms.specs.declared.term.Term.TheFolds.{fold-Term}
use Rattle.sb_meaning.specs.Operations.{bytes_in}
use Rattle.sb_terms.specs.declared.flow.Flow.{Flow}
use Rattle.sb_terms.specs.declared.flow.Flow.TheOpen as flow
use Rattle.sb_terms.specs.declared.flow.Flow.TheOpen.{Flow-F}
use Rattle.sb_terms.specs.declared.flow.Flow.TheFolds.{fold-Flow}

-- one layer, in which those of each part are there already; a constant that is no text has no bytes
abbrev pub texts_layer : Term-F (List (List ℕ)) → List (List ℕ)
texts_layer layer.It = []
texts_layer (layer.Constant c) = bytes_in (value_of c) ∷ []
texts_layer (layer.One op a) = a
texts_layer (layer.Two op a b) = a ++ b
texts_layer (layer.If c a b) = c ++ (a ++ b)
texts_layer (layer.List parts) = flat_map (λ part. part) parts

abbrev pub texts_in : Term → List (List ℕ)
texts_in = fold-Term (List (List ℕ)) texts_layer

-- ---- streams

-- one layer, in which those of the stages before are there already
abbrev pub flow_texts_layer : Flow-F (List (List ℕ)) → List (List ℕ)
flow_texts_layer (flow.Source n) = []
flow_texts_layer (flow.Let n) = []
flow_texts_layer (flow.Merge a b) = a ++ b
flow_texts_layer (flow.Map a e) = a ++ texts_in e
flow_texts_layer (flow.Filter a e) = a ++ texts_in e
flow_texts_layer (flow.FlatMap a e) = a ++ texts_in e
flow_texts_layer (flow.Join a n) = a

abbrev pub flow_texts : Flow → List (List ℕ)
flow_texts = fold-Flow (List (List ℕ)) flow_texts_layer
