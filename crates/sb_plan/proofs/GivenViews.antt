-- The equations of what streams give and of their texts that proofs cite.
use Rattle.std.proofs.Common.{◌≡◌, ◌∙◌, ℕ, List, ◌++◌, map, filter, ap, sym}
use Rattle.std.specs.List.{flat_map}
use Rattle.sb_types.specs.Value.{Value}
use Rattle.sb_terms.specs.declared.flow.Flow.{Flow}
use Rattle.sb_terms.specs.declared.flow.Flow.TheVariants as flow
use Rattle.sb_terms.specs.declared.flow.Flow.TheOpen as layer
use Rattle.sb_terms.specs.declared.flow.Flow.TheFolds.{fold-roll-Flow}
use Rattle.sb_terms.specs.declared.term.Term.{Term}
use Rattle.sb_service.specs.Rows.{Rows}
use Rattle.sb_check.specs.Log.{Logged}
use Rattle.sb_meaning.specs.Expression.{ev}
use Rattle.sb_meaning.specs.Operations.{elements_in}
use Rattle.sb_meaning.specs.Streams.{is_true, join_with, list_at}
use Rattle.sb_plan.specs.Given.{OfRecord, of_source, given, given_layer}
use Rattle.sb_meaning.specs.Texts.{flow_texts, flow_texts_layer, texts_in}

module _ (r : Logged) (services : List Rows) (lets : List (List Value)) where
  abbrev at : OfRecord → List Value
  at f = f r services lets

  pub given-Source : (n : ℕ) → given (flow.Source n) r services lets ≡ of_source n r
  given-Source n = ap at (ap given (sym (flow.rolls-Source n)) ∙ fold-roll-Flow OfRecord given_layer (layer.Source n))

  pub given-Let : (n : ℕ) → given (flow.Let n) r services lets ≡ list_at n lets
  given-Let n = ap at (ap given (sym (flow.rolls-Let n)) ∙ fold-roll-Flow OfRecord given_layer (layer.Let n))

  pub given-Merge : (a b : Flow) → given (flow.Merge a b) r services lets ≡ given a r services lets ++ given b r services lets
  given-Merge a b = ap at (ap given (sym (flow.rolls-Merge a b)) ∙ fold-roll-Flow OfRecord given_layer (layer.Merge a b))

  pub given-Map : (a : Flow) (e : Term) → given (flow.Map a e) r services lets ≡ map (ev e) (given a r services lets)
  given-Map a e = ap at (ap given (sym (flow.rolls-Map a e)) ∙ fold-roll-Flow OfRecord given_layer (layer.Map a e))

  pub given-Filter : (a : Flow) (e : Term) → given (flow.Filter a e) r services lets ≡ filter (is_true e) (given a r services lets)
  given-Filter a e = ap at (ap given (sym (flow.rolls-Filter a e)) ∙ fold-roll-Flow OfRecord given_layer (layer.Filter a e))

  pub given-FlatMap : (a : Flow) (e : Term) → given (flow.FlatMap a e) r services lets ≡ flat_map (λ v. elements_in (ev e v)) (given a r services lets)
  given-FlatMap a e = ap at (ap given (sym (flow.rolls-FlatMap a e)) ∙ fold-roll-Flow OfRecord given_layer (layer.FlatMap a e))

  pub given-Join : (a : Flow) (n : ℕ) → given (flow.Join a n) r services lets ≡ map (join_with (list_at n services)) (given a r services lets)
  given-Join a n = ap at (ap given (sym (flow.rolls-Join a n)) ∙ fold-roll-Flow OfRecord given_layer (layer.Join a n))

pub flow_texts-Merge : (a b : Flow) → flow_texts (flow.Merge a b) ≡ flow_texts a ++ flow_texts b
flow_texts-Merge a b = ap flow_texts (sym (flow.rolls-Merge a b)) ∙ fold-roll-Flow (List (List ℕ)) flow_texts_layer (layer.Merge a b)

pub flow_texts-Map : (a : Flow) (e : Term) → flow_texts (flow.Map a e) ≡ flow_texts a ++ texts_in e
flow_texts-Map a e = ap flow_texts (sym (flow.rolls-Map a e)) ∙ fold-roll-Flow (List (List ℕ)) flow_texts_layer (layer.Map a e)

pub flow_texts-Filter : (a : Flow) (e : Term) → flow_texts (flow.Filter a e) ≡ flow_texts a ++ texts_in e
flow_texts-Filter a e = ap flow_texts (sym (flow.rolls-Filter a e)) ∙ fold-roll-Flow (List (List ℕ)) flow_texts_layer (layer.Filter a e)

pub flow_texts-FlatMap : (a : Flow) (e : Term) → flow_texts (flow.FlatMap a e) ≡ flow_texts a ++ texts_in e
flow_texts-FlatMap a e = ap flow_texts (sym (flow.rolls-FlatMap a e)) ∙ fold-roll-Flow (List (List ℕ)) flow_texts_layer (layer.FlatMap a e)

pub flow_texts-Join : (a : Flow) (n : ℕ) → flow_texts (flow.Join a n) ≡ flow_texts a
flow_texts-Join a n = ap flow_texts (sym (flow.rolls-Join a n)) ∙ fold-roll-Flow (List (List ℕ)) flow_texts_layer (layer.Join a n)
