-- A stream takes at most as many steps as the widths that enter its stages come to.
use Rattle.std.proofs.Common.{◌≡◌, ◌≤◌, ◌∙◌, ℕ, ◌+◌, ◌*◌, List, [], ◌∷◌, Option, Some, None, length, refl, sym, ap, ap₂, subst, arith}
use Rattle.std.specs.Prelude.{Ok, option_map}
use Rattle.sb_types.specs.Value.{Value}
use Rattle.sb_types.specs.ValueType.{ValueType}
use Rattle.sb_grammar.specs.declared.programs.Stream.{Stream}
use Rattle.sb_grammar.specs.declared.programs.Head.{Head}
use Rattle.sb_grammar.specs.declared.programs.Head.TheOpen.{Head-F, Stream-F}
use Rattle.sb_grammar.specs.declared.programs.Head.TheViews.{roll-Head, roll-Stream}
use Rattle.sb_grammar.specs.declared.programs.Head.TheFolds.{fold-Head, fold-Stream, fold-roll-Head, fold-roll-Stream, map-Head, map-Stream, ind-Stream}
use Rattle.sb_grammar.specs.declared.programs.Stage.{Stage}
use Rattle.sb_grammar.specs.declared.programs.Stage.TheVariants as staged
use Rattle.sb_terms.specs.declared.flow.Flow.{Flow}
use Rattle.sb_terms.specs.declared.flow.Flow.TheVariants as flow
use Rattle.sb_terms.specs.Agreement.{joined}
use Rattle.sb_terms.specs.Expressions.{expr_walk}
use Rattle.sb_terms.specs.Outcome.{and_then, or_mistyped}
use Rattle.sb_service.specs.Rows.{Rows}
use Rattle.sb_plan.specs.Bounds.{if_ok, entering, stages_bound, Bounded, head_bounds, stream_bounds, stream_bound}
use Rattle.sb_check.specs.Declarations.{Declarations, TypedFlow, Source, Let}
use Rattle.sb_check.specs.Names.{stream_named, source_named, let_named, service_named, source_flow, let_flow, or_else}
use Rattle.sb_check.specs.StreamNodes.{flow_sized, filtered, elements, join_type, map_node, filter_node, flat_node, join_node, merge_node}
use Rattle.sb_check.specs.Streams.{Walk, or_unknown, stage_walk, stages_walk, head_layer, stream_layer, head_walk, stream_walk}
use Rattle.sb_check.specs.Log.{Logged}
use Rattle.sb_plan.specs.Given.{given}
use Rattle.sb_plan.specs.TypedRecords.{IsDeclared, AreRowsOf, AreLetsOf}
use Rattle.sb_meaning.specs.Texts.{flow_texts}
use Rattle.sb_plan.specs.Steps.{flow_steps}
use Rattle.sb_meaning.proofs.NodeTypes.{then_ok}
use Rattle.sb_plan.proofs.StepViews.{steps-Source, steps-Let, steps-Merge, steps-Map, steps-Filter, steps-FlatMap, steps-Join}
use Rattle.sb_plan.proofs.StreamTypes.{Holds, typed_flow, stage_holds, head_sound, flow_sized_ok, flow_node_ok, known_ok}
use Rattle.sb_meaning.proofs.Typing.{IsAny, any_all, any_kept}

-- a source or a let takes no step
named_steps : (r : Logged) (services : List Rows) (lets : List (List Value)) (a : Option (ℕ × Source)) (b : Option (ℕ × Let)) (f : TypedFlow)
    → or_else (option_map source_flow a) (option_map let_flow b) ≡ Some f → flow_steps f.flow r services lets ≡ 0
named_steps r services lets (Some s) b f e = let same : source_flow s ≡ f = cc in ap (λ (f : TypedFlow). flow_steps f.flow r services lets) (sym same) ∙ steps-Source r services lets s.0
named_steps r services lets None (Some l) f e = let same : let_flow l ≡ f = cc in ap (λ (f : TypedFlow). flow_steps f.flow r services lets) (sym same) ∙ steps-Let r services lets l.0
named_steps r services lets None None f e = cc

module _ (d : Declarations) (r : Logged) (services : List Rows) (lets : List (List Value)) (is_record : IsDeclared IsAny d r) (are_rows : AreRowsOf IsAny d services) (are_lets : AreLetsOf IsAny d lets) where
  abbrev HoldsOf : TypedFlow → Type 0
  HoldsOf = Holds IsAny any_kept d r services lets is_record are_rows are_lets

  abbrev steps : Flow → ℕ
  steps f = flow_steps f r services lets

  within : (s : TypedFlow) → HoldsOf s → length (given s.flow r services lets) ≤ s.width
  within s h = (h (any_all (flow_texts s.flow))).1

  -- the steps of a node are those of its stream
  node_steps : (f : Flow) (w : ℕ) (t : ValueType) (x : TypedFlow) → typed_flow f w t ≡ x → steps x.flow ≡ steps f
  node_steps f w t x e = ap (λ (x : TypedFlow). steps x.flow) (sym e)

  stage_within : (stage : Stage) (s f : TypedFlow) → HoldsOf s → stage_walk d stage s ≡ Ok f → steps f.flow ≤ steps s.flow + entering stage s
  stage_within (staged.Map e) s f h is =
      let x = then_ok (expr_walk e s.type) (map_node s) f is in
      let y = flow_node_ok (flow.Map s.flow x.0.term) s.width (Some x.0.type) f x.2 in
      omega (arith, node_steps (flow.Map s.flow x.0.term) s.width y.0 f y.2, steps-Map r services lets s.flow x.0.term, within s h)
  stage_within (staged.Filter e) s f h is =
      let x = then_ok (expr_walk e s.type) (filter_node s) f is in
      let y = flow_node_ok (flow.Filter s.flow x.0.term) s.width (filtered s.type x.0.type) f x.2 in
      omega (arith, node_steps (flow.Filter s.flow x.0.term) s.width y.0 f y.2, steps-Filter r services lets s.flow x.0.term, within s h)
  stage_within (staged.FlatMap e) s f h is =
      let x = then_ok (expr_walk e s.type) (flat_node s) f is in
      let y = then_ok (or_mistyped (elements x.0.type)) (λ of. flow_sized (flow.FlatMap s.flow x.0.term) (s.width * of.1) of.0) f x.2 in
      omega (arith, node_steps (flow.FlatMap s.flow x.0.term) (s.width * y.0.1) y.0.0 f (flow_sized_ok (flow.FlatMap s.flow x.0.term) (s.width * y.0.1) y.0.0 f y.2), steps-FlatMap r services lets s.flow x.0.term, within s h)
  stage_within (staged.LeftJoin name) s f h is =
      let x = then_ok (or_unknown (service_named d name)) (join_node s) f is in
      let y = flow_node_ok (flow.Join s.flow x.0.0) s.width (join_type x.0.1 s.type) f x.2 in
      omega (arith, node_steps (flow.Join s.flow x.0.0) s.width y.0 f y.2, steps-Join r services lets s.flow x.0.0)

  stages_within : (stages : List Stage) (s f : TypedFlow) → HoldsOf s → stages_walk d stages s ≡ Ok f → steps f.flow ≤ steps s.flow + stages_bound d stages s
  stages_within [] s f h is = let same : s ≡ f = cc in omega (arith, ap (λ (f : TypedFlow). steps f.flow) same)
  stages_within (stage ∷ stages) s f h is =
      let x = then_ok (stage_walk d stage s) (stages_walk d stages) f is in
      omega (
        arith,
        stage_within stage s x.0 h x.1,
        ap (if_ok (stages_bound d stages)) x.1,
        stages_within stages x.0 f (stage_holds IsAny any_kept d r services lets is_record are_rows are_lets stage s x.0 h x.1) x.2,
      )

  abbrev head_pair : Head → Bounded
  head_pair = fold-Head Bounded Bounded head_bounds stream_bounds

  abbrev stream_pair : Stream → Bounded
  stream_pair = fold-Stream Bounded Bounded head_bounds stream_bounds

  -- the walk beside the bound is the checker's, and the bound is one
  abbrev Within : Walk → Bounded → Type 0
  Within w b = (b.0 ≡ w) × ((f : TypedFlow) → w d ≡ Ok f → steps f.flow ≤ b.1 d)

  abbrev OfHead : Head → Type 0
  OfHead e = Within (head_walk e) (head_pair e)

  abbrev OfStream : Stream → Type 0
  OfStream e = Within (stream_walk e) (stream_pair e)

  abbrev Head-is : Type 0
  Head-is = (e : Head) × OfHead e

  abbrev Stream-is : Type 0
  Stream-is = (e : Stream) × OfStream e

  roll_head : (l : Head-F Head Stream) → Within (head_layer (map-Head Head Stream Walk Walk head_walk stream_walk l)) (head_bounds (map-Head Head Stream Bounded Bounded head_pair stream_pair l)) → OfHead (roll-Head l)
  roll_head l h = subst (λ w. Within w (head_pair (roll-Head l))) (sym (fold-roll-Head Walk Walk head_layer stream_layer l))
      (subst (Within (head_layer (map-Head Head Stream Walk Walk head_walk stream_walk l))) (sym (fold-roll-Head Bounded Bounded head_bounds stream_bounds l)) h)

  roll_stream : (l : Stream-F Head Stream) → Within (stream_layer (map-Stream Head Stream Walk Walk head_walk stream_walk l)) (stream_bounds (map-Stream Head Stream Bounded Bounded head_pair stream_pair l)) → OfStream (roll-Stream l)
  roll_stream l h = subst (λ w. Within w (stream_pair (roll-Stream l))) (sym (fold-roll-Stream Walk Walk head_layer stream_layer l))
      (subst (Within (stream_layer (map-Stream Head Stream Walk Walk head_walk stream_walk l))) (sym (fold-roll-Stream Bounded Bounded head_bounds stream_bounds l)) h)

  merged_within : (a b : Stream) → OfStream a → OfStream b → Within (head_layer (Head-F.Merge (stream_walk a) (stream_walk b))) (head_bounds (Head-F.Merge (stream_pair a) (stream_pair b)))
  merged_within a b h k = (
    ap₂ (λ x y. head_layer (Head-F.Merge x y)) h.0 k.0,
    λ f is.
        let x = then_ok (stream_walk a d) (λ x. and_then (stream_walk b d) (merge_node x)) f is in
        let y = then_ok (stream_walk b d) (merge_node x.0) f x.2 in
        let z = flow_node_ok (flow.Merge x.0.flow y.0.flow) (x.0.width + y.0.width) (joined x.0.type y.0.type) f y.2 in
        omega (arith, node_steps (flow.Merge x.0.flow y.0.flow) (x.0.width + y.0.width) z.0 f z.2, steps-Merge r services lets x.0.flow y.0.flow, h.1 x.0 x.1, k.1 y.0 y.1),
  )

  behind_within : (a : Head) (stages : List Stage) → OfHead a → Within (λ d. and_then (head_walk a d) (stages_walk d stages)) (stream_bounds (record { head = head_pair a; stages = stages }))
  behind_within a stages h = (
    ap (λ w d. and_then (w d) (stages_walk d stages)) h.0,
    λ f is.
        let x = then_ok (head_walk a d) (stages_walk d stages) f is in
        omega (
          arith,
          h.1 x.0 x.1,
          ap (λ (w : Walk). if_ok (stages_bound d stages) (w d)) h.0,
          ap (if_ok (stages_bound d stages)) x.1,
          stages_within stages x.0 f (head_sound IsAny any_kept d r services lets is_record are_rows are_lets a x.0 x.1) x.2,
        ),
  )

  head_case : (y : Head-F Head-is Stream-is) → OfHead (roll-Head (map-Head Head-is Stream-is Head Stream (λ e. e.0) (λ e. e.0) y))
  head_case (Head-F.Name name) = roll_head (Head-F.Name name) (refl, λ f is. omega (arith, named_steps r services lets (source_named d name) (let_named d name) f (known_ok (stream_named d name) f is)))
  head_case (Head-F.Merge a b) = roll_head (Head-F.Merge a.0 b.0) (merged_within a.0 b.0 a.1 b.1)

  stream_case : (y : Stream-F Head-is Stream-is) → OfStream (roll-Stream (map-Stream Head-is Stream-is Head Stream (λ e. e.0) (λ e. e.0) y))
  stream_case y = roll_stream (map-Stream Head-is Stream-is Head Stream (λ e. e.0) (λ e. e.0) y) (behind_within y.head.0 y.stages y.head.1)

  stream_within : (e : Stream) → OfStream e
  stream_within = ind-Stream OfHead OfStream (λ x y is. subst (λ z. OfHead (roll-Head z)) is (head_case y)) (λ x y is. subst (λ z. OfStream (roll-Stream z)) is (stream_case y))

  -- a checked stream takes no more steps than its bound
  pub stream_bounded : (e : Stream) (f : TypedFlow) → stream_walk e d ≡ Ok f → flow_steps f.flow r services lets ≤ stream_bound e d
  stream_bounded e = (stream_within e).1
