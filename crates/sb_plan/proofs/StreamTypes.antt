-- What streams give of a record is of their types, and no more than their widths.
use Rattle.std.proofs.Common.{◌≡◌, ◌≤◌, ◌∙◌, ℕ, suc, ◌+◌, ◌*◌, inl, inr, Bool, true, false, cond, List, [], ◌∷◌, ◌++◌, filter, length, Option, Some, None, refl, sym, ap, subst, arith, mul-le-mul_right}
use Rattle.std.specs.Prelude.{Ok, IfSome, option_map, slice_get, bytes_eq, ◌==◌}
use Rattle.std.specs.List.{AllByRecursion}
use Rattle.std.specs.Map.{lookup}
use Rattle.std.proofs.lemmas.List.{length-append, length-map}
use Rattle.std.proofs.lemmas.Bool.Decides.{nat_tests}
use Rattle.sb_types.specs.Value.{Value, pair}
use Rattle.sb_types.specs.ValueType.{ValueType, truths, pairs, options, lists, records}
use Rattle.sb_grammar.specs.declared.programs.Stream.{Stream}
use Rattle.sb_grammar.specs.declared.programs.Head.{Head}
use Rattle.sb_grammar.specs.declared.programs.Head.TheOpen.{Head-F, Stream-F}
use Rattle.sb_grammar.specs.declared.programs.Head.TheViews.{roll-Head, roll-Stream}
use Rattle.sb_grammar.specs.declared.programs.Head.TheFolds.{fold-roll-Head, fold-roll-Stream, map-Head, map-Stream, ind-Head, ind-Stream}
use Rattle.sb_grammar.specs.declared.programs.Stage.{Stage}
use Rattle.sb_grammar.specs.declared.programs.Stage.TheVariants as staged
use Rattle.sb_terms.specs.declared.fault.Fault.{Fault}
use Rattle.sb_terms.specs.declared.flow.Flow.{Flow}
use Rattle.sb_terms.specs.declared.flow.Flow.TheVariants as flow
use Rattle.sb_terms.specs.Agreement.{joined}
use Rattle.sb_terms.specs.Expressions.{expr_walk}
use Rattle.sb_terms.specs.Nodes.{TypedTerm}
use Rattle.sb_terms.specs.Outcome.{Outcome, and_then, or_mistyped}
use Rattle.sb_service.specs.Rows.{Rows, row_of}
use Rattle.sb_check.specs.Declarations.{Declarations, TypedFlow, Source, Service, Let}
use Rattle.sb_check.specs.Names.{found_from, stream_named, service_named, source_named, let_named, source_flow, let_flow, or_else}
use Rattle.sb_check.specs.StreamNodes.{size_fault, unless, flow_sized, flow_node, filtered, elements, join_type, map_node, filter_node, flat_node, join_node, merge_node}
use Rattle.sb_check.specs.Streams.{Walk, or_unknown, stage_walk, stages_walk, head_layer, stream_layer, head_walk, stream_walk}
use Rattle.sb_check.specs.Log.{Logged}
use Rattle.sb_meaning.specs.Expression.{ev}
use Rattle.sb_meaning.specs.Operations.{elements_in, first_in, second_in}
use Rattle.sb_meaning.specs.Streams.{fields_of_record, is_true, join_with, option_value, list_at}
use Rattle.sb_plan.specs.Given.{of_source, given}
use Rattle.sb_plan.specs.TypedRecords.{IsDeclared, AreRowsOf, AreLetsOf}
use Rattle.sb_meaning.specs.Texts.{flow_texts, texts_in}
use Rattle.sb_meaning.specs.Shaped.{IsValueWith}
use Rattle.sb_meaning.proofs.ExpressionTypes.{expr_sound}
use Rattle.sb_plan.proofs.GivenLists.{all_append, all_filter, all_map, all_flat, length_flat, length-filter-le}
use Rattle.sb_plan.proofs.GivenViews.{given-Source, given-Let, given-Merge, given-Map, given-Filter, given-FlatMap, given-Join, flow_texts-Merge, flow_texts-Map, flow_texts-Filter, flow_texts-FlatMap, flow_texts-Join}
use Rattle.sb_meaning.proofs.NodeTypes.{then_ok, typed_ok, no_fault, all_left, all_right}
use Rattle.sb_meaning.proofs.OperationTypes.{KeepsTexts}
use Rattle.sb_meaning.proofs.TypeJoins.{join_covers, all_covered, map_some}

-- ---- what a name finds stands at its number

found_at : (A : Type 0) (name_of : A → List ℕ) (from : ℕ) (name : List ℕ) (all : List A) (n : ℕ) (a : A) → found_from name_of from name all ≡ Some (n, a)
    → (i : ℕ) × (n ≡ from + i) × (slice_get all i ≡ Some a)
found_at A name_of from name [] n a = λ e. cc
found_at A name_of from name (x ∷ all) n a = elim (bytes_eq name (name_of x)) as (λ b. cond b (Some (from, x)) (found_from name_of (from + 1) name all) ≡ Some (n, a) → (i : ℕ) × (n ≡ from + i) × (slice_get (x ∷ all) i ≡ Some a)) [
  | true ↦ λ e. let both : (from, x) ≡ (n, a) = cc in (0, omega (arith, ap (λ (p : ℕ × A). p.0) both), ap (λ (p : ℕ × A). Some p.1) both)
  | false ↦ λ e. let s = found_at A name_of (from + 1) name all n a e in (suc s.0, omega (arith, s.1), s.2)
]

pub named_at : {A : Type 0} (name_of : A → List ℕ) (name : List ℕ) (all : List A) (n : ℕ) (a : A) → found_from name_of 0 name all ≡ Some (n, a) → slice_get all n ≡ Some a
named_at {A} name_of name all n a e =
    let s = found_at A name_of 0 name all n a e in
    let same : n ≡ s.0 = omega (arith, s.1) in
    ap (slice_get all) same ∙ s.2

if_some : {A : Type 0} (P : A → Type 0) (o : Option A) (a : A) → o ≡ Some a → IfSome o P → P a
if_some P o a e h = subst (λ o. IfSome o P) e h

-- ---- outcomes

pub known_ok : {A : Type 0} (o : Option A) (a : A) → or_unknown o ≡ Ok a → o ≡ Some a
known_ok (Some b) a e = cc
known_ok None a e = cc

pub unless_ok : {A : Type 0} (o : Option Fault) (next : Outcome A) (a : A) → unless o next ≡ Ok a → next ≡ Ok a
unless_ok None next a e = e
unless_ok (Some fault) next a e = absurd (no_fault fault a e)

abbrev pub typed_flow : Flow → ℕ → ValueType → TypedFlow
typed_flow f w t = record { flow = f; type = t; width = w }

pub flow_sized_ok : (f : Flow) (w : ℕ) (t : ValueType) (x : TypedFlow) → flow_sized f w t ≡ Ok x → typed_flow f w t ≡ x
flow_sized_ok f w t x e = let s : Ok (typed_flow f w t) ≡ Ok x = unless_ok (size_fault w t) (Ok (typed_flow f w t)) x e in cc

pub flow_node_ok : (f : Flow) (w : ℕ) (t : Option ValueType) (x : TypedFlow) → flow_node f w t ≡ Ok x → (u : ValueType) × (t ≡ Some u) × (typed_flow f w u ≡ x)
flow_node_ok f w t x e = let s = then_ok (or_mistyped t) (flow_sized f w) x e in (s.0, typed_ok t s.0 s.1, flow_sized_ok f w s.0 x s.2)

filtered_as : (t u v : ValueType) → filtered t u ≡ Some v → t ≡ v
filtered_as t truths v e = cc
filtered_as t u v e = cc

elements_as : (t : ValueType) (of : ValueType × ℕ) → elements t ≡ Some of → t ≡ lists of.0 of.1
elements_as (lists t most) of e = let same : (t, most) ≡ of = cc in ap (λ (p : ValueType × ℕ). lists p.0 p.1) same
elements_as t of e = cc

join_as : (s : Service) (t u : ValueType) → join_type s t ≡ Some u → (k : ValueType) × (v : ValueType) × (t ≡ pairs k v) × (pairs k (pairs v (options s.value)) ≡ u)
join_as s (pairs k v) u e = let m = map_some (λ same. pairs k (pairs v (options s.value))) (joined k s.key) u e in (k, v, refl, m.2)
join_as s t u e = cc

module _ (P : List ℕ → Type 0) (keeps : KeepsTexts P) where
  abbrev Is : ValueType → Value → Type 0
  Is = IsValueWith P

  looked_up : (t : ValueType) (test : Value → Bool) (rows : Rows) → AllByRecursion (λ row. Is t row.1) rows → Is (options t) (option_value (lookup test rows))
  looked_up t test [] h = inl refl
  looked_up t test (row ∷ rows) h = elim (test row.0) as (λ b. Is (options t) (option_value (cond b (Some row.1) (lookup test rows)))) [
    | true ↦ inr (row.1, refl, h.0)
    | false ↦ looked_up t test rows h.1
  ]

  row_values : (s : Service) (rows : Rows) → AllByRecursion (λ row. Is s.key row.0 × Is s.value row.1) rows → AllByRecursion (λ row. Is s.value row.1) rows
  row_values s [] h = tt
  row_values s (row ∷ rows) h = (h.0.1, row_values s rows h.1)

  module _ (d : Declarations) (r : Logged) (services : List Rows) (lets : List (List Value)) (is_record : IsDeclared P d r) (are_rows : AreRowsOf P d services) (are_lets : AreLetsOf P d lets) where
    abbrev gives : Flow → List Value
    gives f = given f r services lets

    abbrev pub HasTexts : Flow → Type 0
    HasTexts f = AllByRecursion P (flow_texts f)

    abbrev pub AreGiven : ValueType → ℕ → List Value → Type 0
    AreGiven t w vs = AllByRecursion (Is t) vs × (length vs ≤ w)

    -- what the stream gives is of its type, and no more than its width
    abbrev pub Holds : TypedFlow → Type 0
    Holds f = HasTexts f.flow → AreGiven f.type f.width (gives f.flow)

    abbrev SoundFrom : (TypedFlow → Outcome TypedFlow) → Type 0
    SoundFrom g = (s f : TypedFlow) → Holds s → g s ≡ Ok f → Holds f

    source_given : (n : ℕ) (s : Source) → slice_get d.sources n ≡ Some s → AreGiven (records s.fields) 1 (of_source n r)
    source_given n s e = elim (r.source == n) as (λ b. (r.source == n) ≡ b → AreGiven (records s.fields) 1 (cond b (fields_of_record r ∷ []) [])) [
      | true ↦ λ is.
          let same : r.source ≡ n = grind (arith, nat_tests, is) in
          ((if_some (λ s. Is (records s.fields) (fields_of_record r)) (slice_get d.sources r.source) s (ap (slice_get d.sources) same ∙ e) is_record, tt), omega arith)
      | false ↦ λ _. (tt, omega arith)
    ] refl

    source_holds : (n : ℕ) (s : Source) → slice_get d.sources n ≡ Some s → Holds (source_flow (n, s))
    source_holds n s e _ = subst (AreGiven (records s.fields) 1) (sym (given-Source r services lets n)) (source_given n s e)

    let_holds : (n : ℕ) (l : Let) → slice_get d.lets n ≡ Some l → Holds (let_flow (n, l))
    let_holds n l e _ =
        subst (AreGiven l.stream.type l.stream.width) (sym (given-Let r services lets n))
        (if_some (λ l. AllByRecursion (Is l.stream.type) (list_at n lets) × (length (list_at n lets) ≤ l.stream.width)) (slice_get d.lets n) l e (are_lets n))

    either_holds : (name : List ℕ) (a : Option (ℕ × Source)) (b : Option (ℕ × Let)) (f : TypedFlow) → source_named d name ≡ a → let_named d name ≡ b
        → or_else (option_map source_flow a) (option_map let_flow b) ≡ Some f → Holds f
    either_holds name (Some s) b f at_source at_let e =
        let same : source_flow s ≡ f = cc in
        subst Holds same (source_holds s.0 s.1 (named_at (λ s. s.name) name d.sources s.0 s.1 at_source))
    either_holds name None (Some l) f at_source at_let e =
        let same : let_flow l ≡ f = cc in
        subst Holds same (let_holds l.0 l.1 (named_at (λ s. s.name) name d.lets l.0 l.1 at_let))
    either_holds name None None f at_source at_let e = cc

    pub name_holds : (name : List ℕ) (f : TypedFlow) → or_unknown (stream_named d name) ≡ Ok f → Holds f
    name_holds name f e = either_holds name (source_named d name) (let_named d name) f refl refl (known_ok (stream_named d name) f e)

    -- ---- stages

    map_holds : (s f : TypedFlow) (e : TypedTerm) → Holds s → (AllByRecursion P (texts_in e.term) → (v : Value) → Is s.type v → Is e.type (ev e.term v)) → map_node s e ≡ Ok f → Holds f
    map_holds s f e h k is =
        let x = flow_node_ok (flow.Map s.flow e.term) s.width (Some e.type) f is in
        let same : e.type ≡ x.0 = cc in
        subst Holds x.2 (λ has.
        let both : AllByRecursion P (flow_texts s.flow ++ texts_in e.term) = subst (AllByRecursion P) (flow_texts-Map s.flow e.term) has in
        let before = h (all_left P (flow_texts s.flow) (texts_in e.term) both) in
        subst (AreGiven x.0 s.width) (sym (given-Map r services lets s.flow e.term)) (
          all_map (Is s.type) (Is x.0) (ev e.term) (λ v is. subst (λ t. Is t (ev e.term v)) same (k (all_right P (flow_texts s.flow) (texts_in e.term) both) v is)) (gives s.flow) before.0,
          omega (arith, before.1, length-map (gives s.flow) (ev e.term)),
        ))

    filter_holds : (s f : TypedFlow) (e : TypedTerm) → Holds s → filter_node s e ≡ Ok f → Holds f
    filter_holds s f e h is =
        let x = flow_node_ok (flow.Filter s.flow e.term) s.width (filtered s.type e.type) f is in
        subst Holds x.2 (λ has.
        let both : AllByRecursion P (flow_texts s.flow ++ texts_in e.term) = subst (AllByRecursion P) (flow_texts-Filter s.flow e.term) has in
        let before = h (all_left P (flow_texts s.flow) (texts_in e.term) both) in
        subst (AreGiven x.0 s.width) (sym (given-Filter r services lets s.flow e.term)) (
          subst (λ t. AllByRecursion (Is t) (filter (is_true e.term) (gives s.flow))) (filtered_as s.type e.type x.0 x.1) (all_filter (Is s.type) (is_true e.term) (gives s.flow) before.0),
          omega (arith, before.1, length-filter-le (is_true e.term) (gives s.flow)),
        ))

    list_elements : (t : ValueType) (most : ℕ) (v : Value) → Is (lists t most) v → AreGiven t most (elements_in v)
    list_elements t most v is = rw is.1 (is.2, is.3)

    flat_holds : (s f : TypedFlow) (e : TypedTerm) → Holds s → (AllByRecursion P (texts_in e.term) → (v : Value) → Is s.type v → Is e.type (ev e.term v)) → flat_node s e ≡ Ok f → Holds f
    flat_holds s f e h k is =
        let x = then_ok (or_mistyped (elements e.type)) (λ of. flow_sized (flow.FlatMap s.flow e.term) (s.width * of.1) of.0) f is in
        let as_list = elements_as e.type x.0 (typed_ok (elements e.type) x.0 x.1) in
        subst Holds (flow_sized_ok (flow.FlatMap s.flow e.term) (s.width * x.0.1) x.0.0 f x.2) (λ has.
        let both : AllByRecursion P (flow_texts s.flow ++ texts_in e.term) = subst (AllByRecursion P) (flow_texts-FlatMap s.flow e.term) has in
        let before = h (all_left P (flow_texts s.flow) (texts_in e.term) both) in
        let each : (v : Value) → Is s.type v → AreGiven x.0.0 x.0.1 (elements_in (ev e.term v)) = λ v is.
        list_elements x.0.0 x.0.1 (ev e.term v) (subst (λ t. Is t (ev e.term v)) as_list (k (all_right P (flow_texts s.flow) (texts_in e.term) both) v is)) in
        subst (AreGiven x.0.0 (s.width * x.0.1)) (sym (given-FlatMap r services lets s.flow e.term)) (
          all_flat (Is s.type) (Is x.0.0) (λ v. elements_in (ev e.term v)) (λ v is. (each v is).0) (gives s.flow) before.0,
          omega (arith, length_flat (Is s.type) (Is x.0.0) (λ v. elements_in (ev e.term v)) x.0.1 (λ v is. (each v is).1) (gives s.flow) before.0, mul-le-mul_right x.0.1 before.1),
        ))

    joins_with : (n : ℕ) (s : Service) (k v : ValueType) → slice_get d.services n ≡ Some s → (x : Value) → Is (pairs k v) x → Is (pairs k (pairs v (options s.value))) (join_with (list_at n services) x)
    joins_with n s k v e x is =
        let rows = if_some (λ s. AllByRecursion (λ row. Is s.key row.0 × Is s.value row.1) (list_at n services)) (slice_get d.services n) s e (are_rows n) in (
          first_in x,
          pair (second_in x) (option_value (row_of (first_in x) (list_at n services))),
          refl,
          rw is.2 is.3,
          (second_in x, option_value (row_of (first_in x) (list_at n services)), refl, rw is.2 is.4, looked_up s.value _ (list_at n services) (row_values s (list_at n services) rows)),
        )

    join_holds : (s f : TypedFlow) (service : ℕ × Service) → slice_get d.services service.0 ≡ Some service.1 → Holds s → join_node s service ≡ Ok f → Holds f
    join_holds s f service at_service h is =
        let x = flow_node_ok (flow.Join s.flow service.0) s.width (join_type service.1 s.type) f is in
        let t = join_as service.1 s.type x.0 x.1 in
        subst Holds x.2 (λ has.
        let before = h (subst (AllByRecursion P) (flow_texts-Join s.flow service.0) has) in
        subst (AreGiven x.0 s.width) (sym (given-Join r services lets s.flow service.0)) (
          all_map (Is s.type) (Is x.0) (join_with (list_at service.0 services))
              (λ v is. subst (λ t. Is t (join_with (list_at service.0 services) v)) t.3 (joins_with service.0 service.1 t.0 t.1 at_service v (subst (λ t. Is t v) t.2 is))) (gives s.flow) before.0,
          omega (arith, before.1, length-map (gives s.flow) (join_with (list_at service.0 services))),
        ))

    merge_holds : (a b f : TypedFlow) → Holds a → Holds b → merge_node a b ≡ Ok f → Holds f
    merge_holds a b f h k is =
        let x = flow_node_ok (flow.Merge a.flow b.flow) (a.width + b.width) (joined a.type b.type) f is in
        let covers = join_covers P a.type b.type x.0 x.1 in
        subst Holds x.2 (λ has.
        let both : AllByRecursion P (flow_texts a.flow ++ flow_texts b.flow) = subst (AllByRecursion P) (flow_texts-Merge a.flow b.flow) has in
        let left = h (all_left P (flow_texts a.flow) (flow_texts b.flow) both) in
        let right = k (all_right P (flow_texts a.flow) (flow_texts b.flow) both) in
        subst (AreGiven x.0 (a.width + b.width)) (sym (given-Merge r services lets a.flow b.flow)) (
          all_append (Is x.0) (gives a.flow) (gives b.flow) (all_covered P x.0 a.type covers.0 (gives a.flow) left.0) (all_covered P x.0 b.type covers.1 (gives b.flow) right.0),
          omega (arith, left.1, right.1, length-append (gives a.flow) (gives b.flow)),
        ))

    pub stage_holds : (stage : Stage) (s f : TypedFlow) → Holds s → stage_walk d stage s ≡ Ok f → Holds f
    stage_holds (staged.Map e) s f h is =
        let x = then_ok (expr_walk e s.type) (map_node s) f is in
        map_holds s f x.0 h (expr_sound P keeps e s.type x.0 x.1) x.2
    stage_holds (staged.Filter e) s f h is = let x = then_ok (expr_walk e s.type) (filter_node s) f is in filter_holds s f x.0 h x.2
    stage_holds (staged.FlatMap e) s f h is =
        let x = then_ok (expr_walk e s.type) (flat_node s) f is in
        flat_holds s f x.0 h (expr_sound P keeps e s.type x.0 x.1) x.2
    stage_holds (staged.LeftJoin name) s f h is =
        let x = then_ok (or_unknown (service_named d name)) (join_node s) f is in
        join_holds s f x.0 (named_at (λ s. s.name) name d.services x.0.0 x.0.1 (known_ok (service_named d name) x.0 x.1)) h x.2

    pub stages_hold : (stages : List Stage) (s f : TypedFlow) → Holds s → stages_walk d stages s ≡ Ok f → Holds f
    stages_hold [] s f h is = let same : s ≡ f = cc in subst Holds same h
    stages_hold (stage ∷ stages) s f h is =
        let x = then_ok (stage_walk d stage s) (stages_walk d stages) f is in
        stages_hold stages x.0 f (stage_holds stage s x.0 h x.1) x.2

    -- ---- streams

    abbrev pub Sound : Walk → Type 0
    Sound w = (f : TypedFlow) → w d ≡ Ok f → Holds f

    abbrev OfHead : Head → Type 0
    OfHead e = Sound (head_walk e)

    abbrev OfStream : Stream → Type 0
    OfStream e = Sound (stream_walk e)

    abbrev Head-is : Type 0
    Head-is = (e : Head) × OfHead e

    abbrev Stream-is : Type 0
    Stream-is = (e : Stream) × OfStream e

    roll_head : (l : Head-F Head Stream) → Sound (head_layer (map-Head Head Stream Walk Walk head_walk stream_walk l)) → OfHead (roll-Head l)
    roll_head l = subst Sound (sym (fold-roll-Head Walk Walk head_layer stream_layer l))

    roll_stream : (l : Stream-F Head Stream) → Sound (stream_layer (map-Stream Head Stream Walk Walk head_walk stream_walk l)) → OfStream (roll-Stream l)
    roll_stream l = subst Sound (sym (fold-roll-Stream Walk Walk head_layer stream_layer l))

    merged_sound : (a b : Walk) → Sound a → Sound b → Sound (λ d. and_then (a d) (λ x. and_then (b d) (merge_node x)))
    merged_sound a b h k f is =
        let x = then_ok (a d) (λ x. and_then (b d) (merge_node x)) f is in
        let y = then_ok (b d) (merge_node x.0) f x.2 in
        merge_holds x.0 y.0 f (h x.0 x.1) (k y.0 y.1) y.2

    behind_sound : (a : Walk) (stages : List Stage) → Sound a → Sound (λ d. and_then (a d) (stages_walk d stages))
    behind_sound a stages h f is = let x = then_ok (a d) (stages_walk d stages) f is in stages_hold stages x.0 f (h x.0 x.1) x.2

    head_case : (y : Head-F Head-is Stream-is) → OfHead (roll-Head (map-Head Head-is Stream-is Head Stream (λ e. e.0) (λ e. e.0) y))
    head_case (Head-F.Name name) = roll_head (Head-F.Name name) (name_holds name)
    head_case (Head-F.Merge a b) = roll_head (Head-F.Merge a.0 b.0) (merged_sound (stream_walk a.0) (stream_walk b.0) a.1 b.1)

    stream_case : (y : Stream-F Head-is Stream-is) → OfStream (roll-Stream (map-Stream Head-is Stream-is Head Stream (λ e. e.0) (λ e. e.0) y))
    stream_case y = roll_stream (map-Stream Head-is Stream-is Head Stream (λ e. e.0) (λ e. e.0) y) (behind_sound (head_walk y.head.0) y.stages y.head.1)

    pub head_sound : (e : Head) → OfHead e
    head_sound = ind-Head OfHead OfStream (λ x y is. subst (λ z. OfHead (roll-Head z)) is (head_case y)) (λ x y is. subst (λ z. OfStream (roll-Stream z)) is (stream_case y))

    pub stream_sound : (e : Stream) → OfStream e
    stream_sound = ind-Stream OfHead OfStream (λ x y is. subst (λ z. OfHead (roll-Head z)) is (head_case y)) (λ x y is. subst (λ z. OfStream (roll-Stream z)) is (stream_case y))
