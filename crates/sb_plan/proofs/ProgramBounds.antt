-- A record takes at most as many steps as the widths that enter the stages of a program's text come to.
use Rattle.std.proofs.Common.{◌≡◌, ◌≤◌, ◌∙◌, ℕ, zero, suc, ◌+◌, ◌*◌, true, false, cond, List, [], ◌∷◌, ◌++◌, map, length, Option, Some, None, refl, sym, ap, subst, arith, suc-mul, IsUtf8}
use Rattle.std.specs.Prelude.{Result, Ok, Err, IfSome, slice_get}
use Rattle.std.specs.List.{AllByRecursion, sum_by}
use Rattle.std.proofs.lemmas.List.{map-append}
use Rattle.std.proofs.lemmas.List.Sums.{sum_by-append, sum_by-cons}
use Rattle.sb_types.specs.Value.{Value}
use Rattle.sb_types.specs.ValueType.{ValueType, records}
use Rattle.sb_kind.specs.Monoids.{Monoid}
use Rattle.sb_grammar.specs.declared.expressions.Scalar.{Scalar}
use Rattle.sb_grammar.specs.declared.programs.FieldTree.{FieldTree}
use Rattle.sb_grammar.specs.declared.programs.MonoTree.{MonoTree}
use Rattle.sb_grammar.specs.declared.programs.Program.{Program}
use Rattle.sb_grammar.specs.declared.programs.Statement.{Statement}
use Rattle.sb_grammar.specs.declared.programs.Statement.TheVariants as statements
use Rattle.sb_grammar.specs.declared.programs.Stream.{Stream}
use Rattle.sb_terms.specs.declared.fault.Fault.TheVariants.{NotAKey}
use Rattle.sb_terms.specs.declared.flow.Flow.{Flow}
use Rattle.sb_terms.specs.Written.{scalar_type}
use Rattle.sb_terms.specs.Outcome.{Outcome, and_then, or_mistyped}
use Rattle.sb_service.specs.Rows.{Rows}
use Rattle.sb_check.specs.declared.check_error.CheckError.{CheckError}
use Rattle.sb_check.specs.Declarations.{Declarations, Source, Service, Let, Store, TypedFlow, nothing}
use Rattle.sb_check.specs.Log.{Logged}
use Rattle.sb_check.specs.Programs.{CheckedProgram, with_source, with_service, with_let, with_store, name_fault, names_fault, row_of, source_fault, statement_check, fed, store_over, at_statement, go_on, statements_check, batching, check_of}
use Rattle.sb_check.specs.Stores.{is_key_type, mono_walk, parts}
use Rattle.sb_check.specs.StreamNodes.{size_fault, unless}
use Rattle.sb_check.specs.Streams.{stream_walk}
use Rattle.sb_plan.specs.Bounds.{AreWithin, if_ok, stream_bound, statement_bound, statements_bound, program_bound}
use Rattle.sb_plan.specs.TypedRecords.{IsDeclared, AreRowsOf, AreLetsOf}
use Rattle.sb_plan.specs.Given.{OfRecord, given, lets_given}
use Rattle.sb_meaning.specs.Streams.{fields_of_record, list_at}
use Rattle.sb_meaning.specs.Shaped.{IsValueWith}
use Rattle.sb_plan.specs.Steps.{Cost, Steps, flow_steps, lets_steps, record_steps, costs_of}
use Rattle.sb_meaning.proofs.NodeTypes.{then_ok, no_fault}
use Rattle.sb_plan.proofs.StreamBounds.{stream_bounded}
use Rattle.sb_plan.proofs.StreamTypes.{stream_sound, unless_ok}
use Rattle.sb_meaning.proofs.Typing.{IsAny, any_all, any_kept, value_weaker}

-- ---- what statements leave as it is

-- what stands at a number stands there still
abbrev Keeps : {A : Type 0} → List A → List A → Type 0
Keeps {A} xs ys = (n : ℕ) (a : A) → slice_get xs n ≡ Some a → slice_get ys n ≡ Some a

keeps_append : {A : Type 0} (xs ys : List A) → Keeps xs (xs ++ ys)
keeps_append [] ys n a e = cc
keeps_append (x ∷ xs) ys zero a e = e
keeps_append (x ∷ xs) ys (suc n) a e = keeps_append xs ys n a e

record Extends (d d' : Declarations) : Type 0 where
  sources : Keeps d.sources d'.sources
  services : Keeps d.services d'.services
  lets : Keeps d.lets d'.lets

extends_self : (d : Declarations) → Extends d d
extends_self d = record { sources = λ n a e. e; services = λ n a e. e; lets = λ n a e. e }

extends_on : (d d' d'' : Declarations) → Extends d d' → Extends d' d'' → Extends d d''
extends_on d d' d'' h k = record {
  sources = λ n a e. k.sources n a (h.sources n a e);
  services = λ n a e. k.services n a (h.services n a e);
  lets = λ n a e. k.lets n a (h.lets n a e);
}

if_kept : {A : Type 0} (P : A → Type 0) (xs ys : List A) (n : ℕ) → Keeps xs ys → IfSome (slice_get ys n) P → IfSome (slice_get xs n) P
if_kept {A} P xs ys n keeps h = by (slice_get xs n) refl
  where
    by : (o : Option A) → slice_get xs n ≡ o → IfSome o P
    by None e = tt
    by (Some a) e = subst (λ o. IfSome o P) (keeps n a e) h

module _ (P : List ℕ → Type 0) (d d' : Declarations) (h : Extends d d') where
  declared_before : (r : Logged) → IsDeclared P d' r → IsDeclared P d r
  declared_before r is = if_kept (λ s. IsValueWith P (records s.fields) (fields_of_record r)) d.sources d'.sources r.source h.sources is

  rows_before : (services : List Rows) → AreRowsOf P d' services → AreRowsOf P d services
  rows_before services are n = if_kept (λ s. AllByRecursion (λ row. IsValueWith P s.key row.0 × IsValueWith P s.value row.1) (list_at n services)) d.services d'.services n h.services (are n)

  lets_before : (lets : List (List Value)) → AreLetsOf P d' lets → AreLetsOf P d lets
  lets_before lets are n = if_kept (λ l. AllByRecursion (IsValueWith P l.stream.type) (list_at n lets) × (length (list_at n lets) ≤ l.stream.width)) d.lets d'.lets n h.lets (are n)

-- ---- what a statement declares

source_made : (d d' : Declarations) (name : List ℕ) (fields : List FieldTree) → statement_check d (statements.Source name fields) ≡ Ok d' → (s : Source) × (with_source d s ≡ d')
source_made d d' name fields e =
    let s : Source = record { name = name; fields = row_of fields } in
    let is : Ok (with_source d s) ≡ Ok d' = unless_ok (size_fault 1 (records (row_of fields))) (Ok (with_source d s)) d' (unless_ok (source_fault d name fields) (unless (size_fault 1 (records (row_of fields))) (Ok (with_source d s))) d' e) in
    (s, cc)

service_made : (d d' : Declarations) (name : List ℕ) (key value : Scalar) → statement_check d (statements.Service name key value) ≡ Ok d' → (s : Service) × (with_service d s ≡ d')
service_made d d' name key value e =
    let s : Service = record { name = name; key = scalar_type key; value = scalar_type value } in
    let is : Ok (with_service d s) ≡ Ok d' = unless_ok (name_fault d name) (Ok (with_service d s)) d' e in
    (s, cc)

let_made : (d d' : Declarations) (name : List ℕ) (stream : Stream) → statement_check d (statements.Let name stream) ≡ Ok d'
    → (l : Let) × (stream_walk stream d ≡ Ok l.stream) × (with_let d l ≡ d')
let_made d d' name stream e =
    let s = then_ok (stream_walk stream d) (λ s. Ok (with_let d (record { name = name; stream = s }))) d' (unless_ok (names_fault d name stream) _ d' e) in
    let l : Let = record { name = name; stream = s.0 } in
    let is : Ok (with_let d l) ≡ Ok d' = s.2 in
    (l, s.1, cc)

abbrev the_store : List ℕ → Flow → ValueType → ValueType → Monoid → Store
the_store name f key value m = record { name = name; key = key; value = value; monoid = m; flow = f }

fed_flow : (name : List ℕ) (mono : MonoTree) (f : Flow) (key value : ValueType) (store : Store) → fed name mono f key value ≡ Ok store → store.flow ≡ f
fed_flow name mono f key value store = elim (is_key_type key) as (λ b. cond b (and_then (mono_walk mono value) (λ m. Ok (the_store name f key value m))) (Err NotAKey) ≡ Ok store → store.flow ≡ f) [
  | true ↦ λ e.
      let m = then_ok (mono_walk mono value) (λ m. Ok (the_store name f key value m)) store e in
      let is : Ok (the_store name f key value m.0) ≡ Ok store = m.2 in
      let same : the_store name f key value m.0 ≡ store = cc in
      ap (λ (s : Store). s.flow) (sym same)
  | false ↦ λ e. absurd (no_fault NotAKey store e)
]

store_made : (d d' : Declarations) (name : List ℕ) (stream : Stream) (mono : MonoTree) → statement_check d (statements.Store name stream mono) ≡ Ok d'
    → (store : Store) × (f : TypedFlow) × (stream_walk stream d ≡ Ok f) × (store.flow ≡ f.flow) × (with_store d store ≡ d')
store_made d d' name stream mono e =
    let s = then_ok (stream_walk stream d) (λ s. and_then (store_over name mono s) (λ store. Ok (with_store d store))) d' (unless_ok (names_fault d name stream) _ d' e) in
    let t = then_ok (store_over name mono s.0) (λ store. Ok (with_store d store)) d' s.2 in
    let p = then_ok (or_mistyped (parts s.0.type)) (λ p. fed name mono s.0.flow p.0 p.1) t.0 t.1 in
    let is : Ok (with_store d t.0) ≡ Ok d' = t.2 in
    (t.0, s.0, s.1, fed_flow name mono s.0.flow p.0.0 p.0.1 t.0 p.2, cc)

statement_extends : (a : Statement) (d d' : Declarations) → statement_check d a ≡ Ok d' → Extends d d'
statement_extends (statements.Source name fields) d d' e =
    let m = source_made d d' name fields e in
    subst (Extends d) m.1 (record { sources = keeps_append d.sources (m.0 ∷ []); services = λ n a e. e; lets = λ n a e. e })
statement_extends (statements.Service name key value) d d' e =
    let m = service_made d d' name key value e in
    subst (Extends d) m.1 (record { sources = λ n a e. e; services = keeps_append d.services (m.0 ∷ []); lets = λ n a e. e })
statement_extends (statements.Let name stream) d d' e =
    let m = let_made d d' name stream e in
    subst (Extends d) m.2 (record { sources = λ n a e. e; services = λ n a e. e; lets = keeps_append d.lets (m.0 ∷ []) })
statement_extends (statements.Store name stream mono) d d' e =
    let m = store_made d d' name stream mono e in
    subst (Extends d) m.4 (record { sources = λ n a e. e; services = λ n a e. e; lets = λ n a e. e })

goes_on : {A B : Type 0} (o : Result A CheckError) (f : A → Result B CheckError) (b : B) → go_on o f ≡ Ok b → (a : A) × (o ≡ Ok a) × (f a ≡ Ok b)
goes_on (Ok a) f b e = (a, refl, e)
goes_on (Err error) f b e = cc

at_ok : {A : Type 0} (n : ℕ) (o : Outcome A) (a : A) → at_statement n o ≡ Ok a → o ≡ Ok a
at_ok n (Ok b) a e = cc
at_ok n (Err fault) a e = cc

first_ok : (n : ℕ) (a : Statement) (as' : List Statement) (d c : Declarations) → statements_check n (a ∷ as') d ≡ Ok c
    → (d' : Declarations) × (statement_check d a ≡ Ok d') × (statements_check (n + 1) as' d' ≡ Ok c)
first_ok n a as' d c e =
    let s = goes_on (at_statement n (statement_check d a)) (statements_check (n + 1) as') c e in
    (s.0, at_ok n (statement_check d a) s.0 s.1, s.2)

statements_extend : (n : ℕ) (as' : List Statement) (d c : Declarations) → statements_check n as' d ≡ Ok c → Extends d c
statements_extend n [] d c e = let same : d ≡ c = cc in subst (Extends d) same (extends_self d)
statements_extend n (a ∷ as') d c e =
    let s = first_ok n a as' d c e in
    extends_on d s.0 c (statement_extends a d s.0 s.1) (statements_extend (n + 1) as' s.0 c s.2)

-- ---- lists side by side

abbrev Paired : {A B : Type 0} → (A → B → Type 0) → List A → List B → Type 0
Paired Q [] [] = Unit {0}
Paired Q (a ∷ as') (b ∷ bs) = Q a b × Paired Q as' bs
Paired Q as' bs = ⊥

module _ {A B : Type 0} (Q : A → B → Type 0) where
  paired_more : (as' : List A) (bs : List B) (a : A) (b : B) → Paired Q as' bs → Q a b → Paired Q (as' ++ a ∷ []) (bs ++ b ∷ [])
  paired_more [] [] a b h q = (q, tt)
  paired_more [] (y ∷ bs) a b h q = absurd h
  paired_more (x ∷ as') [] a b h q = absurd h
  paired_more (x ∷ as') (y ∷ bs) a b h q = (h.0, paired_more as' bs a b h.1 q)

paired_at : {A B : Type 0} (Q : A → List B → Type 0) (as' : List A) (lists : List (List B)) (n : ℕ) → Paired Q as' lists → IfSome (slice_get as' n) (λ a. Q a (list_at n lists))
paired_at Q [] lists n h = tt
paired_at Q (a ∷ as') [] n h = absurd h
paired_at Q (a ∷ as') (b ∷ lists) zero h = h.0
paired_at Q (a ∷ as') (b ∷ lists) (suc n) h = paired_at Q as' lists n h.1

sum_more : {A : Type 0} (f : A → ℕ) (xs : List A) (x : A) → sum_by f (xs ++ x ∷ []) ≡ sum_by f xs + f x
sum_more f xs x = omega (arith, sum_by-append f xs (x ∷ []), single)
  where
    single : sum_by f (x ∷ []) ≡ f x
    single = omega arith

abbrev let_cost : Let → Cost
let_cost l = (given l.stream.flow, flow_steps l.stream.flow)

abbrev store_cost : Store → Steps
store_cost s = flow_steps s.flow

module _ (r : Logged) (services : List Rows) where
  -- ---- one let more

  given_more : (done : List (List Value)) (gs : List OfRecord) (g : OfRecord) → lets_given r services done (gs ++ g ∷ []) ≡ lets_given r services done gs ++ g r services (lets_given r services done gs) ∷ []
  given_more done [] g = refl
  given_more done (x ∷ gs) g = given_more (done ++ x r services done ∷ []) gs g

  steps_more : (done : List (List Value)) (ls : List Cost) (l : Cost) → lets_steps r services done (ls ++ l ∷ []) ≡ lets_steps r services done ls + l.1 r services (lets_given r services done (map (λ c. c.0) ls))
  steps_more done [] l = omega arith
  steps_more done (x ∷ ls) l = omega (arith, steps_more (done ++ x.0 r services done ∷ []) ls l)

  -- what lets give
  abbrev of_lets : List Let → List (List Value)
  of_lets ls = lets_given r services [] (map (λ c. c.0) (map let_cost ls))

  abbrev steps_of_lets : List Let → ℕ
  steps_of_lets ls = lets_steps r services [] (map let_cost ls)

  of_lets_more : (ls : List Let) (l : Let) → of_lets (ls ++ l ∷ []) ≡ of_lets ls ++ given l.stream.flow r services (of_lets ls) ∷ []
  of_lets_more ls l =
      ap (λ cs. lets_given r services [] (map (λ (c : Cost). c.0) cs)) (map-append let_cost ls (l ∷ []))
      ∙ (ap (lets_given r services []) (map-append (λ (c : Cost). c.0) (map let_cost ls) (let_cost l ∷ []))
      ∙ given_more [] (map (λ c. c.0) (map let_cost ls)) (given l.stream.flow))

  steps_of_lets_more : (ls : List Let) (l : Let) → steps_of_lets (ls ++ l ∷ []) ≡ steps_of_lets ls + flow_steps l.stream.flow r services (of_lets ls)
  steps_of_lets_more ls l = ap (lets_steps r services []) (map-append let_cost ls (l ∷ [])) ∙ steps_more [] (map let_cost ls) (let_cost l)

  module _ (c : Declarations) (is_record : IsDeclared IsAny c r) (are_rows : AreRowsOf IsAny c services) where
    -- what a let gives is of its type, and no more than its width
    abbrev IsOfLet : Let → List Value → Type 0
    IsOfLet l vs = AllByRecursion (IsValueWith IsAny l.stream.type) vs × (length vs ≤ l.stream.width)

    abbrev Good : Declarations → Type 0
    Good d = Paired IsOfLet d.lets (of_lets d.lets)

    good_lets : (d : Declarations) → Good d → AreLetsOf IsAny d (of_lets d.lets)
    good_lets d h n = paired_at IsOfLet d.lets (of_lets d.lets) n h

    let_good : (d : Declarations) (l : Let) (stream : Stream) → Extends d c → Good d → stream_walk stream d ≡ Ok l.stream → Good (with_let d l)
    let_good d l stream on h e =
        subst (Paired IsOfLet (d.lets ++ l ∷ [])) (sym (of_lets_more d.lets l))
        (paired_more IsOfLet d.lets (of_lets d.lets) l (given l.stream.flow r services (of_lets d.lets)) h
        (stream_sound IsAny any_kept d r services (of_lets d.lets) (declared_before IsAny d c on r is_record) (rows_before IsAny d c on services are_rows) (good_lets d h) stream l.stream e (any_all _)))

    statement_good : (a : Statement) (d d' : Declarations) → Extends d c → Good d → statement_check d a ≡ Ok d' → Good d'
    statement_good (statements.Source name fields) d d' on h e = let m = source_made d d' name fields e in subst Good m.1 h
    statement_good (statements.Service name key value) d d' on h e = let m = service_made d d' name key value e in subst Good m.1 h
    statement_good (statements.Let name stream) d d' on h e = let m = let_made d d' name stream e in subst Good m.2 (let_good d m.0 stream on h m.1)
    statement_good (statements.Store name stream mono) d d' on h e = let m = store_made d d' name stream mono e in subst Good m.4 h

    all_good : (n : ℕ) (as' : List Statement) (d : Declarations) → Good d → statements_check n as' d ≡ Ok c → Good c
    all_good n [] d h e = let same : d ≡ c = cc in subst Good same h
    all_good n (a ∷ as') d h e =
        let s = first_ok n a as' d c e in
        all_good (n + 1) as' s.0 (statement_good a d s.0 (statements_extend n (a ∷ as') d c e) h s.1) s.2

    -- ---- the steps of what is declared, with what all lets give

    module _ (lets : List (List Value)) (are_lets : AreLetsOf IsAny c lets) where
      abbrev steps_of : Declarations → ℕ
      steps_of d = steps_of_lets d.lets + sum_by (λ steps. steps r services lets) (map store_cost d.stores)

      let_within : (d : Declarations) (l : Let) (stream : Stream) → Extends d c → Good d → stream_walk stream d ≡ Ok l.stream → steps_of (with_let d l) ≤ steps_of d + stream_bound stream d
      let_within d l stream on h e =
          omega (
            arith,
            steps_of_lets_more d.lets l,
            stream_bounded d r services (of_lets d.lets) (declared_before IsAny d c on r is_record) (rows_before IsAny d c on services are_rows) (good_lets d h) stream l.stream e,
          )

      store_within : (d : Declarations) (s : Store) (f : TypedFlow) (stream : Stream) → Extends d c → stream_walk stream d ≡ Ok f → s.flow ≡ f.flow → steps_of (with_store d s) ≤ steps_of d + stream_bound stream d
      store_within d s f stream on e same =
          omega (
            arith,
            ap (sum_by (λ (steps : Steps). steps r services lets)) (map-append store_cost d.stores (s ∷ [])),
            sum_more (λ (steps : Steps). steps r services lets) (map store_cost d.stores) (store_cost s),
            ap (λ f. flow_steps f r services lets) same,
            stream_bounded d r services lets (declared_before IsAny d c on r is_record) (rows_before IsAny d c on services are_rows) (lets_before IsAny d c on lets are_lets) stream f e,
          )

      statement_within : (a : Statement) (d d' : Declarations) → Extends d c → Good d → statement_check d a ≡ Ok d' → steps_of d' ≤ steps_of d + statement_bound d a
      statement_within (statements.Source name fields) d d' on h e = let m = source_made d d' name fields e in subst (λ d'. steps_of d' ≤ steps_of d + 0) m.1 (omega arith)
      statement_within (statements.Service name key value) d d' on h e = let m = service_made d d' name key value e in subst (λ d'. steps_of d' ≤ steps_of d + 0) m.1 (omega arith)
      statement_within (statements.Let name stream) d d' on h e =
          let m = let_made d d' name stream e in
          subst (λ d'. steps_of d' ≤ steps_of d + stream_bound stream d) m.2 (let_within d m.0 stream on h m.1)
      statement_within (statements.Store name stream mono) d d' on h e =
          let m = store_made d d' name stream mono e in
          subst (λ d'. steps_of d' ≤ steps_of d + stream_bound stream d) m.4 (store_within d m.0 m.1 stream on m.2 m.3)

      all_within : (n : ℕ) (as' : List Statement) (d : Declarations) → Good d → statements_check n as' d ≡ Ok c → steps_of c ≤ steps_of d + statements_bound as' d
      all_within n [] d h e = let same : d ≡ c = cc in omega (arith, ap steps_of same)
      all_within n (a ∷ as') d h e =
          let s = first_ok n a as' d c e in
          let on = statements_extend n (a ∷ as') d c e in
          omega (arith, statement_within a d s.0 on h s.1, ap (if_ok (statements_bound as')) s.1, all_within (n + 1) as' s.0 (statement_good a d s.0 on h s.1) s.2)

-- what is declared, of a program that is checked
statements_ok : (p : Program) (c : CheckedProgram) → check_of p ≡ Ok c → statements_check 2 p.statements nothing ≡ Ok c.declared
statements_ok p c e =
    let b = goes_on (at_statement 1 (or_mistyped (batching p))) (λ b. go_on (statements_check 2 p.statements nothing) (λ d. Ok (record { program = p; batching = b; declared = d }))) c e in
    let d = goes_on (statements_check 2 p.statements nothing) (λ d. Ok (record { program = p; batching = b.0; declared = d })) c b.2 in
    let whole : CheckedProgram = record { program = p; batching = b.0; declared = d.0 } in
    let is : Ok whole ≡ Ok c = d.2 in
    let same : whole ≡ c = cc in
    d.1 ∙ ap (λ (c : CheckedProgram). Ok c.declared) same

if_weaker : {A : Type 0} (o : Option A) (P Q : A → Type 0) → ((a : A) → P a → Q a) → IfSome o P → IfSome o Q
if_weaker None P Q h is = tt
if_weaker (Some a) P Q h is = h a is

-- the steps of a record are within the bound of the program's text
pub record_bounded : (p : Program) (c : CheckedProgram) → check_of p ≡ Ok c → (services : List Rows) (r : Logged) → IsDeclared IsAny c.declared r → AreRowsOf IsAny c.declared services
    → record_steps (costs_of c) services r ≤ program_bound p
record_bounded p c e services r is_record are_rows =
    let checked = statements_ok p c e in
    let good = all_good r services c.declared is_record are_rows 2 p.statements nothing tt checked in
    let least : record_steps (costs_of c) services r ≤ 0 + program_bound p =
    all_within r services c.declared is_record are_rows (of_lets r services c.declared.lets) (good_lets r services c.declared is_record are_rows c.declared good) 2 p.statements nothing tt checked in
    omega (arith, least)

module _ (P Q : List ℕ → Type 0) (h : (t : List ℕ) → P t → Q t) (d : Declarations) where
  declared_weaker : (r : Logged) → IsDeclared P d r → IsDeclared Q d r
  declared_weaker r = if_weaker (slice_get d.sources r.source) (λ s. IsValueWith P (records s.fields) (fields_of_record r)) (λ s. IsValueWith Q (records s.fields) (fields_of_record r)) (λ s is. value_weaker P Q h (records s.fields) (fields_of_record r) is)

  rows_weaker : (services : List Rows) → AreRowsOf P d services → AreRowsOf Q d services
  rows_weaker services are n = if_weaker (slice_get d.services n) _ _ (λ s. all_rows s (list_at n services)) (are n)
    where
      all_rows : (s : Service) (rows : Rows) → AllByRecursion (λ row. IsValueWith P s.key row.0 × IsValueWith P s.value row.1) rows → AllByRecursion (λ row. IsValueWith Q s.key row.0 × IsValueWith Q s.value row.1) rows
      all_rows s [] are = tt
      all_rows s (row ∷ rows) are = ((value_weaker P Q h s.key row.0 are.0.0, value_weaker P Q h s.value row.1 are.0.1), all_rows s rows are.1)

-- the costs of a program are within its text's bound
pub costs_within : (c : CheckedProgram) → AreWithin (costs_of c) c
costs_within c e services r is_record are_rows =
    record_bounded c.program c e services r (declared_weaker IsUtf8 IsAny (λ t is. tt) c.declared r is_record) (rows_weaker IsUtf8 IsAny (λ t is. tt) c.declared services are_rows)

-- and those of a log within as many times it as there are records
pub log_within : (c : CheckedProgram) (services : List Rows) (log : List Logged) → check_of c.program ≡ Ok c → AllByRecursion (IsDeclared IsUtf8 c.declared) log → AreRowsOf IsUtf8 c.declared services
    → sum_by (record_steps (costs_of c) services) log ≤ length log * program_bound c.program
log_within c services [] e are are_rows = omega arith
log_within c services (r ∷ log) e are are_rows =
    omega (arith, sum_by-cons (record_steps (costs_of c) services) r log, costs_within c e services r are.0 are_rows, log_within c services log e are.1 are_rows, suc-mul (length log) (program_bound c.program))
