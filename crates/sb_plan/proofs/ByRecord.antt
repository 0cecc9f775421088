-- Streams are record by record what they give of each.
use Rattle.std.proofs.Common.{◌≡◌, ℕ, zero, suc, ◌≤◌, Bool, true, false, cond, List, [], ◌∷◌, ◌++◌, map, filter, Option, Some, None, refl, sym, ap, subst, ◌∙◌, append_assoc, arith}
use Rattle.std.specs.Prelude.{nat_lt, ◌==◌, slice_get, option_map}
use Rattle.std.specs.List.{AllByRecursion, flat_map}
use Rattle.std.proofs.lemmas.Bool.Decides.{nat_tests}
use Rattle.std.proofs.lemmas.List.{map-append}
use Rattle.std.proofs.lemmas.Option.{slice_get-map}
use Rattle.std.proofs.lemmas.List.Elements.{filter-append}
use Rattle.std.proofs.lemmas.List.Concat.{flat_map-append}
use Rattle.sb_laws.proofs.Positions.{ap_both}
use Rattle.sb_types.specs.Value.{Value}
use Rattle.sb_terms.specs.declared.flow.Flow.{Flow}
use Rattle.sb_terms.specs.declared.flow.Flow.TheOpen as layer
use Rattle.sb_terms.specs.declared.flow.Flow.TheOpen.{Flow-F}
use Rattle.sb_terms.specs.declared.flow.Flow.TheFolds.{fold-roll-Flow, ind-Flow, map-Flow}
use Rattle.sb_terms.specs.declared.flow.Flow.TheViews.{roll-Flow}
use Rattle.sb_check.specs.Declarations.{Let, Store}
use Rattle.sb_check.specs.Log.{HavePlaces, Logged}
use Rattle.sb_check.specs.Programs.{CheckedProgram}
use Rattle.sb_kind.specs.declared.agg.Agg.{Agg}
use Rattle.sb_service.specs.Rows.{Rows}
use Rattle.sb_meaning.specs.Emissions.{emission, let_lists, emissions_into}
use Rattle.sb_meaning.specs.Expression.{ev}
use Rattle.sb_meaning.specs.Operations.{elements_in}
use Rattle.sb_meaning.specs.Streams.{Placed, Meaning, fields_of_record, records, is_true, filtered, flat_mapped, join_with, list_at, before, behind, merged, flow_layer, stream_of, lets_of}
use Rattle.sb_plan.specs.Emitted.{Emission, by_text, emitted}
use Rattle.sb_plan.specs.Given.{OfRecord, of_source, given_layer, given, lets_given, feeding_of, planned, let_values, fed, fed_by, fed_at}

-- items at a position
abbrev pub placed : {X : Type 0} → ℕ → List X → List (ℕ × X)
placed p = map (λ x. (p, x))

-- what is made of each record, at its position
abbrev pub by_record : {X : Type 0} → (Logged → List X) → List Logged → List (ℕ × X)
by_record F [] = []
by_record F (r ∷ log) = placed r.position (F r) ++ by_record F log

module _ {X : Type 0} where
  placed_filter : (passes : X → Bool) (p : ℕ) (xs : List X) → filter (λ x. passes x.1) (placed p xs) ≡ placed p (filter passes xs)
  placed_filter passes p [] = refl
  placed_filter passes p (x ∷ xs) = elim (passes x) as (λ b. cond b ((p, x) ∷ filter (λ (y : ℕ × X). passes y.1) (placed p xs)) (filter (λ (y : ℕ × X). passes y.1) (placed p xs)) ≡ placed p (cond b (x ∷ filter passes xs) (filter passes xs))) [
    | true ↦ ap (λ l. (p, x) ∷ l) (placed_filter passes p xs)
    | false ↦ placed_filter passes p xs
  ]

  record_filter : (passes : X → Bool) (F : Logged → List X) (log : List Logged) → filter (λ x. passes x.1) (by_record F log) ≡ by_record (λ r. filter passes (F r)) log
  record_filter passes F [] = refl
  record_filter passes F (r ∷ log) =
      filter-append (λ (x : ℕ × X). passes x.1) (placed r.position (F r)) (by_record F log) ∙ ap_both ◌++◌ (placed_filter passes r.position (F r)) (record_filter passes F log)

module _ {X Y : Type 0} where
  -- ---- each item in its place

  placed_map : (g : X → Y) (p : ℕ) (xs : List X) → map (λ x. (x.0, g x.1)) (placed p xs) ≡ placed p (map g xs)
  placed_map g p [] = refl
  placed_map g p (x ∷ xs) = ap (λ l. (p, g x) ∷ l) (placed_map g p xs)

  pub record_map : (g : X → Y) (F : Logged → List X) (log : List Logged) → map (λ x. (x.0, g x.1)) (by_record F log) ≡ by_record (λ r. map g (F r)) log
  record_map g F [] = refl
  record_map g F (r ∷ log) =
      map-append (λ (x : ℕ × X). (x.0, g x.1)) (placed r.position (F r)) (by_record F log) ∙ ap_both ◌++◌ (placed_map g r.position (F r)) (record_map g F log)

  placed_flat : (g : X → List Y) (p : ℕ) (xs : List X) → flat_map (λ x. placed x.0 (g x.1)) (placed p xs) ≡ placed p (flat_map g xs)
  placed_flat g p [] = refl
  placed_flat g p (x ∷ xs) = ap (λ l. placed p (g x) ++ l) (placed_flat g p xs) ∙ sym (map-append (λ (y : Y). (p, y)) (g x) (flat_map g xs))

  record_flat : (g : X → List Y) (F : Logged → List X) (log : List Logged) → flat_map (λ x. placed x.0 (g x.1)) (by_record F log) ≡ by_record (λ r. flat_map g (F r)) log
  record_flat g F [] = refl
  record_flat g F (r ∷ log) =
      flat_map-append (λ (x : ℕ × X). placed x.0 (g x.1)) (placed r.position (F r)) (by_record F log) ∙ ap_both ◌++◌ (placed_flat g r.position (F r)) (record_flat g F log)

-- nothing of any record
record_none : (X : Type 0) (log : List Logged) → [] ≡ by_record {X = X} (λ r. []) log
record_none X [] = refl
record_none X (r ∷ log) = record_none X log

-- what is the same of each record
pub record_same : {X : Type 0} (F G : Logged → List X) (log : List Logged) → ((r : Logged) → F r ≡ G r) → by_record F log ≡ by_record G log
record_same F G [] h = refl
record_same F G (r ∷ log) h = ap_both (λ xs l. placed r.position xs ++ l) (h r) (record_same F G log h)

-- ---- sources

source_by_record : (n : ℕ) (log : List Logged) → records n log ≡ by_record (of_source n) log
source_by_record n [] = refl
source_by_record n (r ∷ log) = elim (r.source == n) as (λ b. map (λ (x : Logged). (x.position, fields_of_record x)) (cond b (r ∷ filter (λ x. x.source == n) log) (filter (λ x. x.source == n) log))
    ≡ placed r.position (cond b (fields_of_record r ∷ []) []) ++ by_record (of_source n) log) [
      | true ↦ ap (λ l. (r.position, fields_of_record r) ∷ l) (source_by_record n log)
      | false ↦ source_by_record n log
    ]

-- ---- merges

abbrev AreFrom : ℕ → List Placed → Type 0
AreFrom p = AllByRecursion (λ x. p ≤ x.0)

not_before : (p q : ℕ) → p ≤ q → nat_lt q p ≡ false
not_before p q h = grind (arith, nat_tests, h)

is_before : (p q : ℕ) → suc p ≤ q → nat_lt p q ≡ true
is_before p q h = grind (arith, nat_tests, h)

none_before : (p : ℕ) (ys : List Placed) → AreFrom p ys → before p ys ≡ []
none_before p [] h = refl
none_before p (y ∷ ys) h = ap (λ b. cond b (y ∷ before p ys) []) (not_before p y.0 h.0)

all_behind : (p : ℕ) (ys : List Placed) → AreFrom p ys → behind p ys ≡ ys
all_behind p [] h = refl
all_behind p (y ∷ ys) h = ap (λ b. cond b (behind p ys) (y ∷ ys)) (not_before p y.0 h.0)

-- left values come first where all on the right are from their position on
left_first : (p : ℕ) (vs : List Value) (xs ys : List Placed) → AreFrom p ys → merged (placed p vs ++ xs) ys ≡ placed p vs ++ merged xs ys
left_first p [] xs ys h = refl
left_first p (v ∷ vs) xs ys h =
    ap_both (λ b l. b ++ (p, v) ∷ merged (placed p vs ++ xs) l) (none_before p ys h) (all_behind p ys h) ∙ ap (λ l. (p, v) ∷ l) (left_first p vs xs ys h)

before_placed : (p q : ℕ) (vs : List Value) (ys : List Placed) → suc p ≤ q → before q (placed p vs ++ ys) ≡ placed p vs ++ before q ys
before_placed p q [] ys h = refl
before_placed p q (v ∷ vs) ys h = ap (λ b. cond b ((p, v) ∷ before q (placed p vs ++ ys)) []) (is_before p q h) ∙ ap (λ l. (p, v) ∷ l) (before_placed p q vs ys h)

behind_placed : (p q : ℕ) (vs : List Value) (ys : List Placed) → suc p ≤ q → behind q (placed p vs ++ ys) ≡ behind q ys
behind_placed p q [] ys h = refl
behind_placed p q (v ∷ vs) ys h = ap (λ b. cond b (behind q (placed p vs ++ ys)) ((p, v) ∷ (placed p vs ++ ys))) (is_before p q h) ∙ behind_placed p q vs ys h

-- right values come before left ones of later positions
right_before : (p : ℕ) (vs : List Value) (xs ys : List Placed) → AreFrom (suc p) xs → merged xs (placed p vs ++ ys) ≡ placed p vs ++ merged xs ys
right_before p vs [] ys h = refl
right_before p vs (x ∷ xs) ys h =
    ap_both (λ b l. b ++ x ∷ merged xs l) (before_placed p x.0 vs ys h.0) (behind_placed p x.0 vs ys h.0) ∙ append_assoc (placed p vs) (before x.0 ys) (x ∷ merged xs (behind x.0 ys))

placed_from : (p q : ℕ) (vs : List Value) (ys : List Placed) → p ≤ q → AreFrom p ys → AreFrom p (placed q vs ++ ys)
placed_from p q [] ys le h = h
placed_from p q (v ∷ vs) ys le h = (le, placed_from p q vs ys le h)

-- what is made of records stands from the first position on
record_from : (F : Logged → List Value) (p i : ℕ) (log : List Logged) → p ≤ i → HavePlaces i log → AreFrom p (by_record F log)
record_from F p i [] le h = tt
record_from F p i (r ∷ log) le h = placed_from p r.position (F r) (by_record F log) (omega (arith, le, h.0)) (record_from F p (suc i) log (omega (arith, le)) h.1)

merge_by_record : (F G : Logged → List Value) (i : ℕ) (log : List Logged) → HavePlaces i log → merged (by_record F log) (by_record G log) ≡ by_record (λ r. F r ++ G r) log
merge_by_record F G i [] h = refl
merge_by_record F G i (r ∷ log) h =
    left_first r.position (F r) (by_record F log) (by_record G (r ∷ log)) (record_from G r.position i (r ∷ log) (omega (arith, h.0)) h)
    ∙ (ap (λ l. placed r.position (F r) ++ l) (right_before r.position (G r) (by_record F log) (by_record G log) (record_from F (suc r.position) (suc i) log (omega (arith, h.0)) h.1)
    ∙ ap (λ l. placed r.position (G r) ++ l) (merge_by_record F G (suc i) log h.1))
    ∙ (sym (append_assoc (placed r.position (F r)) (placed r.position (G r)) (by_record (λ r. F r ++ G r) log))
    ∙ ap (λ l. l ++ by_record (λ r. F r ++ G r) log) (sym (map-append (λ (x : Value). (r.position, x)) (F r) (G r)))))

-- ---- streams

module _ (log : List Logged) (services : List Rows) (places : HavePlaces 0 log) where
  -- the lists of lets of which each gives so much of a record
  abbrev lists : List (Logged → List Value) → List (List Placed)
  lists Fs = map (λ F. by_record F log) Fs

  abbrev at_record : List (Logged → List Value) → Logged → List (List Value)
  at_record Fs r = map (λ F. F r) Fs

  let_by_record : (n : ℕ) (Fs : List (Logged → List Value)) → list_at n (lists Fs) ≡ by_record (λ r. list_at n (at_record Fs r)) log
  let_by_record n [] = record_none Value log
  let_by_record zero (F ∷ Fs) = refl
  let_by_record (suc n) (F ∷ Fs) = let_by_record n Fs

  abbrev IsByRecord : Flow → Type 0
  IsByRecord f = (Fs : List (Logged → List Value)) → stream_of f log services (lists Fs) ≡ by_record (λ r. given f r services (at_record Fs r)) log

  by_layer : (l : Flow-F Flow) (Fs : List (Logged → List Value))
      → flow_layer (map-Flow Flow Meaning stream_of l) log services (lists Fs) ≡ by_record (λ r. given_layer (map-Flow Flow OfRecord given l) r services (at_record Fs r)) log
      → stream_of (roll-Flow l) log services (lists Fs) ≡ by_record (λ r. given (roll-Flow l) r services (at_record Fs r)) log
  by_layer l Fs h =
      ap (λ (m : Meaning). m log services (lists Fs)) (fold-roll-Flow Meaning flow_layer l)
      ∙ (h ∙ record_same _ _ log (λ r. ap (λ (m : OfRecord). m r services (at_record Fs r)) (sym (fold-roll-Flow OfRecord given_layer l))))

  layer_by_record : (y : Flow-F ((f : Flow) × IsByRecord f)) → IsByRecord (roll-Flow (map-Flow ((f : Flow) × IsByRecord f) Flow (λ e. e.0) y))
  layer_by_record (layer.Source n) Fs = by_layer (layer.Source n) Fs (source_by_record n log)
  layer_by_record (layer.Let n) Fs = by_layer (layer.Let n) Fs (let_by_record n Fs)
  layer_by_record (layer.Merge a b) Fs =
      by_layer (layer.Merge a.0 b.0) Fs (ap_both merged (a.1 Fs) (b.1 Fs) ∙ merge_by_record (λ r. given a.0 r services (at_record Fs r)) (λ r. given b.0 r services (at_record Fs r)) 0 log places)
  layer_by_record (layer.Map a e) Fs = by_layer (layer.Map a.0 e) Fs (ap (map (λ x. (x.0, ev e x.1))) (a.1 Fs) ∙ record_map (ev e) (λ r. given a.0 r services (at_record Fs r)) log)
  layer_by_record (layer.Filter a e) Fs = by_layer (layer.Filter a.0 e) Fs (ap (filtered e) (a.1 Fs) ∙ record_filter (is_true e) (λ r. given a.0 r services (at_record Fs r)) log)
  layer_by_record (layer.FlatMap a e) Fs =
      by_layer (layer.FlatMap a.0 e) Fs (ap (flat_mapped e) (a.1 Fs) ∙ record_flat (λ v. elements_in (ev e v)) (λ r. given a.0 r services (at_record Fs r)) log)
  layer_by_record (layer.Join a n) Fs =
      by_layer (layer.Join a.0 n) Fs (ap (map (λ x. (x.0, join_with (list_at n services) x.1))) (a.1 Fs) ∙ record_map (join_with (list_at n services)) (λ r. given a.0 r services (at_record Fs r)) log)

  stream_by_record : (f : Flow) → IsByRecord f
  stream_by_record = ind-Flow IsByRecord (λ x y is. subst (λ z. IsByRecord (roll-Flow z)) is (layer_by_record y))

  -- what each let gives, behind those that are done
  abbrev all_given : List (Logged → List Value) → List OfRecord → List (Logged → List Value)
  all_given Fs [] = Fs
  all_given Fs (g ∷ gs) = all_given (Fs ++ (λ r. g r services (at_record Fs r)) ∷ []) gs

  lets_listed : (Fs : List (Logged → List Value)) (ls : List Let) → lets_of log services (lists Fs) (map (λ l. l.stream.flow) ls) ≡ lists (all_given Fs (map (λ l. given l.stream.flow) ls))
  lets_listed Fs [] = refl
  lets_listed Fs (l ∷ ls) =
      let next : List (Logged → List Value) = (λ r. given l.stream.flow r services (at_record Fs r)) ∷ [] in
      ap (λ done. lets_of log services done (map (λ (x : Let). x.stream.flow) ls)) (ap (λ xs. lists Fs ++ xs ∷ []) (stream_by_record l.stream.flow Fs) ∙ sym (map-append (λ (F : Logged → List Value). by_record F log) Fs next))
      ∙ lets_listed (Fs ++ next) ls

  lets_at_record : (r : Logged) (Fs : List (Logged → List Value)) (gs : List OfRecord) → lets_given r services (at_record Fs r) gs ≡ at_record (all_given Fs gs) r
  lets_at_record r Fs [] = refl
  lets_at_record r Fs (g ∷ gs) =
      let next : List (Logged → List Value) = (λ q. g q services (at_record Fs q)) ∷ [] in
      ap (λ done. lets_given r services done gs) (sym (map-append (λ (F : Logged → List Value). F r) Fs next)) ∙ lets_at_record r (Fs ++ next) gs

  -- a stream over a program's lets
  program_stream : (c : CheckedProgram) (f : Flow) → stream_of f log services (let_lists c log services) ≡ by_record (λ r. given f r services (let_values (planned c) r services)) log
  program_stream c f =
      let gs = (planned c).lets in
      ap (stream_of f log services) (lets_listed [] c.declared.lets)
      ∙ (stream_by_record f (all_given [] gs) ∙ record_same _ _ log (λ r. ap (given f r services) (sym (lets_at_record r [] gs))))

-- an emission of what a record adds
abbrev pub emission_at : ℕ × (List ℕ × Agg) → Emission Agg
emission_at x = record { position = x.0; key = x.1.0; value = x.1.1 }

as_fed : (s : Store) (xs : List Placed) → map by_text (map (emission s.monoid) xs) ≡ map emission_at (map (λ x. (x.0, fed s.monoid x.1)) xs)
as_fed s [] = refl
as_fed s (x ∷ xs) = ap (λ l. by_text (emission s.monoid x) ∷ l) (as_fed s xs)

-- what is emitted into a store is record by record what each adds to it
pub emitted_by_record : (c : CheckedProgram) (log : List Logged) (services : List Rows) (store : ℕ) → HavePlaces 0 log → emitted c log services store ≡ map emission_at (by_record (fed_at (planned c) services store) log)
emitted_by_record c log services store places =
    of_store (slice_get c.declared.stores store)
    ∙ ap (map emission_at) (record_same _ _ log (λ r. ap (λ f. fed_by f r services (let_values (planned c) r services)) (sym (slice_get-map feeding_of c.declared.stores store))))
  where
    of_store : (s : Option Store) → map by_text (emissions_into c log services s) ≡ map emission_at (by_record (λ r. fed_by (option_map feeding_of s) r services (let_values (planned c) r services)) log)
    of_store None = ap (map emission_at) (record_none (List ℕ × Agg) log)
    of_store (Some s) =
        as_fed s (stream_of s.flow log services (let_lists c log services))
        ∙ ap (λ xs. map emission_at xs) (ap (map (λ x. (x.0, fed s.monoid x.1))) (program_stream log services places c s.flow) ∙ record_map (fed s.monoid) (λ r. given s.flow r services (let_values (planned c) r services)) log)
