-- What paths give, stage by stage.
use Rattle.std.proofs.Common.{◌≡◌, ℕ, Bool, true, false, cond, List, [], ◌∷◌, ◌++◌, length, map, filter, refl, sym, ap, ◌∙◌, append_assoc, append-nil, arith}
use Rattle.std.specs.List.{flat_map}
use Rattle.std.specs.Borrow.{Bor}
use Rattle.std.proofs.lemmas.List.{map-append}
use Rattle.std.proofs.lemmas.List.Concat.{flat_map-append, flat_map_single}
use Rattle.sb_laws.proofs.Positions.{ap_both}
use Rattle.sb_types.specs.Value.{Value, text, pair, items_of, values_of}
use Rattle.sb_types.specs.ValView.{value_of, val_of}
use Rattle.sb_types.proofs.ValBack.{value_of-val_of}
use Rattle.sb_terms.specs.declared.flow.Flow.{Flow}
use Rattle.sb_terms.specs.declared.flow.Flow.TheOpen as flow_layer
use Rattle.sb_terms.specs.declared.flow.Flow.TheFolds.{fold-roll-Flow}
use Rattle.sb_terms.specs.declared.flow.Flow.TheVariants as flow
use Rattle.sb_terms.specs.declared.term.Single.TheVariants as single
use Rattle.sb_terms.specs.declared.term.Term.{Term}
use Rattle.sb_terms.specs.declared.term.Term.TheOpen as term_layer
use Rattle.sb_terms.specs.declared.term.Term.TheFolds.{fold-roll-Term}
use Rattle.sb_terms.specs.declared.term.Term.TheVariants as term
use Rattle.sb_check.specs.Log.{Logged}
use Rattle.sb_kind.specs.Monoids.{Monoid}
use Rattle.sb_service.specs.Rows.{Rows}
use Rattle.sb_meaning.specs.Expression.{ev, ev_layer}
use Rattle.sb_meaning.specs.Operations.{bytes_in, elements_in}
use Rattle.sb_meaning.specs.Streams.{is_true, join_with, list_at}
use Rattle.sb_meaning.specs.Words.{words_of}
use Rattle.sb_meaning.proofs.Views.{ev-List}
use Rattle.sb_plan.specs.Feeding.{made_by}
use Rattle.sb_plan.specs.Given.{OfRecord, fed, given, given_layer}
use Rattle.sb_plan.specs.declared.making.Ending.TheVariants as ending
use Rattle.sb_plan.specs.Paths.{stage_gives, chain_gives, root_gives, path_gives, gives, staged}
use Rattle.sb_plan.specs.declared.paths.Path.{Path}
use Rattle.sb_plan.specs.declared.paths.Root.{Root}
use Rattle.sb_plan.specs.declared.paths.Stage.{Stage}
use Rattle.sb_plan.specs.declared.paths.Stage.TheVariants as stage

flat_same : {X Y : Type 0} (f g : X → List Y) (xs : List X) → ((x : X) → f x ≡ g x) → flat_map f xs ≡ flat_map g xs
flat_same f g [] h = refl
flat_same f g (x ∷ xs) h = ap_both ◌++◌ (h x) (flat_same f g xs h)

flat_twice : {X Y Z : Type 0} (g : Y → List Z) (f : X → List Y) (xs : List X) → flat_map g (flat_map f xs) ≡ flat_map (λ x. flat_map g (f x)) xs
flat_twice g f [] = refl
flat_twice g f (x ∷ xs) = flat_map-append g (f x) (flat_map f xs) ∙ ap (λ l. flat_map g (f x) ++ l) (flat_twice g f xs)

flat_ones : {X : Type 0} (xs : List X) → flat_map (λ x. x ∷ []) xs ≡ xs
flat_ones [] = refl
flat_ones (x ∷ xs) = ap (λ l. x ∷ l) (flat_ones xs)

-- a chain with a stage behind it
chain_last : (services : List Rows) (s : Stage) (stages : List Stage) (v : Value) → chain_gives services (stages ++ s ∷ []) v ≡ flat_map (stage_gives services s) (chain_gives services stages v)
chain_last services s [] v = flat_ones (stage_gives services s v) ∙ sym (append-nil (stage_gives services s v))
chain_last services s (t ∷ stages) v =
    flat_same (chain_gives services (stages ++ s ∷ [])) (λ w. flat_map (stage_gives services s) (chain_gives services stages w)) (stage_gives services t v) (λ w. chain_last services s stages w)
    ∙ sym (flat_twice (stage_gives services s) (chain_gives services stages) (stage_gives services t v))

module _ (r : Logged) (services : List Rows) (lets : List (List Value)) where
  path_last : (s : Stage) (before after : Path) → after.root ≡ before.root → after.stages.items ≡ before.stages.items ++ s ∷ [] → path_gives r services lets after ≡ flat_map (stage_gives services s) (path_gives r services lets before)
  path_last s before after root stages =
      ap_both (λ ss q. flat_map (chain_gives services ss) (root_gives r lets q)) stages root
      ∙ (flat_same (chain_gives services (before.stages.items ++ s ∷ [])) (λ v. flat_map (stage_gives services s) (chain_gives services before.stages.items v)) (root_gives r lets before.root) (chain_last services s before.stages.items)
      ∙ sym (flat_twice (stage_gives services s) (chain_gives services before.stages.items) (root_gives r lets before.root)))

  -- one more path with its stage
  one_staged : (s : Stage) (done rest : List Path) (before after : Path) → after.root ≡ before.root → after.stages.items ≡ before.stages.items ++ s ∷ []
      → gives (done ++ after ∷ []) r services lets ++ staged s (gives rest) r services lets ≡ gives done r services lets ++ staged s (gives (before ∷ rest)) r services lets
  one_staged s done rest before after root stages =
      ap (λ l. l ++ staged s (gives rest) r services lets) (flat_map-append (path_gives r services lets) done (after ∷ []) ∙ ap (λ l. gives done r services lets ++ l) (append-nil (path_gives r services lets after)))
      ∙ (append_assoc (gives done r services lets) (path_gives r services lets after) (staged s (gives rest) r services lets)
      ∙ ap (λ l. gives done r services lets ++ l)
      (ap (λ l. l ++ staged s (gives rest) r services lets) (path_last s before after root stages) ∙ sym (flat_map-append (stage_gives services s) (path_gives r services lets before) (gives rest r services lets))))

-- paths being staged: those that are done give, with those that are left, what all do
abbrev pub AreStaged : Stage → List Path → List Path → List Path → Type 0
AreStaged s all done rest = (r : Logged) (services : List Rows) (lets : List (List Value)) → gives done r services lets ++ staged s (gives rest) r services lets ≡ staged s (gives all) r services lets

pub next_staged : (s : Stage) (all done rest : List Path) (before after : Path) → after.root ≡ before.root → after.stages.items ≡ before.stages.items ++ s ∷ [] → AreStaged s all done (before ∷ rest) → AreStaged s all (done ++ after ∷ []) rest
next_staged s all done rest before after root stages h r services lets = one_staged r services lets s done rest before after root stages ∙ h r services lets

pub all_staged : (s : Stage) (all done : List Path) → AreStaged s all done [] → gives done ≡ staged s (gives all)
all_staged s all done h = λ i r services lets. (sym (append-nil (gives done r services lets)) ∙ h r services lets) i

pub nothing_left : {X : Type 0} (xs : List X) → length xs ≡ 0 → xs ≡ []
nothing_left [] e = refl
nothing_left (x ∷ xs) e = absurd (omega (arith, e))

-- ---- streams

pub gives_root : (q : Root) (path : Path) → path.root ≡ q → path.stages.items ≡ [] → gives (path ∷ []) ≡ (λ r services lets. root_gives r lets q)
gives_root q path root stages = λ i r services lets. (
    append-nil (path_gives r services lets path) ∙ (ap_both (λ ss x. flat_map (chain_gives services ss) (root_gives r lets x)) stages root ∙ flat_ones (root_gives r lets q))) i

pub gives_both : (left right : List Path) → gives (left ++ right) ≡ (λ r services lets. gives left r services lets ++ gives right r services lets)
gives_both left right = λ i r services lets. flat_map-append (path_gives r services lets) left right i

pub map_staged : (e : Bor Term) (g : OfRecord) → staged (stage.Map e) g ≡ (λ r services lets. map (ev e.now) (g r services lets))
map_staged e g = λ i r services lets. flat_map_single (ev e.now) (g r services lets) i

filter_flat : (passes : Value → Bool) (vs : List Value) → flat_map (λ v. cond (passes v) (v ∷ []) []) vs ≡ filter passes vs
filter_flat passes [] = refl
filter_flat passes (v ∷ vs) = elim (passes v) as (λ b. cond b (v ∷ []) [] ++ flat_map (λ w. cond (passes w) (w ∷ []) []) vs ≡ cond b (v ∷ filter passes vs) (filter passes vs)) [
  | true ↦ ap (λ l. v ∷ l) (filter_flat passes vs)
  | false ↦ filter_flat passes vs
]

pub filter_staged : (e : Bor Term) (g : OfRecord) → staged (stage.Filter e) g ≡ (λ r services lets. filter (is_true e.now) (g r services lets))
filter_staged e g = λ i r services lets. filter_flat (is_true e.now) (g r services lets) i

pub flat_map_staged : (e : Bor Term) (g : OfRecord) → staged (stage.FlatMap e) g ≡ (λ r services lets. flat_map (λ v. elements_in (ev e.now v)) (g r services lets))
flat_map_staged e g = refl

pub join_staged : (n : ℕ) (g : OfRecord) → staged (stage.Join n) g ≡ (λ r services lets. map (join_with (list_at n services)) (g r services lets))
join_staged n g = λ i r services lets. flat_map_single (join_with (list_at n services)) (g r services lets) i

-- ---- a stage more in front

module _ (services : List Rows) (stages : List Stage) (v : Value) where
  pub chain_map : (e : Bor Term) → chain_gives services (stage.Map e ∷ stages) v ≡ chain_gives services stages (ev e.now v)
  chain_map e = append-nil (chain_gives services stages (ev e.now v))

  pub chain_kept : (e : Bor Term) → is_true e.now v ≡ true → chain_gives services (stage.Filter e ∷ stages) v ≡ chain_gives services stages v
  chain_kept e is = ap (λ b. flat_map (chain_gives services stages) (cond b (v ∷ []) [])) is ∙ append-nil (chain_gives services stages v)

  pub chain_dropped : (e : Bor Term) → is_true e.now v ≡ false → chain_gives services (stage.Filter e ∷ stages) v ≡ []
  chain_dropped e is = ap (λ b. flat_map (chain_gives services stages) (cond b (v ∷ []) [])) is

  pub chain_join : (n : ℕ) → chain_gives services (stage.Join n ∷ stages) v ≡ chain_gives services stages (join_with (list_at n services) v)
  chain_join n = append-nil (chain_gives services stages (join_with (list_at n services) v))

-- ---- what comes out of stages, as it is made

module _ {M X : Type 0} (made : Value → M) where
  map_flat : (f : X → List Value) (vs : List X) → map made (flat_map f vs) ≡ flat_map (λ v. map made (f v)) vs
  map_flat f [] = refl
  map_flat f (v ∷ vs) = map-append made (f v) (flat_map f vs) ∙ ap (λ l. map made (f v) ++ l) (map_flat f vs)

  -- one more value is through
  pub one_through : (f : X → List Value) (out done : List M) (v : X) (vs : List X) → out ≡ done ++ map made (f v) → out ++ map made (flat_map f vs) ≡ done ++ map made (flat_map f (v ∷ vs))
  one_through f out done v vs e =
      ap (λ l. l ++ map made (flat_map f vs)) e
      ∙ (append_assoc done (map made (f v)) (map made (flat_map f vs)) ∙ ap (λ l. done ++ l) (sym (map-append made (f v) (flat_map f vs))))

-- ---- layers of streams and of expressions

pub given_map : (before : Flow) (e : Term) → given (flow.Map before e) ≡ (λ r services lets. map (ev e) (given before r services lets))
given_map before e = ap given (sym (flow.rolls-Map before e)) ∙ fold-roll-Flow OfRecord given_layer (flow_layer.Map before e)

-- the elements of each list
abbrev pub flat_by : Term → OfRecord → OfRecord
flat_by e g r services lets = flat_map (λ v. elements_in (ev e v)) (g r services lets)

pub given_flat_map : (before : Flow) (e : Term) → given (flow.FlatMap before e) ≡ flat_by e (given before)
given_flat_map before e = ap given (sym (flow.rolls-FlatMap before e)) ∙ fold-roll-Flow OfRecord given_layer (flow_layer.FlatMap before e)

-- an expression that makes a pair feeds what the pair does
pub split_fed : (m : Monoid) (by : Term) (key value : Bor Term) → ((v : Value) → ev by v ≡ pair (ev key.now v) (ev value.now v)) → (vs : List Value) → map (fed m) (map (ev by) vs) ≡ map (made_by (ending.Split key value) m) vs
split_fed m by key value is [] = refl
split_fed m by key value is (v ∷ vs) = ap_both ◌∷◌ (ap (fed m) (is v)) (split_fed m by key value is vs)

pub values_back : (vs : List Value) → map value_of (map val_of vs) ≡ vs
values_back [] = refl
values_back (v ∷ vs) = ap_both ◌∷◌ (value_of-val_of v) (values_back vs)

items_back : (vs : List Value) → items_of (values_of vs) ≡ vs
items_back [] = refl
items_back (v ∷ vs) = ap (λ rest. v ∷ rest) (items_back vs)

-- the elements of the words of a text, and of a list in brackets
pub ev_words : (most : ℕ) (part : Term) (v : Value) → elements_in (ev (term.One (single.Words most) part) v) ≡ map text (words_of most (bytes_in (ev part v)))
ev_words most part v =
    ap (λ f. elements_in (f v)) (ap ev (sym (term.rolls-One (single.Words most) part)) ∙ fold-roll-Term (Value → Value) ev_layer (term_layer.One (single.Words most) part)) ∙ items_back (map text (words_of most (bytes_in (ev part v))))

each_at : (v : Value) (parts : List Term) → map (λ f. f v) (map ev parts) ≡ map (λ e. ev e v) parts
each_at v [] = refl
each_at v (e ∷ parts) = ap (λ rest. ev e v ∷ rest) (each_at v parts)

pub ev_parts : (parts : List Term) (v : Value) → elements_in (ev (term.List parts) v) ≡ map (λ e. ev e v) parts
ev_parts parts v = ap elements_in (ev-List parts v) ∙ (items_back (map (λ f. f v) (map ev parts)) ∙ each_at v parts)
