-- Nodes have values of their types where their parts have.
use Rattle.std.proofs.Common.{◌≡◌, ◌∙◌, ℕ, pos, inl, Bool, true, false, cond, List, [], ◌∷◌, ◌++◌, map, Option, Some, None, refl, sym, ap, subst, arith}
use Rattle.std.specs.Prelude.{Ok, Err, nat_lt}
use Rattle.std.specs.List.{AllByRecursion, flat_map}
use Rattle.sb_types.specs.Value.{Value, list, end, values_of}
use Rattle.sb_types.specs.ValueType.{ValueType, ints, texts, truths, options, lists}
use Rattle.sb_types.specs.ValView.{value_of}
use Rattle.sb_types.specs.declared.values.Val.{Val}
use Rattle.sb_types.specs.declared.values.Val.TheVariants as val
use Rattle.sb_types.proofs.ValViews.{value_of-Int, value_of-Text, value_of-Bool, value_of-None, value_of-List}
use Rattle.sb_terms.specs.declared.fault.Fault.{Fault}
use Rattle.sb_terms.specs.declared.fault.Fault.TheVariants.{TooLarge, TooWide, Mistyped}
use Rattle.sb_terms.specs.declared.term.Single.{Single}
use Rattle.sb_terms.specs.declared.term.Single.TheVariants as single
use Rattle.sb_terms.specs.declared.term.Double.{Double}
use Rattle.sb_terms.specs.declared.term.Term.{Term}
use Rattle.sb_terms.specs.declared.term.Term.TheVariants as term
use Rattle.sb_terms.specs.Outcome.{Outcome, and_then, or_mistyped}
use Rattle.sb_terms.specs.Nodes.{TypedTerm, sized, node, one_node, two_node, if_node, list_node, constant_node, int_node, field_node, is_number}
use Rattle.sb_terms.specs.Sizes.{nodes, leaves, most_nodes, most_leaves}
use Rattle.sb_terms.specs.Tables.{one_type, two_type, if_type, list_type, place_in}
use Rattle.sb_meaning.specs.Expression.{ev}
use Rattle.sb_meaning.specs.Operations.{truth_in, bytes_in}
use Rattle.sb_meaning.specs.Shaped.{IsValueWith}
use Rattle.sb_meaning.specs.Texts.{texts_in}
use Rattle.sb_meaning.proofs.NumberTypes.{number_fits}
use Rattle.sb_meaning.proofs.OperationTypes.{KeepsTexts, HasDivisor, one_is, two_is, if_is, list_is}
use Rattle.sb_meaning.proofs.TermViews.{ev-It, ev-Constant, ev-One, ev-Two, ev-If, ev-Listed, texts-Constant, texts-One, texts-Two, texts-If, texts-Listed}

-- ---- outcomes without a fault

pub then_ok : {A B : Type 0} (o : Outcome A) (f : A → Outcome B) (b : B) → and_then o f ≡ Ok b → (a : A) × (o ≡ Ok a) × (f a ≡ Ok b)
then_ok (Ok a) f b e = (a, refl, e)
then_ok (Err fault) f b e = cc

pub no_fault : {A : Type 0} (fault : Fault) (a : A) → Err fault ≡ Ok a → ⊥
no_fault fault a e = cc

pub typed_ok : {A : Type 0} (o : Option A) (a : A) → or_mistyped o ≡ Ok a → o ≡ Some a
typed_ok (Some b) a e = cc
typed_ok None a e = cc

abbrev pub typed : Term → ValueType → TypedTerm
typed e t = record { term = e; type = t }

pub sized_ok : (e : Term) (t : ValueType) (x : TypedTerm) → sized e t ≡ Ok x → typed e t ≡ x
unfolding sized
sized_ok e t x = elim (nat_lt most_nodes (nodes t)) as (λ b. cond b (Err TooLarge) (cond (nat_lt most_leaves (leaves t)) (Err TooWide) (Ok (typed e t))) ≡ Ok x → typed e t ≡ x) [
  | true ↦ λ is. cc
  | false ↦ elim (nat_lt most_leaves (leaves t)) as (λ b. cond b (Err TooWide) (Ok (typed e t)) ≡ Ok x → typed e t ≡ x) [
    | true ↦ λ is. cc
    | false ↦ λ is. cc
  ]
]

pub node_ok : (e : Term) (t : Option ValueType) (x : TypedTerm) → node e t ≡ Ok x → (u : ValueType) × (t ≡ Some u) × (typed e u ≡ x)
node_ok e t x is = let s = then_ok (or_mistyped t) (sized e) x is in (s.0, typed_ok t s.0 s.1, sized_ok e s.0 x s.2)

pub all_left : {A : Type 0} (P : A → Type 0) (xs ys : List A) → AllByRecursion P (xs ++ ys) → AllByRecursion P xs
all_left P [] ys all = tt
all_left P (x ∷ xs) ys all = (all.0, all_left P xs ys all.1)

pub all_right : {A : Type 0} (P : A → Type 0) (xs ys : List A) → AllByRecursion P (xs ++ ys) → AllByRecursion P ys
all_right P [] ys all = all
all_right P (x ∷ xs) ys all = all_right P xs ys all.1

module _ (P : List ℕ → Type 0) (keeps : KeepsTexts P) where
  -- the texts in it have the property
  abbrev pub HasTexts : Term → Type 0
  HasTexts e = AllByRecursion P (texts_in e)

  -- where `it` is of the first type, the expression has a value of its own type
  abbrev pub Holds : ValueType → TypedTerm → Type 0
  Holds t x = HasTexts x.term → (v : Value) → IsValueWith P t v → IsValueWith P x.type (ev x.term v)

  pub it_holds : (t : ValueType) (x : TypedTerm) → sized term.It t ≡ Ok x → Holds t x
  it_holds t x e = subst (Holds t) (sized_ok term.It t x e) (λ _ v is. subst (IsValueWith P t) (sym (ev-It v)) is)

  pub one_holds : (op : Single) (t : ValueType) (a x : TypedTerm) → HasDivisor op → Holds t a → one_node op a ≡ Ok x → Holds t x
  one_holds op t a x fits h e =
      let s = node_ok (term.One op a.term) (one_type op a.type) x e in
      subst (Holds t) s.2 (λ has v is. subst (IsValueWith P s.0) (sym (ev-One op a.term v))
      (one_is P keeps op a.type s.0 (ev a.term v) fits s.1 (h (subst (AllByRecursion P) (texts-One op a.term) has) v is)))

  pub two_holds : (op : Double) (t : ValueType) (a b x : TypedTerm) → Holds t a → Holds t b → two_node op a b ≡ Ok x → Holds t x
  two_holds op t a b x h k e =
      let s = node_ok (term.Two op a.term b.term) (two_type op a.type b.type) x e in
      subst (Holds t) s.2 (λ has v is.
      let both : AllByRecursion P (texts_in a.term ++ texts_in b.term) = subst (AllByRecursion P) (texts-Two op a.term b.term) has in
      subst (IsValueWith P s.0) (sym (ev-Two op a.term b.term v))
      (two_is P keeps op a.type b.type s.0 (ev a.term v) (ev b.term v) s.1 (h (all_left P (texts_in a.term) (texts_in b.term) both) v is) (k (all_right P (texts_in a.term) (texts_in b.term) both) v is)))

  pub if_holds : (t : ValueType) (c a b x : TypedTerm) → Holds t a → Holds t b → if_node c a b ≡ Ok x → Holds t x
  if_holds t c a b x h k e =
      let s = node_ok (term.If c.term a.term b.term) (if_type c.type a.type b.type) x e in
      subst (Holds t) s.2 (λ has v is.
      let three : AllByRecursion P (texts_in c.term ++ (texts_in a.term ++ texts_in b.term)) = subst (AllByRecursion P) (texts-If c.term a.term b.term) has in
      let two : AllByRecursion P (texts_in a.term ++ texts_in b.term) = all_right P (texts_in c.term) (texts_in a.term ++ texts_in b.term) three in
      subst (IsValueWith P s.0) (sym (ev-If c.term a.term b.term v))
      (if_is P keeps c.type a.type b.type s.0 (truth_in (ev c.term v)) (ev a.term v) (ev b.term v) s.1 (h (all_left P (texts_in a.term) (texts_in b.term) two) v is) (k (all_right P (texts_in a.term) (texts_in b.term) two) v is)))

  part_texts : (xs : List TypedTerm) → AllByRecursion P (flat_map (λ part. part) (map texts_in (map (λ x. x.term) xs))) → AllByRecursion (λ x. HasTexts x.term) xs
  part_texts [] all = tt
  part_texts (x ∷ xs) all =
      let rest = flat_map (λ part. part) (map texts_in (map (λ (x : TypedTerm). x.term) xs)) in
      (all_left P (texts_in x.term) rest all, part_texts xs (all_right P (texts_in x.term) rest all))

  part_values : (t : ValueType) (xs : List TypedTerm) (v : Value) → IsValueWith P t v → AllByRecursion (Holds t) xs → AllByRecursion (λ x. HasTexts x.term) xs → AllByRecursion (λ x. IsValueWith P x.type (ev x.term v)) xs
  part_values t [] v is h has = tt
  part_values t (x ∷ xs) v is h has = (h.0 has.0 v is, part_values t xs v is h.1 has.1)

  values_same : (xs : List TypedTerm) (v : Value) → map (λ f. f v) (map ev (map (λ x. x.term) xs)) ≡ map (λ x. ev x.term v) xs
  values_same [] v = refl
  values_same (x ∷ xs) v = ap (λ vs. ev x.term v ∷ vs) (values_same xs v)

  pub list_holds : (t : ValueType) (xs : List TypedTerm) (x : TypedTerm) → AllByRecursion (Holds t) xs → list_node xs ≡ Ok x → Holds t x
  list_holds t xs x h e =
      let terms = map (λ (x : TypedTerm). x.term) xs in
      let s = node_ok (term.List terms) (list_type (map (λ x. x.type) xs)) x e in
      subst (Holds t) s.2 (λ has v is.
      subst (IsValueWith P s.0) (sym (ev-Listed terms v ∙ ap (λ vs. list (values_of vs)) (values_same xs v)))
      (list_is P keeps (λ x. x.type) (λ x. ev x.term v) xs s.0 s.1
      (part_values t xs v is h (part_texts xs (subst (AllByRecursion P) (texts-Listed terms) has)))))

  pub constant_holds : (c : Val) (u t : ValueType) (x : TypedTerm) → (P (bytes_in (value_of c)) → IsValueWith P u (value_of c)) → constant_node c u ≡ Ok x → Holds t x
  constant_holds c u t x is e = subst (Holds t) (sized_ok (term.Constant c) u x e) (λ has v _.
      let one : AllByRecursion P (bytes_in (value_of c) ∷ []) = subst (AllByRecursion P) (texts-Constant c) has in
      subst (IsValueWith P u) (sym (ev-Constant c v)) (is one.0))

  pub text_holds : (bytes : List ℕ) (t : ValueType) (x : TypedTerm) → constant_node (val.Text bytes) texts ≡ Ok x → Holds t x
  text_holds bytes t x = constant_holds (val.Text bytes) texts t x (λ has. (bytes, value_of-Text bytes, subst (λ v. P (bytes_in v)) (value_of-Text bytes) has))

  pub truth_holds : (b : Bool) (t : ValueType) (x : TypedTerm) → constant_node (val.Bool b) truths ≡ Ok x → Holds t x
  truth_holds b t x = constant_holds (val.Bool b) truths t x (λ _. (b, value_of-Bool b))

  pub empty_holds : (u t : ValueType) (x : TypedTerm) → constant_node (val.List []) (lists u 0) ≡ Ok x → Holds t x
  empty_holds u t x = constant_holds (val.List []) (lists u 0) t x (λ _. (end, value_of-List [], tt, omega arith))

  pub none_holds : (u t : ValueType) (x : TypedTerm) → constant_node (val.Opt None) (options u) ≡ Ok x → Holds t x
  none_holds u t x = constant_holds (val.Opt None) (options u) t x (λ _. inl value_of-None)

  pub int_holds : (n : ℕ) (t : ValueType) (x : TypedTerm) → int_node n ≡ Ok x → Holds t x
  int_holds n t x = elim (is_number n) as (λ b. is_number n ≡ b → cond b (constant_node (val.Int (pos n)) ints) (Err Mistyped) ≡ Ok x → Holds t x) [
    | true ↦ λ is. constant_holds (val.Int (pos n)) ints t x (λ _. (pos n, value_of-Int (pos n), number_fits n is))
    | false ↦ λ _ e. let wrong : Err Mistyped ≡ Ok x = e in absurd (no_fault Mistyped x wrong)
  ] refl

  pub field_holds : (name : List ℕ) (t : ValueType) (a x : TypedTerm) → Holds t a → field_node name a ≡ Ok x → Holds t x
  field_holds name t a x h e =
      let s = then_ok (or_mistyped (place_in name a.type)) (λ place. one_node (single.Field place) a) x e in
      one_holds (single.Field s.0) t a x tt h s.2
