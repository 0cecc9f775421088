-- What walks give has values of its type where what their parts give has.
use Rattle.std.proofs.Common.{◌≡◌, ℕ, ℤ, pos, Bool, true, false, ◌&&◌, cond, List, [], ◌∷◌, map, refl, subst}
use Rattle.std.specs.Prelude.{Ok, Err, nat_lt}
use Rattle.std.specs.List.{AllByRecursion}
use Rattle.sb_types.specs.ValueType.{ValueType}
use Rattle.sb_grammar.specs.declared.expressions.PostStep.{PostStep}
use Rattle.sb_grammar.specs.declared.expressions.PostStep.TheVariants as steps
use Rattle.sb_terms.specs.declared.fault.Fault.TheVariants.{Mistyped}
use Rattle.sb_terms.specs.declared.term.Single.{Single}
use Rattle.sb_terms.specs.declared.term.Single.TheVariants as single
use Rattle.sb_terms.specs.declared.term.Double.{Double}
use Rattle.sb_terms.specs.Expressions.{Walk, Next, one_walk, two_walk, list_walk, behind, in_turn, chain, divisor, divided, step_node}
use Rattle.sb_terms.specs.Nodes.{TypedTerm, one_node, two_node, if_node, list_node, is_number}
use Rattle.sb_terms.specs.Outcome.{and_then, all_of}
use Rattle.sb_meaning.proofs.NumberTypes.{Fits, number_fits}
use Rattle.sb_meaning.proofs.NodeTypes.{Holds, then_ok, no_fault, one_holds, two_holds, if_holds, list_holds, field_holds}
use Rattle.sb_meaning.proofs.OperationTypes.{KeepsTexts, HasDivisor}

both_true : (a b : Bool) → (a && b) ≡ true → (a ≡ true) × (b ≡ true)
both_true true b h = (refl, h)
both_true false b h = cc

divisor_ok : (n : ℕ) (d : ℤ) → divisor n ≡ Ok d → Fits d
divisor_ok n d = elim (nat_lt 0 n && is_number n) as (λ b. nat_lt 0 n && is_number n ≡ b → cond b (Ok (pos n)) (Err Mistyped) ≡ Ok d → Fits d) [
  | true ↦ λ is e. let same : pos n ≡ d = cc in subst Fits same (number_fits n (both_true (nat_lt 0 n) (is_number n) is).1)
  | false ↦ λ _ e. absurd (no_fault Mistyped d e)
] refl

module _ (P : List ℕ → Type 0) (keeps : KeepsTexts P) where
  -- what it gives, where it gives something
  abbrev pub Sound : Walk → Type 0
  Sound w = (t : ValueType) (x : TypedTerm) → w t ≡ Ok x → Holds P keeps t x

  abbrev pub SoundNext : Next → Type 0
  SoundNext f = (t : ValueType) (a x : TypedTerm) → Holds P keeps t a → f t a ≡ Ok x → Holds P keeps t x

  pub one_sound : (op : Single) (a : Walk) → HasDivisor op → Sound a → Sound (one_walk op a)
  one_sound op a fits h t x e = let s = then_ok (a t) (one_node op) x e in one_holds P keeps op t s.0 x fits (h t s.0 s.1) s.2

  pub two_sound : (op : Double) (a b : Walk) → Sound a → Sound b → Sound (two_walk op a b)
  two_sound op a b h k t x e =
      let s = then_ok (a t) (λ y. and_then (b t) (two_node op y)) x e in
      let r = then_ok (b t) (two_node op s.0) x s.2 in
      two_holds P keeps op t s.0 r.0 x (h t s.0 s.1) (k t r.0 r.1) r.2

  pub if_sound : (c a b : Walk) → Sound a → Sound b → Sound (λ t. and_then (c t) (λ x. and_then (a t) (λ y. and_then (b t) (if_node x y))))
  if_sound c a b h k t x e =
      let q = then_ok (c t) (λ z. and_then (a t) (λ y. and_then (b t) (if_node z y))) x e in
      let s = then_ok (a t) (λ y. and_then (b t) (if_node q.0 y)) x q.2 in
      let r = then_ok (b t) (if_node q.0 s.0) x s.2 in
      if_holds P keeps t q.0 s.0 r.0 x (h t s.0 s.1) (k t r.0 r.1) r.2

  parts_sound : (parts : List Walk) (t : ValueType) (xs : List TypedTerm) → AllByRecursion Sound parts → all_of (map (λ p. p t) parts) ≡ Ok xs → AllByRecursion (Holds P keeps t) xs
  parts_sound [] t xs h e = let same : [] ≡ xs = cc in subst (AllByRecursion (Holds P keeps t)) same tt
  parts_sound (p ∷ parts) t xs h e =
      let s = then_ok (p t) (λ x. and_then (all_of (map (λ p. p t) parts)) (λ xs. Ok (x ∷ xs))) xs e in
      let r = then_ok (all_of (map (λ p. p t) parts)) (λ xs. Ok (s.0 ∷ xs)) xs s.2 in
      let is : Ok (s.0 ∷ r.0) ≡ Ok xs = r.2 in
      let same : s.0 ∷ r.0 ≡ xs = cc in
      subst (AllByRecursion (Holds P keeps t)) same (h.0 t s.0 s.1, parts_sound parts t r.0 h.1 r.1)

  pub list_sound : (parts : List Walk) → AllByRecursion Sound parts → Sound (list_walk parts)
  list_sound parts h t x e =
      let s = then_ok (all_of (map (λ p. p t) parts)) list_node x e in
      list_holds P keeps t s.0 x (parts_sound parts t s.0 h s.1) s.2

  pub behind_sound : (op : Double) (b : Walk) → Sound b → SoundNext (behind op b)
  behind_sound op b h t a x k e = let s = then_ok (b t) (two_node op a) x e in two_holds P keeps op t a s.0 x k (h t s.0 s.1) s.2

  in_turn_sound : (fs : List Next) → AllByRecursion SoundNext fs → SoundNext (in_turn fs)
  in_turn_sound [] h t a x k e = let same : a ≡ x = cc in subst (Holds P keeps t) same k
  in_turn_sound (f ∷ fs) h t a x k e =
      let s = then_ok (f t a) (in_turn fs t) x e in
      in_turn_sound fs h.1 t s.0 x (h.0 t a s.0 k s.1) s.2

  pub chain_sound : (a : Walk) (fs : List Next) → Sound a → AllByRecursion SoundNext fs → Sound (chain a fs)
  chain_sound a fs h k t x e = let s = then_ok (a t) (in_turn fs t) x e in in_turn_sound fs k t s.0 x (h t s.0 s.1) s.2

  pub divided_sound : (op : ℤ → Single) (n : ℕ) → ((d : ℤ) → Fits d → HasDivisor (op d)) → SoundNext (divided op n)
  divided_sound op n fits t a x h e =
      let s = then_ok (divisor n) (λ d. one_node (op d) a) x e in
      one_holds P keeps (op s.0) t a x (fits s.0 (divisor_ok n s.0 s.1)) h s.2

  pub step_sound : (s : PostStep) → SoundNext (λ _ x. step_node s x)
  step_sound (steps.Field name) t a x h e = field_holds P keeps name t a x h e
  step_sound steps.First t a x h e = one_holds P keeps single.First t a x tt h e
  step_sound steps.Second t a x h e = one_holds P keeps single.Second t a x tt h e
