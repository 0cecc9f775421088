-- Equations of values that code and definitions see from two sides.
use Rattle.std.proofs.Common.{◌≡◌, ◌∙◌, ℕ, zero, suc, pos, List, [], ◌∷◌, map, length, Option, Some, None, refl, ap, sym}
use Rattle.std.specs.Borrow.{Bor}
use Rattle.std.specs.Prelude.{slice_get, option_copied}
use Rattle.sb_types.specs.Value.{Value, int, some, list, items_of, values_of}
use Rattle.sb_types.specs.ValView.{value_of, view_values}
use Rattle.sb_types.specs.declared.values.Val.{Val, Opt, List as Listed}
use Rattle.sb_types.proofs.ValViews.{value_of-Some, value_of-List}
use Rattle.sb_meaning.specs.Operations.{nth, part_value}
use Rattle.sb_meaning.specs.Streams.{list_at}
use Rattle.sb_meaning.specs.Expression.{ev, ev_layer}
use Rattle.sb_terms.specs.declared.term.Term.{Term}
use Rattle.sb_terms.specs.declared.term.Term.TheVariants as term
use Rattle.sb_terms.specs.declared.term.Term.TheOpen as layer
use Rattle.sb_terms.specs.declared.term.Term.TheFolds.{fold-roll-Term}

pub some_view : (v : Val) → value_of (Opt (Some v)) ≡ some (value_of v)
some_view v = value_of-Some v

pub list_view : (vs : List Val) → value_of (Listed vs) ≡ list (view_values vs)
list_view vs = value_of-List vs

pub items_view : (vs : List Val) → items_of (view_values vs) ≡ map value_of vs
items_view [] = refl
items_view (v ∷ vs) = ap (λ rest. value_of v ∷ rest) (items_view vs)

pub length_view : (vs : List Val) → length (items_of (view_values vs)) ≡ length vs
length_view [] = refl
length_view (v ∷ vs) = ap suc (length_view vs)

-- the value at a place, and 0 where there is none
abbrev pub value_or : Option Val → Value
value_or None = int (pos 0)
value_or (Some v) = value_of v

pub lent_value : (part : Option (Bor Val)) → part_value part ≡ value_or (option_copied part)
lent_value None = refl
lent_value (Some part) = refl

pub nth_at : (vs : List Val) (n : ℕ) → nth n (view_values vs) ≡ value_or (slice_get vs n)
nth_at [] n = refl
nth_at (v ∷ vs) zero = refl
nth_at (v ∷ vs) (suc n) = nth_at vs n

-- the list of this number, and an empty one where there is none
abbrev pub seen_as : {A B : Type 0} → (A → List B) → Option A → List B
seen_as f None = []
seen_as f (Some a) = f a

pub list_at_view : {A B : Type 0} (f : A → List B) (lists : List A) (n : ℕ) → list_at n (map f lists) ≡ seen_as f (slice_get lists n)
list_at_view f [] n = refl
list_at_view f (a ∷ lists) zero = refl
list_at_view f (a ∷ lists) (suc n) = list_at_view f lists n

-- the value of a list of expressions
pub ev-List : (ts : List Term) (v : Value) → ev (term.List ts) v ≡ list (values_of (map (λ f. f v) (map ev ts)))
ev-List ts v = ap (λ f. f v) (ap ev (sym (term.rolls-List ts)) ∙ fold-roll-Term (Value → Value) ev_layer (layer.List ts))
