-- The equations of values and of texts of expressions that proofs cite.
use Rattle.std.proofs.Common.{◌≡◌, ◌∙◌, ℕ, List, [], ◌∷◌, ◌++◌, map, ap, sym, cond}
use Rattle.std.specs.List.{flat_map}
use Rattle.sb_types.specs.Value.{Value, list, values_of}
use Rattle.sb_types.specs.ValView.{value_of}
use Rattle.sb_types.specs.declared.values.Val.{Val}
use Rattle.sb_terms.specs.declared.term.Single.{Single}
use Rattle.sb_terms.specs.declared.term.Double.{Double}
use Rattle.sb_terms.specs.declared.term.Term.{Term}
use Rattle.sb_terms.specs.declared.term.Term.TheVariants as term
use Rattle.sb_terms.specs.declared.term.Term.TheOpen as layer
use Rattle.sb_terms.specs.declared.term.Term.TheFolds.{fold-roll-Term}
use Rattle.sb_meaning.specs.Expression.{ev, ev_layer}
use Rattle.sb_meaning.specs.Operations.{one, two, truth_in, bytes_in}
use Rattle.sb_meaning.specs.Texts.{texts_in, texts_layer}

pub ev-It : (v : Value) → ev term.It v ≡ v
ev-It v = ap (λ f. f v) (ap ev (sym term.rolls-It) ∙ fold-roll-Term (Value → Value) ev_layer layer.It)

pub ev-Constant : (c : Val) (v : Value) → ev (term.Constant c) v ≡ value_of c
ev-Constant c v = ap (λ f. f v) (ap ev (sym (term.rolls-Constant c)) ∙ fold-roll-Term (Value → Value) ev_layer (layer.Constant c))

pub ev-One : (op : Single) (a : Term) (v : Value) → ev (term.One op a) v ≡ one op (ev a v)
ev-One op a v = ap (λ f. f v) (ap ev (sym (term.rolls-One op a)) ∙ fold-roll-Term (Value → Value) ev_layer (layer.One op a))

pub ev-Two : (op : Double) (a b : Term) (v : Value) → ev (term.Two op a b) v ≡ two op (ev a v) (ev b v)
ev-Two op a b v = ap (λ f. f v) (ap ev (sym (term.rolls-Two op a b)) ∙ fold-roll-Term (Value → Value) ev_layer (layer.Two op a b))

pub ev-If : (c a b : Term) (v : Value) → ev (term.If c a b) v ≡ cond (truth_in (ev c v)) (ev a v) (ev b v)
ev-If c a b v = ap (λ f. f v) (ap ev (sym (term.rolls-If c a b)) ∙ fold-roll-Term (Value → Value) ev_layer (layer.If c a b))

pub ev-Listed : (ts : List Term) (v : Value) → ev (term.List ts) v ≡ list (values_of (map (λ f. f v) (map ev ts)))
ev-Listed ts v = ap (λ f. f v) (ap ev (sym (term.rolls-List ts)) ∙ fold-roll-Term (Value → Value) ev_layer (layer.List ts))

pub texts-Constant : (c : Val) → texts_in (term.Constant c) ≡ bytes_in (value_of c) ∷ []
texts-Constant c = ap texts_in (sym (term.rolls-Constant c)) ∙ fold-roll-Term (List (List ℕ)) texts_layer (layer.Constant c)

pub texts-One : (op : Single) (a : Term) → texts_in (term.One op a) ≡ texts_in a
texts-One op a = ap texts_in (sym (term.rolls-One op a)) ∙ fold-roll-Term (List (List ℕ)) texts_layer (layer.One op a)

pub texts-Two : (op : Double) (a b : Term) → texts_in (term.Two op a b) ≡ texts_in a ++ texts_in b
texts-Two op a b = ap texts_in (sym (term.rolls-Two op a b)) ∙ fold-roll-Term (List (List ℕ)) texts_layer (layer.Two op a b)

pub texts-If : (c a b : Term) → texts_in (term.If c a b) ≡ texts_in c ++ (texts_in a ++ texts_in b)
texts-If c a b = ap texts_in (sym (term.rolls-If c a b)) ∙ fold-roll-Term (List (List ℕ)) texts_layer (layer.If c a b)

pub texts-Listed : (ts : List Term) → texts_in (term.List ts) ≡ flat_map (λ part. part) (map texts_in ts)
texts-Listed ts = ap texts_in (sym (term.rolls-List ts)) ∙ fold-roll-Term (List (List ℕ)) texts_layer (layer.List ts)
