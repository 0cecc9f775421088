-- The walk of an expression: parts from the left before the whole.
use Rattle.std.specs.Prelude.{ℕ, ℤ, pos, true, false, List, [], ◌∷◌, map, None, Ok, Err, if◌then◌else◌, ◌&&◌, nat_lt}
use Rattle.sb_types.specs.ValueType.{ValueType, texts, truths, options, lists}
use Rattle.sb_types.specs.declared.values.Val.TheVariants as val
use Rattle.sb_grammar.specs.declared.expressions.CmpOp.{CmpOp}
use Rattle.sb_grammar.specs.declared.expressions.CmpOp.TheVariants as operators
use Rattle.sb_grammar.specs.declared.expressions.PostStep.{PostStep}
use Rattle.sb_grammar.specs.declared.expressions.PostStep.TheVariants as steps
use Rattle.sb_grammar.specs.declared.expressions.AddRest.{AddRest}
use Rattle.sb_grammar.specs.declared.expressions.Atom.{Atom}
use Rattle.sb_grammar.specs.declared.expressions.Cmp.{Cmp}
use Rattle.sb_grammar.specs.declared.expressions.Expr.{Expr}
use Rattle.sb_grammar.specs.declared.expressions.Neg.{Neg}
use Rattle.sb_grammar.specs.declared.expressions.ProdRest.{ProdRest}
use Rattle.sb_grammar.specs.declared.expressions.Unary.{Unary}
use Rattle.sb_grammar.specs.declared.expressions.Add.{Add}
use Rattle.sb_grammar.specs.declared.expressions.Conj.{Conj}
use Rattle.sb_grammar.specs.declared.expressions.Disj.{Disj}
use Rattle.sb_grammar.specs.declared.expressions.Post.{Post}
use Rattle.sb_grammar.specs.declared.expressions.Prod.{Prod}
use Rattle.sb_grammar.specs.declared.expressions.AddRest.TheOpen.{AddRest-F, Atom-F, Cmp-F, Expr-F, Neg-F, ProdRest-F, Unary-F, Add-F, Conj-F, Disj-F, Post-F, Prod-F}
use Rattle.sb_grammar.specs.declared.expressions.AddRest.TheFolds.{fold-AddRest, fold-Atom, fold-Cmp, fold-Expr, fold-Neg, fold-ProdRest, fold-Unary}
use Rattle.sb_grammar.specs.declared.expressions.AddRest.TheFolds.{fold-Add, fold-Conj, fold-Disj, fold-Post, fold-Prod}
use Rattle.sb_terms.specs.declared.fault.Fault.TheVariants.{Mistyped}
use Rattle.sb_terms.specs.declared.term.Single.{Single}
use Rattle.sb_terms.specs.declared.term.Single.TheVariants as single
use Rattle.sb_terms.specs.declared.term.Double.{Double}
use Rattle.sb_terms.specs.declared.term.Double.TheVariants as double
use Rattle.sb_terms.specs.declared.term.Comparison.{Comparison}
use Rattle.sb_terms.specs.declared.term.Comparison.TheVariants as comparisons
use Rattle.sb_terms.specs.declared.term.Term.TheVariants as term
use Rattle.sb_terms.specs.Outcome.{Outcome, and_then, all_of}
use Rattle.sb_terms.specs.Written.{written_type}
use Rattle.sb_terms.specs.Nodes.{TypedTerm, sized, one_node, two_node, if_node, list_node, constant_node, int_node, field_node, is_number}

-- what an expression gives where `it` has a type, and what follows an expression where it stands
abbrev pub Walk : Type 0
Walk = ValueType → Outcome TypedTerm

abbrev pub Next : Type 0
Next = ValueType → TypedTerm → Outcome TypedTerm

-- ---- one part, two parts, and parts in a row

abbrev pub one_walk : Single → Walk → Walk
one_walk op a it = and_then (a it) (one_node op)

abbrev pub two_walk : Double → Walk → Walk → Walk
two_walk op a b it = and_then (a it) (λ x. and_then (b it) (two_node op x))

-- all parts of a list
abbrev pub list_walk : List Walk → Walk
list_walk parts it = and_then (all_of (map (λ p. p it) parts)) list_node

-- the part behind an operator, with what stands before it
abbrev pub behind : Double → Walk → Next
behind op b it x = and_then (b it) (two_node op x)

-- one after the other, each with all before it
abbrev pub in_turn : List Next → Next
in_turn [] it x = Ok x
in_turn (f ∷ fs) it x = and_then (f it x) (in_turn fs it)

abbrev pub chain : Walk → List Next → Walk
chain a fs it = and_then (a it) (in_turn fs it)

-- what divides is above 0 and below 2^63
abbrev pub divisor : ℕ → Outcome ℤ
divisor n = if nat_lt 0 n && is_number n then Ok (pos n) else Err Mistyped

abbrev pub divided : (ℤ → Single) → ℕ → Next
divided op n it x = and_then (divisor n) (λ d. one_node (op d) x)

abbrev pub step_node : PostStep → TypedTerm → Outcome TypedTerm
step_node (steps.Field name) = field_node name
step_node steps.First = one_node single.First
step_node steps.Second = one_node single.Second

abbrev pub comparison : CmpOp → Comparison
comparison operators.Equal = comparisons.Equal
comparison operators.Unequal = comparisons.Unequal
comparison operators.Less = comparisons.Less
comparison operators.AtMost = comparisons.AtMost
comparison operators.Greater = comparisons.Greater
comparison operators.AtLeast = comparisons.AtLeast

-- ---- one layer of each kind of tree, in which each part is walked already

abbrev pub add_rest_layer : AddRest-F Next Walk Walk Walk Walk Next Walk Walk Walk Walk Walk Walk → Next
add_rest_layer (AddRest-F.Plus a) = behind double.Plus a
add_rest_layer (AddRest-F.AddRest::Minus a) = behind double.Minus a

abbrev pub atom_layer : Atom-F Next Walk Walk Walk Walk Next Walk Walk Walk Walk Walk Walk → Walk
atom_layer (Atom-F.Int n) it = int_node n
atom_layer (Atom-F.Text value) it = constant_node (val.Text value) texts
atom_layer Atom-F.True it = constant_node (val.Bool true) truths
atom_layer Atom-F.False it = constant_node (val.Bool false) truths
atom_layer Atom-F.It it = sized term.It it
atom_layer (Atom-F.Group a) it = a it
atom_layer (Atom-F.Pair a b) it = two_walk double.Pair a b it
atom_layer (Atom-F.List parts) it = list_walk parts it
atom_layer (Atom-F.Empty t) it = constant_node (val.List []) (lists (written_type t) 0)
atom_layer (Atom-F.NoneOf t) it = constant_node (val.Opt None) (options (written_type t))
atom_layer (Atom-F.SomeOf a) it = one_walk single.Wrap a it
atom_layer (Atom-F.Orelse a b) it = two_walk double.Orelse a b it
atom_layer (Atom-F.Has a) it = one_walk single.Has a it
atom_layer (Atom-F.Lower a) it = one_walk single.Lower a it
atom_layer (Atom-F.Words a most) it = one_walk (single.Words most) a it
atom_layer (Atom-F.Len a) it = one_walk single.Len a it
atom_layer (Atom-F.Starts a b) it = two_walk double.Starts a b it

abbrev pub cmp_layer : Cmp-F Next Walk Walk Walk Walk Next Walk Walk Walk Walk Walk Walk → Walk
cmp_layer (Cmp-F.Cmp::Plain a) = a
cmp_layer (Cmp-F.Both operator a b) = two_walk (double.Compare (comparison operator)) a b

abbrev pub expr_layer : Expr-F Next Walk Walk Walk Walk Next Walk Walk Walk Walk Walk Walk → Walk
expr_layer (Expr-F.If c a b) it =
    and_then (c it) (λ x. and_then (a it) (λ y. and_then (b it) (if_node x y)))
expr_layer (Expr-F.Expr::Plain a) it = a it

abbrev pub neg_layer : Neg-F Next Walk Walk Walk Walk Next Walk Walk Walk Walk Walk Walk → Walk
neg_layer (Neg-F.Not a) = one_walk single.Not a
neg_layer (Neg-F.Neg::Plain a) = a

abbrev pub prod_rest_layer : ProdRest-F Next Walk Walk Walk Walk Next Walk Walk Walk Walk Walk Walk → Next
prod_rest_layer (ProdRest-F.Times a) = behind double.Times a
prod_rest_layer (ProdRest-F.Over n) = divided single.Over n
prod_rest_layer (ProdRest-F.Modulo n) = divided single.Modulo n

abbrev pub unary_layer : Unary-F Next Walk Walk Walk Walk Next Walk Walk Walk Walk Walk Walk → Walk
unary_layer (Unary-F.Unary::Minus a) = one_walk single.Minus a
unary_layer (Unary-F.Unary::Plain a) = a

abbrev pub add_layer : Add-F Next Walk Walk Walk Walk Next Walk Walk Walk Walk Walk Walk → Walk
add_layer l = chain l.first l.rest

abbrev pub conj_layer : Conj-F Next Walk Walk Walk Walk Next Walk Walk Walk Walk Walk Walk → Walk
conj_layer l = chain l.first (map (behind double.And) l.rest)

abbrev pub disj_layer : Disj-F Next Walk Walk Walk Walk Next Walk Walk Walk Walk Walk Walk → Walk
disj_layer l = chain l.first (map (behind double.Or) l.rest)

abbrev pub post_layer : Post-F Next Walk Walk Walk Walk Next Walk Walk Walk Walk Walk Walk → Walk
post_layer l = chain l.atom (map (λ s it x. step_node s x) l.steps)

abbrev pub prod_layer : Prod-F Next Walk Walk Walk Walk Next Walk Walk Walk Walk Walk Walk → Walk
prod_layer l = chain l.first l.rest

-- ---- the walks

abbrev pub add_rest_walk : AddRest → Next
add_rest_walk = fold-AddRest Next Walk Walk Walk Walk Next Walk Walk Walk Walk Walk Walk
    add_rest_layer atom_layer cmp_layer expr_layer neg_layer prod_rest_layer unary_layer
    add_layer conj_layer disj_layer post_layer prod_layer

abbrev pub atom_walk : Atom → Walk
atom_walk = fold-Atom Next Walk Walk Walk Walk Next Walk Walk Walk Walk Walk Walk
    add_rest_layer atom_layer cmp_layer expr_layer neg_layer prod_rest_layer unary_layer
    add_layer conj_layer disj_layer post_layer prod_layer

abbrev pub cmp_walk : Cmp → Walk
cmp_walk = fold-Cmp Next Walk Walk Walk Walk Next Walk Walk Walk Walk Walk Walk
    add_rest_layer atom_layer cmp_layer expr_layer neg_layer prod_rest_layer unary_layer
    add_layer conj_layer disj_layer post_layer prod_layer

abbrev pub expr_walk : Expr → Walk
expr_walk = fold-Expr Next Walk Walk Walk Walk Next Walk Walk Walk Walk Walk Walk
    add_rest_layer atom_layer cmp_layer expr_layer neg_layer prod_rest_layer unary_layer
    add_layer conj_layer disj_layer post_layer prod_layer

abbrev pub neg_walk : Neg → Walk
neg_walk = fold-Neg Next Walk Walk Walk Walk Next Walk Walk Walk Walk Walk Walk
    add_rest_layer atom_layer cmp_layer expr_layer neg_layer prod_rest_layer unary_layer
    add_layer conj_layer disj_layer post_layer prod_layer

abbrev pub prod_rest_walk : ProdRest → Next
prod_rest_walk = fold-ProdRest Next Walk Walk Walk Walk Next Walk Walk Walk Walk Walk Walk
    add_rest_layer atom_layer cmp_layer expr_layer neg_layer prod_rest_layer unary_layer
    add_layer conj_layer disj_layer post_layer prod_layer

abbrev pub unary_walk : Unary → Walk
unary_walk = fold-Unary Next Walk Walk Walk Walk Next Walk Walk Walk Walk Walk Walk
    add_rest_layer atom_layer cmp_layer expr_layer neg_layer prod_rest_layer unary_layer
    add_layer conj_layer disj_layer post_layer prod_layer

abbrev pub add_walk : Add → Walk
add_walk = fold-Add Next Walk Walk Walk Walk Next Walk Walk Walk Walk Walk Walk
    add_rest_layer atom_layer cmp_layer expr_layer neg_layer prod_rest_layer unary_layer
    add_layer conj_layer disj_layer post_layer prod_layer

abbrev pub conj_walk : Conj → Walk
conj_walk = fold-Conj Next Walk Walk Walk Walk Next Walk Walk Walk Walk Walk Walk
    add_rest_layer atom_layer cmp_layer expr_layer neg_layer prod_rest_layer unary_layer
    add_layer conj_layer disj_layer post_layer prod_layer

abbrev pub disj_walk : Disj → Walk
disj_walk = fold-Disj Next Walk Walk Walk Walk Next Walk Walk Walk Walk Walk Walk
    add_rest_layer atom_layer cmp_layer expr_layer neg_layer prod_rest_layer unary_layer
    add_layer conj_layer disj_layer post_layer prod_layer

abbrev pub post_walk : Post → Walk
post_walk = fold-Post Next Walk Walk Walk Walk Next Walk Walk Walk Walk Walk Walk
    add_rest_layer atom_layer cmp_layer expr_layer neg_layer prod_rest_layer unary_layer
    add_layer conj_layer disj_layer post_layer prod_layer

abbrev pub prod_walk : Prod → Walk
prod_walk = fold-Prod Next Walk Walk Walk Walk Next Walk Walk Walk Walk Walk Walk
    add_rest_layer atom_layer cmp_layer expr_layer neg_layer prod_rest_layer unary_layer
    add_layer conj_layer disj_layer post_layer prod_layer
