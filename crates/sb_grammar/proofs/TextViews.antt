-- The equations of the texts, one for each variant.
use Rattle.std.proofs.Common.{◌≡◌, ◌∙◌, ℕ, List, ◌++◌, codes, map, ap, sym}
use Rattle.sb_grammar.specs.declared.programs.Stream.{Stream, roll-Stream}
use Rattle.sb_grammar.specs.declared.programs.Head.{Head}
use Rattle.sb_grammar.specs.declared.programs.Head.TheVariants as heads
use Rattle.sb_grammar.specs.declared.programs.Stage.{Stage}
use Rattle.sb_grammar.specs.declared.programs.MonoTree.{MonoTree}
use Rattle.sb_grammar.specs.declared.programs.MonoTree.TheVariants as monos
use Rattle.sb_grammar.specs.declared.expressions.Scalar.{Scalar}
use Rattle.sb_grammar.specs.declared.expressions.TypeTree.{TypeTree}
use Rattle.sb_grammar.specs.declared.expressions.TypeTree.TheVariants as types
use Rattle.sb_grammar.specs.declared.expressions.Expr.{Expr}
use Rattle.sb_grammar.specs.declared.expressions.Expr.TheVariants as exprs
use Rattle.sb_grammar.specs.declared.expressions.Disj.{Disj, roll-Disj}
use Rattle.sb_grammar.specs.declared.expressions.Conj.{Conj, roll-Conj}
use Rattle.sb_grammar.specs.declared.expressions.Neg.{Neg}
use Rattle.sb_grammar.specs.declared.expressions.Neg.TheVariants as negs
use Rattle.sb_grammar.specs.declared.expressions.Cmp.{Cmp}
use Rattle.sb_grammar.specs.declared.expressions.Cmp.TheVariants as cmps
use Rattle.sb_grammar.specs.declared.expressions.CmpOp.{CmpOp}
use Rattle.sb_grammar.specs.declared.expressions.Add.{Add, roll-Add}
use Rattle.sb_grammar.specs.declared.expressions.AddRest.{AddRest}
use Rattle.sb_grammar.specs.declared.expressions.AddRest.TheVariants as add_rest
use Rattle.sb_grammar.specs.declared.expressions.Prod.{Prod, roll-Prod}
use Rattle.sb_grammar.specs.declared.expressions.ProdRest.{ProdRest}
use Rattle.sb_grammar.specs.declared.expressions.ProdRest.TheVariants as prod_rest
use Rattle.sb_grammar.specs.declared.expressions.Unary.{Unary}
use Rattle.sb_grammar.specs.declared.expressions.Unary.TheVariants as unaries
use Rattle.sb_grammar.specs.declared.expressions.Post.{Post, roll-Post}
use Rattle.sb_grammar.specs.declared.expressions.PostStep.{PostStep}
use Rattle.sb_grammar.specs.declared.expressions.Atom.{Atom}
use Rattle.sb_grammar.specs.declared.expressions.Atom.TheVariants as atoms
use Rattle.sb_grammar.specs.declared.expressions.AddRest.TheOpen.{AddRest-F, Atom-F, Cmp-F, Expr-F, Neg-F, ProdRest-F, Unary-F}
use Rattle.sb_grammar.specs.declared.expressions.AddRest.TheFolds.{fold-roll-AddRest, fold-roll-Atom, fold-roll-Cmp, fold-roll-Expr, fold-roll-Neg}
use Rattle.sb_grammar.specs.declared.expressions.AddRest.TheFolds.{fold-roll-ProdRest, fold-roll-Unary, fold-roll-Add, fold-roll-Conj, fold-roll-Disj}
use Rattle.sb_grammar.specs.declared.expressions.AddRest.TheFolds.{fold-roll-Post, fold-roll-Prod}
use Rattle.sb_grammar.specs.declared.expressions.TypeTree.TheOpen.{TypeTree-F}
use Rattle.sb_grammar.specs.declared.expressions.TypeTree.TheFolds.{fold-roll-TypeTree}
use Rattle.sb_grammar.specs.declared.programs.MonoTree.TheOpen.{MonoTree-F}
use Rattle.sb_grammar.specs.declared.programs.MonoTree.TheFolds.{fold-roll-MonoTree}
use Rattle.sb_grammar.specs.declared.programs.Head.TheOpen.{Head-F}
use Rattle.sb_grammar.specs.declared.programs.Head.TheFolds.{fold-roll-Head, fold-roll-Stream}
use Rattle.sb_grammar.specs.Text.{number_text, word_text, quoted_text, all_text, each_behind, listed, scalar_text, type_layer, type_text, mono_layer}
use Rattle.sb_grammar.specs.Text.{mono_text, operator_text, step_text, add_rest_layer, atom_layer, cmp_layer, expr_layer, neg_layer, prod_rest_layer}
use Rattle.sb_grammar.specs.Text.{unary_layer, add_layer, conj_layer, disj_layer, post_layer, prod_layer, add_rest_text, atom_text, cmp_text}
use Rattle.sb_grammar.specs.Text.{expr_text, neg_text, prod_rest_text, unary_text, add_text, conj_text, disj_text, post_text, prod_text, stage_text}
use Rattle.sb_grammar.specs.Text.{head_layer, stream_layer, head_text, stream_text}

pub type_text-Scalar : (s : Scalar) → type_text (types.Scalar s) ≡ scalar_text s
type_text-Scalar s = ap type_text (sym (types.rolls-Scalar s)) ∙ fold-roll-TypeTree (List ℕ) type_layer (TypeTree-F.Scalar s)

pub type_text-Pair : (a : TypeTree) (b : TypeTree) → type_text (types.Pair a b) ≡ codes "pair ( " ++ (type_text a ++ (codes ", " ++
    (type_text b ++ codes ") ")))
type_text-Pair a b = ap type_text (sym (types.rolls-Pair a b)) ∙ fold-roll-TypeTree (List ℕ) type_layer (TypeTree-F.Pair a b)

pub type_text-Opt : (a : TypeTree) → type_text (types.Opt a) ≡ codes "opt ( " ++ (type_text a ++ codes ") ")
type_text-Opt a = ap type_text (sym (types.rolls-Opt a)) ∙ fold-roll-TypeTree (List ℕ) type_layer (TypeTree-F.Opt a)

pub type_text-List : (a : TypeTree) (most : ℕ) → type_text (types.List a most) ≡ codes "list ( " ++ (type_text a ++ (codes ", " ++
    (number_text most ++ codes ") ")))
type_text-List a most = ap type_text (sym (types.rolls-List a most)) ∙ fold-roll-TypeTree (List ℕ) type_layer (TypeTree-F.List a most)

pub mono_text-Sum : mono_text (monos.Sum) ≡ codes "sum "
mono_text-Sum = ap mono_text (sym monos.rolls-Sum) ∙ fold-roll-MonoTree (List ℕ) mono_layer MonoTree-F.Sum

pub mono_text-Min : mono_text (monos.Min) ≡ codes "min "
mono_text-Min = ap mono_text (sym monos.rolls-Min) ∙ fold-roll-MonoTree (List ℕ) mono_layer MonoTree-F.Min

pub mono_text-Max : mono_text (monos.Max) ≡ codes "max "
mono_text-Max = ap mono_text (sym monos.rolls-Max) ∙ fold-roll-MonoTree (List ℕ) mono_layer MonoTree-F.Max

pub mono_text-First : mono_text (monos.First) ≡ codes "first "
mono_text-First = ap mono_text (sym monos.rolls-First) ∙ fold-roll-MonoTree (List ℕ) mono_layer MonoTree-F.First

pub mono_text-Last : mono_text (monos.Last) ≡ codes "last "
mono_text-Last = ap mono_text (sym monos.rolls-Last) ∙ fold-roll-MonoTree (List ℕ) mono_layer MonoTree-F.Last

pub mono_text-Concat : mono_text (monos.Concat) ≡ codes "concat "
mono_text-Concat = ap mono_text (sym monos.rolls-Concat) ∙ fold-roll-MonoTree (List ℕ) mono_layer MonoTree-F.Concat

pub mono_text-Set : mono_text (monos.Set) ≡ codes "set "
mono_text-Set = ap mono_text (sym monos.rolls-Set) ∙ fold-roll-MonoTree (List ℕ) mono_layer MonoTree-F.Set

pub mono_text-Top : (k : ℕ) → mono_text (monos.Top k) ≡ codes "top ( " ++ (number_text k ++ codes ") ")
mono_text-Top k = ap mono_text (sym (monos.rolls-Top k)) ∙ fold-roll-MonoTree (List ℕ) mono_layer (MonoTree-F.Top k)

pub mono_text-Cms : (d : ℕ) (w : ℕ) → mono_text (monos.Cms d w) ≡ codes "cms ( " ++ (number_text d ++ (codes ", " ++ (number_text w ++ codes ") ")))
mono_text-Cms d w = ap mono_text (sym (monos.rolls-Cms d w)) ∙ fold-roll-MonoTree (List ℕ) mono_layer (MonoTree-F.Cms d w)

pub mono_text-Hll : (b : ℕ) → mono_text (monos.Hll b) ≡ codes "hll ( " ++ (number_text b ++ codes ") ")
mono_text-Hll b = ap mono_text (sym (monos.rolls-Hll b)) ∙ fold-roll-MonoTree (List ℕ) mono_layer (MonoTree-F.Hll b)

pub mono_text-Pair : (a : MonoTree) (b : MonoTree) → mono_text (monos.Pair a b) ≡ codes "pair ( " ++ (mono_text a ++ (codes ", " ++
    (mono_text b ++ codes ") ")))
mono_text-Pair a b = ap mono_text (sym (monos.rolls-Pair a b)) ∙ fold-roll-MonoTree (List ℕ) mono_layer (MonoTree-F.Pair a b)

pub mono_text-Map : (a : MonoTree) → mono_text (monos.Map a) ≡ codes "map ( " ++ (mono_text a ++ codes ") ")
mono_text-Map a = ap mono_text (sym (monos.rolls-Map a)) ∙ fold-roll-MonoTree (List ℕ) mono_layer (MonoTree-F.Map a)

pub add_rest_text-Plus : (a : Prod) → add_rest_text (add_rest.Plus a) ≡ codes "+ " ++ prod_text a
add_rest_text-Plus a = ap add_rest_text (sym (add_rest.rolls-Plus a)) ∙ fold-roll-AddRest (List ℕ) (List ℕ) (List ℕ) (List ℕ) (List ℕ) (List ℕ)
    (List ℕ) (List ℕ) (List ℕ) (List ℕ) (List ℕ)
    (List ℕ) add_rest_layer atom_layer cmp_layer expr_layer neg_layer prod_rest_layer unary_layer add_layer conj_layer disj_layer post_layer prod_layer
    (AddRest-F.Plus a)

pub add_rest_text-Minus : (a : Prod) → add_rest_text (add_rest.Minus a) ≡ codes "- " ++ prod_text a
add_rest_text-Minus a = ap add_rest_text (sym (add_rest.rolls-Minus a)) ∙ fold-roll-AddRest (List ℕ) (List ℕ) (List ℕ) (List ℕ) (List ℕ) (List ℕ)
    (List ℕ) (List ℕ) (List ℕ) (List ℕ) (List ℕ)
    (List ℕ) add_rest_layer atom_layer cmp_layer expr_layer neg_layer prod_rest_layer unary_layer add_layer conj_layer disj_layer post_layer prod_layer
    (AddRest-F.AddRest::Minus a)

pub atom_text-Int : (n : ℕ) → atom_text (atoms.Int n) ≡ number_text n
atom_text-Int n = ap atom_text (sym (atoms.rolls-Int n)) ∙ fold-roll-Atom (List ℕ) (List ℕ) (List ℕ) (List ℕ) (List ℕ) (List ℕ) (List ℕ) (List ℕ)
    (List ℕ) (List ℕ) (List ℕ)
    (List ℕ) add_rest_layer atom_layer cmp_layer expr_layer neg_layer prod_rest_layer unary_layer add_layer conj_layer disj_layer post_layer prod_layer
    (Atom-F.Int n)

pub atom_text-Text : (value : List ℕ) → atom_text (atoms.Text value) ≡ quoted_text value
atom_text-Text value = ap atom_text (sym (atoms.rolls-Text value)) ∙ fold-roll-Atom (List ℕ) (List ℕ) (List ℕ) (List ℕ) (List ℕ) (List ℕ) (List ℕ)
    (List ℕ) (List ℕ) (List ℕ) (List ℕ)
    (List ℕ) add_rest_layer atom_layer cmp_layer expr_layer neg_layer prod_rest_layer unary_layer add_layer conj_layer disj_layer post_layer prod_layer
    (Atom-F.Text value)

pub atom_text-True : atom_text (atoms.True) ≡ codes "true "
atom_text-True = ap atom_text (sym atoms.rolls-True) ∙ fold-roll-Atom (List ℕ) (List ℕ) (List ℕ) (List ℕ) (List ℕ) (List ℕ) (List ℕ) (List ℕ)
    (List ℕ) (List ℕ) (List ℕ)
    (List ℕ) add_rest_layer atom_layer cmp_layer expr_layer neg_layer prod_rest_layer unary_layer add_layer conj_layer disj_layer post_layer prod_layer Atom-F.True

pub atom_text-False : atom_text (atoms.False) ≡ codes "false "
atom_text-False = ap atom_text (sym atoms.rolls-False) ∙ fold-roll-Atom (List ℕ) (List ℕ) (List ℕ) (List ℕ) (List ℕ) (List ℕ) (List ℕ) (List ℕ)
    (List ℕ) (List ℕ) (List ℕ)
    (List ℕ) add_rest_layer atom_layer cmp_layer expr_layer neg_layer prod_rest_layer unary_layer add_layer conj_layer disj_layer post_layer prod_layer Atom-F.False

pub atom_text-It : atom_text (atoms.It) ≡ codes "it "
atom_text-It = ap atom_text (sym atoms.rolls-It) ∙ fold-roll-Atom (List ℕ) (List ℕ) (List ℕ) (List ℕ) (List ℕ) (List ℕ) (List ℕ) (List ℕ) (List ℕ)
    (List ℕ) (List ℕ)
    (List ℕ) add_rest_layer atom_layer cmp_layer expr_layer neg_layer prod_rest_layer unary_layer add_layer conj_layer disj_layer post_layer prod_layer Atom-F.It

pub atom_text-Group : (a : Expr) → atom_text (atoms.Group a) ≡ codes "( " ++ (expr_text a ++ codes ") ")
atom_text-Group a = ap atom_text (sym (atoms.rolls-Group a)) ∙ fold-roll-Atom (List ℕ) (List ℕ) (List ℕ) (List ℕ) (List ℕ) (List ℕ) (List ℕ)
    (List ℕ) (List ℕ) (List ℕ) (List ℕ)
    (List ℕ) add_rest_layer atom_layer cmp_layer expr_layer neg_layer prod_rest_layer unary_layer add_layer conj_layer disj_layer post_layer prod_layer
    (Atom-F.Group a)

pub atom_text-Pair : (a : Expr) (b : Expr) → atom_text (atoms.Pair a b) ≡ codes "( " ++ (expr_text a ++ (codes ", " ++ (expr_text b ++ codes ") ")))
atom_text-Pair a b = ap atom_text (sym (atoms.rolls-Pair a b)) ∙ fold-roll-Atom (List ℕ) (List ℕ) (List ℕ) (List ℕ) (List ℕ) (List ℕ) (List ℕ)
    (List ℕ) (List ℕ) (List ℕ) (List ℕ)
    (List ℕ) add_rest_layer atom_layer cmp_layer expr_layer neg_layer prod_rest_layer unary_layer add_layer conj_layer disj_layer post_layer prod_layer
    (Atom-F.Pair a b)

pub atom_text-List : (parts : List Expr) → atom_text (atoms.List parts) ≡ codes "[ " ++ (listed (map expr_text parts) ++ codes "] ")
atom_text-List parts = ap atom_text (sym (atoms.rolls-List parts)) ∙ fold-roll-Atom (List ℕ) (List ℕ) (List ℕ) (List ℕ) (List ℕ) (List ℕ) (List ℕ)
    (List ℕ) (List ℕ) (List ℕ) (List ℕ)
    (List ℕ) add_rest_layer atom_layer cmp_layer expr_layer neg_layer prod_rest_layer unary_layer add_layer conj_layer disj_layer post_layer prod_layer
    (Atom-F.List parts)

pub atom_text-Empty : (t : TypeTree) → atom_text (atoms.Empty t) ≡ codes "empty ( " ++ (type_text t ++ codes ") ")
atom_text-Empty t = ap atom_text (sym (atoms.rolls-Empty t)) ∙ fold-roll-Atom (List ℕ) (List ℕ) (List ℕ) (List ℕ) (List ℕ) (List ℕ) (List ℕ)
    (List ℕ) (List ℕ) (List ℕ) (List ℕ)
    (List ℕ) add_rest_layer atom_layer cmp_layer expr_layer neg_layer prod_rest_layer unary_layer add_layer conj_layer disj_layer post_layer prod_layer
    (Atom-F.Empty t)

pub atom_text-NoneOf : (t : TypeTree) → atom_text (atoms.NoneOf t) ≡ codes "none ( " ++ (type_text t ++ codes ") ")
atom_text-NoneOf t = ap atom_text (sym (atoms.rolls-NoneOf t)) ∙ fold-roll-Atom (List ℕ) (List ℕ) (List ℕ) (List ℕ) (List ℕ) (List ℕ) (List ℕ)
    (List ℕ) (List ℕ) (List ℕ) (List ℕ)
    (List ℕ) add_rest_layer atom_layer cmp_layer expr_layer neg_layer prod_rest_layer unary_layer add_layer conj_layer disj_layer post_layer prod_layer
    (Atom-F.NoneOf t)

pub atom_text-SomeOf : (a : Expr) → atom_text (atoms.SomeOf a) ≡ codes "some ( " ++ (expr_text a ++ codes ") ")
atom_text-SomeOf a = ap atom_text (sym (atoms.rolls-SomeOf a)) ∙ fold-roll-Atom (List ℕ) (List ℕ) (List ℕ) (List ℕ) (List ℕ) (List ℕ) (List ℕ)
    (List ℕ) (List ℕ) (List ℕ) (List ℕ)
    (List ℕ) add_rest_layer atom_layer cmp_layer expr_layer neg_layer prod_rest_layer unary_layer add_layer conj_layer disj_layer post_layer prod_layer
    (Atom-F.SomeOf a)

pub atom_text-Orelse : (a : Expr) (b : Expr) → atom_text (atoms.Orelse a b) ≡ codes "orelse ( " ++ (expr_text a ++ (codes ", " ++
    (expr_text b ++ codes ") ")))
atom_text-Orelse a b = ap atom_text (sym (atoms.rolls-Orelse a b)) ∙ fold-roll-Atom (List ℕ) (List ℕ) (List ℕ) (List ℕ) (List ℕ) (List ℕ) (List ℕ)
    (List ℕ) (List ℕ) (List ℕ) (List ℕ)
    (List ℕ) add_rest_layer atom_layer cmp_layer expr_layer neg_layer prod_rest_layer unary_layer add_layer conj_layer disj_layer post_layer prod_layer
    (Atom-F.Orelse a b)

pub atom_text-Has : (a : Expr) → atom_text (atoms.Has a) ≡ codes "has ( " ++ (expr_text a ++ codes ") ")
atom_text-Has a = ap atom_text (sym (atoms.rolls-Has a)) ∙ fold-roll-Atom (List ℕ) (List ℕ) (List ℕ) (List ℕ) (List ℕ) (List ℕ) (List ℕ) (List ℕ)
    (List ℕ) (List ℕ) (List ℕ)
    (List ℕ) add_rest_layer atom_layer cmp_layer expr_layer neg_layer prod_rest_layer unary_layer add_layer conj_layer disj_layer post_layer prod_layer
    (Atom-F.Has a)

pub atom_text-Lower : (a : Expr) → atom_text (atoms.Lower a) ≡ codes "lower ( " ++ (expr_text a ++ codes ") ")
atom_text-Lower a = ap atom_text (sym (atoms.rolls-Lower a)) ∙ fold-roll-Atom (List ℕ) (List ℕ) (List ℕ) (List ℕ) (List ℕ) (List ℕ) (List ℕ)
    (List ℕ) (List ℕ) (List ℕ) (List ℕ)
    (List ℕ) add_rest_layer atom_layer cmp_layer expr_layer neg_layer prod_rest_layer unary_layer add_layer conj_layer disj_layer post_layer prod_layer
    (Atom-F.Lower a)

pub atom_text-Words : (a : Expr) (most : ℕ) → atom_text (atoms.Words a most) ≡ codes "words ( " ++ (expr_text a ++ (codes ", " ++
    (number_text most ++ codes ") ")))
atom_text-Words a most = ap atom_text (sym (atoms.rolls-Words a most)) ∙ fold-roll-Atom (List ℕ) (List ℕ) (List ℕ) (List ℕ) (List ℕ) (List ℕ)
    (List ℕ) (List ℕ) (List ℕ) (List ℕ) (List ℕ)
    (List ℕ) add_rest_layer atom_layer cmp_layer expr_layer neg_layer prod_rest_layer unary_layer add_layer conj_layer disj_layer post_layer prod_layer
    (Atom-F.Words a most)

pub atom_text-Len : (a : Expr) → atom_text (atoms.Len a) ≡ codes "len ( " ++ (expr_text a ++ codes ") ")
atom_text-Len a = ap atom_text (sym (atoms.rolls-Len a)) ∙ fold-roll-Atom (List ℕ) (List ℕ) (List ℕ) (List ℕ) (List ℕ) (List ℕ) (List ℕ) (List ℕ)
    (List ℕ) (List ℕ) (List ℕ)
    (List ℕ) add_rest_layer atom_layer cmp_layer expr_layer neg_layer prod_rest_layer unary_layer add_layer conj_layer disj_layer post_layer prod_layer
    (Atom-F.Len a)

pub atom_text-Starts : (a : Expr) (b : Expr) → atom_text (atoms.Starts a b) ≡ codes "starts ( " ++ (expr_text a ++ (codes ", " ++
    (expr_text b ++ codes ") ")))
atom_text-Starts a b = ap atom_text (sym (atoms.rolls-Starts a b)) ∙ fold-roll-Atom (List ℕ) (List ℕ) (List ℕ) (List ℕ) (List ℕ) (List ℕ) (List ℕ)
    (List ℕ) (List ℕ) (List ℕ) (List ℕ)
    (List ℕ) add_rest_layer atom_layer cmp_layer expr_layer neg_layer prod_rest_layer unary_layer add_layer conj_layer disj_layer post_layer prod_layer
    (Atom-F.Starts a b)

pub cmp_text-Plain : (a : Add) → cmp_text (cmps.Plain a) ≡ add_text a
cmp_text-Plain a = ap cmp_text (sym (cmps.rolls-Plain a)) ∙ fold-roll-Cmp (List ℕ) (List ℕ) (List ℕ) (List ℕ) (List ℕ) (List ℕ) (List ℕ) (List ℕ)
    (List ℕ) (List ℕ) (List ℕ)
    (List ℕ) add_rest_layer atom_layer cmp_layer expr_layer neg_layer prod_rest_layer unary_layer add_layer conj_layer disj_layer post_layer prod_layer
    (Cmp-F.Cmp::Plain a)

pub cmp_text-Both : (operator : CmpOp) (a : Add) (b : Add) → cmp_text (cmps.Both operator a b) ≡ add_text a ++ (operator_text operator ++ add_text b)
cmp_text-Both operator a b = ap cmp_text (sym (cmps.rolls-Both operator a b)) ∙ fold-roll-Cmp (List ℕ) (List ℕ) (List ℕ) (List ℕ) (List ℕ) (List ℕ)
    (List ℕ) (List ℕ) (List ℕ) (List ℕ) (List ℕ)
    (List ℕ) add_rest_layer atom_layer cmp_layer expr_layer neg_layer prod_rest_layer unary_layer add_layer conj_layer disj_layer post_layer prod_layer
    (Cmp-F.Both operator a b)

pub expr_text-If : (a : Expr) (b : Expr) (c : Expr) → expr_text (exprs.If a b c) ≡ codes "if " ++ (expr_text a ++ (codes "then " ++ (expr_text b ++
    (codes "else " ++ expr_text c))))
expr_text-If a b c = ap expr_text (sym (exprs.rolls-If a b c)) ∙ fold-roll-Expr (List ℕ) (List ℕ) (List ℕ) (List ℕ) (List ℕ) (List ℕ) (List ℕ)
    (List ℕ) (List ℕ) (List ℕ) (List ℕ)
    (List ℕ) add_rest_layer atom_layer cmp_layer expr_layer neg_layer prod_rest_layer unary_layer add_layer conj_layer disj_layer post_layer prod_layer
    (Expr-F.If a b c)

pub expr_text-Plain : (a : Disj) → expr_text (exprs.Plain a) ≡ disj_text a
expr_text-Plain a = ap expr_text (sym (exprs.rolls-Plain a)) ∙ fold-roll-Expr (List ℕ) (List ℕ) (List ℕ) (List ℕ) (List ℕ) (List ℕ) (List ℕ)
    (List ℕ) (List ℕ) (List ℕ) (List ℕ)
    (List ℕ) add_rest_layer atom_layer cmp_layer expr_layer neg_layer prod_rest_layer unary_layer add_layer conj_layer disj_layer post_layer prod_layer
    (Expr-F.Expr::Plain a)

pub neg_text-Not : (a : Neg) → neg_text (negs.Not a) ≡ codes "not " ++ neg_text a
neg_text-Not a = ap neg_text (sym (negs.rolls-Not a)) ∙ fold-roll-Neg (List ℕ) (List ℕ) (List ℕ) (List ℕ) (List ℕ) (List ℕ) (List ℕ) (List ℕ)
    (List ℕ) (List ℕ) (List ℕ)
    (List ℕ) add_rest_layer atom_layer cmp_layer expr_layer neg_layer prod_rest_layer unary_layer add_layer conj_layer disj_layer post_layer prod_layer
    (Neg-F.Not a)

pub neg_text-Plain : (a : Cmp) → neg_text (negs.Plain a) ≡ cmp_text a
neg_text-Plain a = ap neg_text (sym (negs.rolls-Plain a)) ∙ fold-roll-Neg (List ℕ) (List ℕ) (List ℕ) (List ℕ) (List ℕ) (List ℕ) (List ℕ) (List ℕ)
    (List ℕ) (List ℕ) (List ℕ)
    (List ℕ) add_rest_layer atom_layer cmp_layer expr_layer neg_layer prod_rest_layer unary_layer add_layer conj_layer disj_layer post_layer prod_layer
    (Neg-F.Neg::Plain a)

pub prod_rest_text-Times : (a : Unary) → prod_rest_text (prod_rest.Times a) ≡ codes "* " ++ unary_text a
prod_rest_text-Times a = ap prod_rest_text (sym (prod_rest.rolls-Times a)) ∙ fold-roll-ProdRest (List ℕ) (List ℕ) (List ℕ) (List ℕ) (List ℕ)
    (List ℕ) (List ℕ) (List ℕ) (List ℕ) (List ℕ) (List ℕ)
    (List ℕ) add_rest_layer atom_layer cmp_layer expr_layer neg_layer prod_rest_layer unary_layer add_layer conj_layer disj_layer post_layer prod_layer
    (ProdRest-F.Times a)

pub prod_rest_text-Over : (n : ℕ) → prod_rest_text (prod_rest.Over n) ≡ codes "/ " ++ number_text n
prod_rest_text-Over n = ap prod_rest_text (sym (prod_rest.rolls-Over n)) ∙ fold-roll-ProdRest (List ℕ) (List ℕ) (List ℕ) (List ℕ) (List ℕ) (List ℕ)
    (List ℕ) (List ℕ) (List ℕ) (List ℕ) (List ℕ)
    (List ℕ) add_rest_layer atom_layer cmp_layer expr_layer neg_layer prod_rest_layer unary_layer add_layer conj_layer disj_layer post_layer prod_layer
    (ProdRest-F.Over n)

pub prod_rest_text-Modulo : (n : ℕ) → prod_rest_text (prod_rest.Modulo n) ≡ codes "% " ++ number_text n
prod_rest_text-Modulo n = ap prod_rest_text (sym (prod_rest.rolls-Modulo n)) ∙ fold-roll-ProdRest (List ℕ) (List ℕ) (List ℕ) (List ℕ) (List ℕ)
    (List ℕ) (List ℕ) (List ℕ) (List ℕ) (List ℕ) (List ℕ)
    (List ℕ) add_rest_layer atom_layer cmp_layer expr_layer neg_layer prod_rest_layer unary_layer add_layer conj_layer disj_layer post_layer prod_layer
    (ProdRest-F.Modulo n)

pub unary_text-Minus : (a : Unary) → unary_text (unaries.Minus a) ≡ codes "- " ++ unary_text a
unary_text-Minus a = ap unary_text (sym (unaries.rolls-Minus a)) ∙ fold-roll-Unary (List ℕ) (List ℕ) (List ℕ) (List ℕ) (List ℕ) (List ℕ) (List ℕ)
    (List ℕ) (List ℕ) (List ℕ) (List ℕ)
    (List ℕ) add_rest_layer atom_layer cmp_layer expr_layer neg_layer prod_rest_layer unary_layer add_layer conj_layer disj_layer post_layer prod_layer
    (Unary-F.Unary::Minus a)

pub unary_text-Plain : (a : Post) → unary_text (unaries.Plain a) ≡ post_text a
unary_text-Plain a = ap unary_text (sym (unaries.rolls-Plain a)) ∙ fold-roll-Unary (List ℕ) (List ℕ) (List ℕ) (List ℕ) (List ℕ) (List ℕ) (List ℕ)
    (List ℕ) (List ℕ) (List ℕ) (List ℕ)
    (List ℕ) add_rest_layer atom_layer cmp_layer expr_layer neg_layer prod_rest_layer unary_layer add_layer conj_layer disj_layer post_layer prod_layer
    (Unary-F.Unary::Plain a)

pub add_text-Add : (a : Prod) (b : List AddRest) → add_text (roll-Add (record { first = a; rest = b })) ≡ prod_text a ++ all_text
    (map add_rest_text b)
add_text-Add a b = fold-roll-Add (List ℕ) (List ℕ) (List ℕ) (List ℕ) (List ℕ) (List ℕ) (List ℕ) (List ℕ) (List ℕ) (List ℕ) (List ℕ)
    (List ℕ) add_rest_layer atom_layer cmp_layer expr_layer neg_layer prod_rest_layer unary_layer add_layer conj_layer disj_layer post_layer prod_layer
    (record { first = a; rest = b })

pub conj_text-Conj : (a : Neg) (b : List Neg) → conj_text (roll-Conj (record { first = a; rest = b })) ≡ neg_text a ++ each_behind (codes "and ")
    (map neg_text b)
conj_text-Conj a b = fold-roll-Conj (List ℕ) (List ℕ) (List ℕ) (List ℕ) (List ℕ) (List ℕ) (List ℕ) (List ℕ) (List ℕ) (List ℕ) (List ℕ)
    (List ℕ) add_rest_layer atom_layer cmp_layer expr_layer neg_layer prod_rest_layer unary_layer add_layer conj_layer disj_layer post_layer prod_layer
    (record { first = a; rest = b })

pub disj_text-Disj : (a : Conj) (b : List Conj) → disj_text (roll-Disj (record { first = a; rest = b })) ≡ conj_text a ++ each_behind (codes "or ")
    (map conj_text b)
disj_text-Disj a b = fold-roll-Disj (List ℕ) (List ℕ) (List ℕ) (List ℕ) (List ℕ) (List ℕ) (List ℕ) (List ℕ) (List ℕ) (List ℕ) (List ℕ)
    (List ℕ) add_rest_layer atom_layer cmp_layer expr_layer neg_layer prod_rest_layer unary_layer add_layer conj_layer disj_layer post_layer prod_layer
    (record { first = a; rest = b })

pub post_text-Post : (a : Atom) (b : List PostStep) → post_text (roll-Post (record { atom = a; steps = b })) ≡ atom_text a ++ each_behind
    (codes ". ") (map step_text b)
post_text-Post a b = fold-roll-Post (List ℕ) (List ℕ) (List ℕ) (List ℕ) (List ℕ) (List ℕ) (List ℕ) (List ℕ) (List ℕ) (List ℕ) (List ℕ)
    (List ℕ) add_rest_layer atom_layer cmp_layer expr_layer neg_layer prod_rest_layer unary_layer add_layer conj_layer disj_layer post_layer prod_layer
    (record { atom = a; steps = b })

pub prod_text-Prod : (a : Unary) (b : List ProdRest) → prod_text (roll-Prod (record { first = a; rest = b })) ≡ unary_text a ++ all_text
    (map prod_rest_text b)
prod_text-Prod a b = fold-roll-Prod (List ℕ) (List ℕ) (List ℕ) (List ℕ) (List ℕ) (List ℕ) (List ℕ) (List ℕ) (List ℕ) (List ℕ) (List ℕ)
    (List ℕ) add_rest_layer atom_layer cmp_layer expr_layer neg_layer prod_rest_layer unary_layer add_layer conj_layer disj_layer post_layer prod_layer
    (record { first = a; rest = b })

pub head_text-Name : (name : List ℕ) → head_text (heads.Name name) ≡ word_text name
head_text-Name name = ap head_text (sym (heads.rolls-Name name)) ∙ fold-roll-Head (List ℕ) (List ℕ) head_layer stream_layer (Head-F.Name name)

pub head_text-Merge : (a : Stream) (b : Stream) → head_text (heads.Merge a b) ≡ codes "merge ( " ++ (stream_text a ++ (codes ", " ++
    (stream_text b ++ codes ") ")))
head_text-Merge a b = ap head_text (sym (heads.rolls-Merge a b)) ∙ fold-roll-Head (List ℕ) (List ℕ) head_layer stream_layer (Head-F.Merge a b)

pub stream_text-Stream : (a : Head) (b : List Stage) → stream_text (roll-Stream (record { head = a; stages = b })) ≡ head_text a ++ each_behind
    (codes "| ") (map stage_text b)
stream_text-Stream a b = fold-roll-Stream (List ℕ) (List ℕ) head_layer stream_layer (record { head = a; stages = b })
