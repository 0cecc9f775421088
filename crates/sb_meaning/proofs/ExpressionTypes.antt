-- Every expression that the checker takes has values of its type.
use Rattle.std.proofs.Common.{ℕ, true, false, List, [], ◌∷◌, map, sym, subst}
use Rattle.std.specs.List.{AllByRecursion}
use Rattle.sb_grammar.specs.declared.expressions.AddRest.{AddRest}
use Rattle.sb_grammar.specs.declared.expressions.Atom.{Atom}
use Rattle.sb_grammar.specs.declared.expressions.Cmp.{Cmp}
use Rattle.sb_grammar.specs.declared.expressions.Expr.{Expr}
use Rattle.sb_grammar.specs.declared.expressions.Neg.{Neg}
use Rattle.sb_grammar.specs.declared.expressions.ProdRest.{ProdRest}
use Rattle.sb_grammar.specs.declared.expressions.Unary.{Unary}
use Rattle.sb_grammar.specs.declared.expressions.Add.{Add}
use Rattle.sb_grammar.specs.declared.expressions.Conj.{Conj}
use Rattle.sb_grammar.specs.declared.expressions.Disj.{Disj}
use Rattle.sb_grammar.specs.declared.expressions.Post.{Post}
use Rattle.sb_grammar.specs.declared.expressions.Prod.{Prod}
use Rattle.sb_grammar.specs.declared.expressions.PostStep.{PostStep}
use Rattle.sb_grammar.specs.declared.expressions.AddRest.TheOpen.{AddRest-F, Atom-F, Cmp-F, Expr-F, Neg-F, ProdRest-F, Unary-F, Add-F, Conj-F, Disj-F, Post-F, Prod-F}
use Rattle.sb_grammar.specs.declared.expressions.AddRest.TheViews.{roll-AddRest, roll-Atom, roll-Cmp, roll-Expr, roll-Neg, roll-ProdRest, roll-Unary, roll-Add, roll-Conj, roll-Disj, roll-Post, roll-Prod}
use Rattle.sb_grammar.specs.declared.expressions.AddRest.TheFolds.{fold-roll-AddRest, fold-roll-Atom, fold-roll-Cmp, fold-roll-Expr, fold-roll-Neg, fold-roll-ProdRest, fold-roll-Unary, fold-roll-Add, fold-roll-Conj, fold-roll-Disj, fold-roll-Post, fold-roll-Prod, map-AddRest, map-Atom, map-Cmp, map-Expr, map-Neg, map-ProdRest, map-Unary, map-Add, map-Conj, map-Disj, map-Post, map-Prod, ind-Expr}
use Rattle.sb_terms.specs.declared.term.Single.TheVariants as single
use Rattle.sb_terms.specs.declared.term.Double.TheVariants as double
use Rattle.sb_terms.specs.Expressions.{Walk, Next, behind, step_node, comparison, add_rest_layer, atom_layer, cmp_layer, expr_layer, neg_layer, prod_rest_layer, unary_layer, add_layer, conj_layer, disj_layer, post_layer, prod_layer, add_rest_walk, atom_walk, cmp_walk, expr_walk, neg_walk, prod_rest_walk, unary_walk, add_walk, conj_walk, disj_walk, post_walk, prod_walk}
use Rattle.sb_terms.specs.Written.{written_type}
use Rattle.sb_meaning.proofs.NodeTypes.{it_holds, int_holds, text_holds, truth_holds, empty_holds, none_holds}
use Rattle.sb_meaning.proofs.OperationTypes.{KeepsTexts}
use Rattle.sb_meaning.proofs.WalkTypes.{Sound, SoundNext, one_sound, two_sound, if_sound, list_sound, behind_sound, chain_sound, divided_sound, step_sound}

module _ (P : List ℕ → Type 0) (keeps : KeepsTexts P) where
  -- a tree of each kind, with what holds of its walk
  abbrev OfAddRest : AddRest → Type 0
  OfAddRest e = SoundNext P keeps (add_rest_walk e)

  abbrev AddRest-is : Type 0
  AddRest-is = (e : AddRest) × OfAddRest e

  abbrev OfAtom : Atom → Type 0
  OfAtom e = Sound P keeps (atom_walk e)

  abbrev Atom-is : Type 0
  Atom-is = (e : Atom) × OfAtom e

  abbrev OfCmp : Cmp → Type 0
  OfCmp e = Sound P keeps (cmp_walk e)

  abbrev Cmp-is : Type 0
  Cmp-is = (e : Cmp) × OfCmp e

  abbrev OfExpr : Expr → Type 0
  OfExpr e = Sound P keeps (expr_walk e)

  abbrev Expr-is : Type 0
  Expr-is = (e : Expr) × OfExpr e

  abbrev OfNeg : Neg → Type 0
  OfNeg e = Sound P keeps (neg_walk e)

  abbrev Neg-is : Type 0
  Neg-is = (e : Neg) × OfNeg e

  abbrev OfProdRest : ProdRest → Type 0
  OfProdRest e = SoundNext P keeps (prod_rest_walk e)

  abbrev ProdRest-is : Type 0
  ProdRest-is = (e : ProdRest) × OfProdRest e

  abbrev OfUnary : Unary → Type 0
  OfUnary e = Sound P keeps (unary_walk e)

  abbrev Unary-is : Type 0
  Unary-is = (e : Unary) × OfUnary e

  abbrev OfAdd : Add → Type 0
  OfAdd e = Sound P keeps (add_walk e)

  abbrev Add-is : Type 0
  Add-is = (e : Add) × OfAdd e

  abbrev OfConj : Conj → Type 0
  OfConj e = Sound P keeps (conj_walk e)

  abbrev Conj-is : Type 0
  Conj-is = (e : Conj) × OfConj e

  abbrev OfDisj : Disj → Type 0
  OfDisj e = Sound P keeps (disj_walk e)

  abbrev Disj-is : Type 0
  Disj-is = (e : Disj) × OfDisj e

  abbrev OfPost : Post → Type 0
  OfPost e = Sound P keeps (post_walk e)

  abbrev Post-is : Type 0
  Post-is = (e : Post) × OfPost e

  abbrev OfProd : Prod → Type 0
  OfProd e = Sound P keeps (prod_walk e)

  abbrev Prod-is : Type 0
  Prod-is = (e : Prod) × OfProd e

  -- what holds of a layer holds of the tree
  roll_add_rest : (l : AddRest-F AddRest Atom Cmp Expr Neg ProdRest Unary Add Conj Disj Post Prod) → SoundNext P keeps (add_rest_layer (map-AddRest AddRest Atom Cmp Expr Neg ProdRest Unary Add Conj Disj Post Prod Next Walk Walk Walk Walk Next Walk Walk Walk Walk Walk Walk add_rest_walk atom_walk cmp_walk expr_walk neg_walk prod_rest_walk unary_walk add_walk conj_walk disj_walk post_walk prod_walk l)) → OfAddRest (roll-AddRest l)
  roll_add_rest l = subst (SoundNext P keeps) (sym (fold-roll-AddRest Next Walk Walk Walk Walk Next Walk Walk Walk Walk Walk Walk add_rest_layer atom_layer cmp_layer expr_layer neg_layer prod_rest_layer unary_layer add_layer conj_layer disj_layer post_layer prod_layer l))

  roll_atom : (l : Atom-F AddRest Atom Cmp Expr Neg ProdRest Unary Add Conj Disj Post Prod) → Sound P keeps (atom_layer (map-Atom AddRest Atom Cmp Expr Neg ProdRest Unary Add Conj Disj Post Prod Next Walk Walk Walk Walk Next Walk Walk Walk Walk Walk Walk add_rest_walk atom_walk cmp_walk expr_walk neg_walk prod_rest_walk unary_walk add_walk conj_walk disj_walk post_walk prod_walk l)) → OfAtom (roll-Atom l)
  roll_atom l = subst (Sound P keeps) (sym (fold-roll-Atom Next Walk Walk Walk Walk Next Walk Walk Walk Walk Walk Walk add_rest_layer atom_layer cmp_layer expr_layer neg_layer prod_rest_layer unary_layer add_layer conj_layer disj_layer post_layer prod_layer l))

  roll_cmp : (l : Cmp-F AddRest Atom Cmp Expr Neg ProdRest Unary Add Conj Disj Post Prod) → Sound P keeps (cmp_layer (map-Cmp AddRest Atom Cmp Expr Neg ProdRest Unary Add Conj Disj Post Prod Next Walk Walk Walk Walk Next Walk Walk Walk Walk Walk Walk add_rest_walk atom_walk cmp_walk expr_walk neg_walk prod_rest_walk unary_walk add_walk conj_walk disj_walk post_walk prod_walk l)) → OfCmp (roll-Cmp l)
  roll_cmp l = subst (Sound P keeps) (sym (fold-roll-Cmp Next Walk Walk Walk Walk Next Walk Walk Walk Walk Walk Walk add_rest_layer atom_layer cmp_layer expr_layer neg_layer prod_rest_layer unary_layer add_layer conj_layer disj_layer post_layer prod_layer l))

  roll_expr : (l : Expr-F AddRest Atom Cmp Expr Neg ProdRest Unary Add Conj Disj Post Prod) → Sound P keeps (expr_layer (map-Expr AddRest Atom Cmp Expr Neg ProdRest Unary Add Conj Disj Post Prod Next Walk Walk Walk Walk Next Walk Walk Walk Walk Walk Walk add_rest_walk atom_walk cmp_walk expr_walk neg_walk prod_rest_walk unary_walk add_walk conj_walk disj_walk post_walk prod_walk l)) → OfExpr (roll-Expr l)
  roll_expr l = subst (Sound P keeps) (sym (fold-roll-Expr Next Walk Walk Walk Walk Next Walk Walk Walk Walk Walk Walk add_rest_layer atom_layer cmp_layer expr_layer neg_layer prod_rest_layer unary_layer add_layer conj_layer disj_layer post_layer prod_layer l))

  roll_neg : (l : Neg-F AddRest Atom Cmp Expr Neg ProdRest Unary Add Conj Disj Post Prod) → Sound P keeps (neg_layer (map-Neg AddRest Atom Cmp Expr Neg ProdRest Unary Add Conj Disj Post Prod Next Walk Walk Walk Walk Next Walk Walk Walk Walk Walk Walk add_rest_walk atom_walk cmp_walk expr_walk neg_walk prod_rest_walk unary_walk add_walk conj_walk disj_walk post_walk prod_walk l)) → OfNeg (roll-Neg l)
  roll_neg l = subst (Sound P keeps) (sym (fold-roll-Neg Next Walk Walk Walk Walk Next Walk Walk Walk Walk Walk Walk add_rest_layer atom_layer cmp_layer expr_layer neg_layer prod_rest_layer unary_layer add_layer conj_layer disj_layer post_layer prod_layer l))

  roll_prod_rest : (l : ProdRest-F AddRest Atom Cmp Expr Neg ProdRest Unary Add Conj Disj Post Prod) → SoundNext P keeps (prod_rest_layer (map-ProdRest AddRest Atom Cmp Expr Neg ProdRest Unary Add Conj Disj Post Prod Next Walk Walk Walk Walk Next Walk Walk Walk Walk Walk Walk add_rest_walk atom_walk cmp_walk expr_walk neg_walk prod_rest_walk unary_walk add_walk conj_walk disj_walk post_walk prod_walk l)) → OfProdRest (roll-ProdRest l)
  roll_prod_rest l = subst (SoundNext P keeps) (sym (fold-roll-ProdRest Next Walk Walk Walk Walk Next Walk Walk Walk Walk Walk Walk add_rest_layer atom_layer cmp_layer expr_layer neg_layer prod_rest_layer unary_layer add_layer conj_layer disj_layer post_layer prod_layer l))

  roll_unary : (l : Unary-F AddRest Atom Cmp Expr Neg ProdRest Unary Add Conj Disj Post Prod) → Sound P keeps (unary_layer (map-Unary AddRest Atom Cmp Expr Neg ProdRest Unary Add Conj Disj Post Prod Next Walk Walk Walk Walk Next Walk Walk Walk Walk Walk Walk add_rest_walk atom_walk cmp_walk expr_walk neg_walk prod_rest_walk unary_walk add_walk conj_walk disj_walk post_walk prod_walk l)) → OfUnary (roll-Unary l)
  roll_unary l = subst (Sound P keeps) (sym (fold-roll-Unary Next Walk Walk Walk Walk Next Walk Walk Walk Walk Walk Walk add_rest_layer atom_layer cmp_layer expr_layer neg_layer prod_rest_layer unary_layer add_layer conj_layer disj_layer post_layer prod_layer l))

  roll_add : (l : Add-F AddRest Atom Cmp Expr Neg ProdRest Unary Add Conj Disj Post Prod) → Sound P keeps (add_layer (map-Add AddRest Atom Cmp Expr Neg ProdRest Unary Add Conj Disj Post Prod Next Walk Walk Walk Walk Next Walk Walk Walk Walk Walk Walk add_rest_walk atom_walk cmp_walk expr_walk neg_walk prod_rest_walk unary_walk add_walk conj_walk disj_walk post_walk prod_walk l)) → OfAdd (roll-Add l)
  roll_add l = subst (Sound P keeps) (sym (fold-roll-Add Next Walk Walk Walk Walk Next Walk Walk Walk Walk Walk Walk add_rest_layer atom_layer cmp_layer expr_layer neg_layer prod_rest_layer unary_layer add_layer conj_layer disj_layer post_layer prod_layer l))

  roll_conj : (l : Conj-F AddRest Atom Cmp Expr Neg ProdRest Unary Add Conj Disj Post Prod) → Sound P keeps (conj_layer (map-Conj AddRest Atom Cmp Expr Neg ProdRest Unary Add Conj Disj Post Prod Next Walk Walk Walk Walk Next Walk Walk Walk Walk Walk Walk add_rest_walk atom_walk cmp_walk expr_walk neg_walk prod_rest_walk unary_walk add_walk conj_walk disj_walk post_walk prod_walk l)) → OfConj (roll-Conj l)
  roll_conj l = subst (Sound P keeps) (sym (fold-roll-Conj Next Walk Walk Walk Walk Next Walk Walk Walk Walk Walk Walk add_rest_layer atom_layer cmp_layer expr_layer neg_layer prod_rest_layer unary_layer add_layer conj_layer disj_layer post_layer prod_layer l))

  roll_disj : (l : Disj-F AddRest Atom Cmp Expr Neg ProdRest Unary Add Conj Disj Post Prod) → Sound P keeps (disj_layer (map-Disj AddRest Atom Cmp Expr Neg ProdRest Unary Add Conj Disj Post Prod Next Walk Walk Walk Walk Next Walk Walk Walk Walk Walk Walk add_rest_walk atom_walk cmp_walk expr_walk neg_walk prod_rest_walk unary_walk add_walk conj_walk disj_walk post_walk prod_walk l)) → OfDisj (roll-Disj l)
  roll_disj l = subst (Sound P keeps) (sym (fold-roll-Disj Next Walk Walk Walk Walk Next Walk Walk Walk Walk Walk Walk add_rest_layer atom_layer cmp_layer expr_layer neg_layer prod_rest_layer unary_layer add_layer conj_layer disj_layer post_layer prod_layer l))

  roll_post : (l : Post-F AddRest Atom Cmp Expr Neg ProdRest Unary Add Conj Disj Post Prod) → Sound P keeps (post_layer (map-Post AddRest Atom Cmp Expr Neg ProdRest Unary Add Conj Disj Post Prod Next Walk Walk Walk Walk Next Walk Walk Walk Walk Walk Walk add_rest_walk atom_walk cmp_walk expr_walk neg_walk prod_rest_walk unary_walk add_walk conj_walk disj_walk post_walk prod_walk l)) → OfPost (roll-Post l)
  roll_post l = subst (Sound P keeps) (sym (fold-roll-Post Next Walk Walk Walk Walk Next Walk Walk Walk Walk Walk Walk add_rest_layer atom_layer cmp_layer expr_layer neg_layer prod_rest_layer unary_layer add_layer conj_layer disj_layer post_layer prod_layer l))

  roll_prod : (l : Prod-F AddRest Atom Cmp Expr Neg ProdRest Unary Add Conj Disj Post Prod) → Sound P keeps (prod_layer (map-Prod AddRest Atom Cmp Expr Neg ProdRest Unary Add Conj Disj Post Prod Next Walk Walk Walk Walk Next Walk Walk Walk Walk Walk Walk add_rest_walk atom_walk cmp_walk expr_walk neg_walk prod_rest_walk unary_walk add_walk conj_walk disj_walk post_walk prod_walk l)) → OfProd (roll-Prod l)
  roll_prod l = subst (Sound P keeps) (sym (fold-roll-Prod Next Walk Walk Walk Walk Next Walk Walk Walk Walk Walk Walk add_rest_layer atom_layer cmp_layer expr_layer neg_layer prod_rest_layer unary_layer add_layer conj_layer disj_layer post_layer prod_layer l))

  -- parts in a row
  add_rests : (es : List AddRest-is) → AllByRecursion (SoundNext P keeps) (map add_rest_walk (map (λ e. e.0) es))
  add_rests [] = tt
  add_rests (e ∷ es) = (e.1, add_rests es)

  prod_rests : (es : List ProdRest-is) → AllByRecursion (SoundNext P keeps) (map prod_rest_walk (map (λ e. e.0) es))
  prod_rests [] = tt
  prod_rests (e ∷ es) = (e.1, prod_rests es)

  exprs : (es : List Expr-is) → AllByRecursion (Sound P keeps) (map expr_walk (map (λ e. e.0) es))
  exprs [] = tt
  exprs (e ∷ es) = (e.1, exprs es)

  conjs : (es : List Conj-is) → AllByRecursion (SoundNext P keeps) (map (behind double.Or) (map conj_walk (map (λ e. e.0) es)))
  conjs [] = tt
  conjs (e ∷ es) = (behind_sound P keeps double.Or (conj_walk e.0) e.1, conjs es)

  negs : (es : List Neg-is) → AllByRecursion (SoundNext P keeps) (map (behind double.And) (map neg_walk (map (λ e. e.0) es)))
  negs [] = tt
  negs (e ∷ es) = (behind_sound P keeps double.And (neg_walk e.0) e.1, negs es)

  all_steps : (ss : List PostStep) → AllByRecursion (SoundNext P keeps) (map (λ s it x. step_node s x) ss)
  all_steps [] = tt
  all_steps (s ∷ ss) = (step_sound P keeps s, all_steps ss)

  add_rest_case : (y : AddRest-F AddRest-is Atom-is Cmp-is Expr-is Neg-is ProdRest-is Unary-is Add-is Conj-is Disj-is Post-is Prod-is) → OfAddRest (roll-AddRest (map-AddRest AddRest-is Atom-is Cmp-is Expr-is Neg-is ProdRest-is Unary-is Add-is Conj-is Disj-is Post-is Prod-is AddRest Atom Cmp Expr Neg ProdRest Unary Add Conj Disj Post Prod (λ e. e.0) (λ e. e.0) (λ e. e.0) (λ e. e.0) (λ e. e.0) (λ e. e.0) (λ e. e.0) (λ e. e.0) (λ e. e.0) (λ e. e.0) (λ e. e.0) (λ e. e.0) y))
  add_rest_case (AddRest-F.Plus a) = roll_add_rest (AddRest-F.Plus a.0) (behind_sound P keeps double.Plus (prod_walk a.0) a.1)
  add_rest_case (AddRest-F.AddRest::Minus a) = roll_add_rest (AddRest-F.AddRest::Minus a.0) (behind_sound P keeps double.Minus (prod_walk a.0) a.1)

  atom_case : (y : Atom-F AddRest-is Atom-is Cmp-is Expr-is Neg-is ProdRest-is Unary-is Add-is Conj-is Disj-is Post-is Prod-is) → OfAtom (roll-Atom (map-Atom AddRest-is Atom-is Cmp-is Expr-is Neg-is ProdRest-is Unary-is Add-is Conj-is Disj-is Post-is Prod-is AddRest Atom Cmp Expr Neg ProdRest Unary Add Conj Disj Post Prod (λ e. e.0) (λ e. e.0) (λ e. e.0) (λ e. e.0) (λ e. e.0) (λ e. e.0) (λ e. e.0) (λ e. e.0) (λ e. e.0) (λ e. e.0) (λ e. e.0) (λ e. e.0) y))
  atom_case (Atom-F.Int n) = roll_atom (Atom-F.Int n) (λ t x. int_holds P keeps n t x)
  atom_case (Atom-F.Text value) = roll_atom (Atom-F.Text value) (λ t x. text_holds P keeps value t x)
  atom_case Atom-F.True = roll_atom Atom-F.True (λ t x. truth_holds P keeps true t x)
  atom_case Atom-F.False = roll_atom Atom-F.False (λ t x. truth_holds P keeps false t x)
  atom_case Atom-F.It = roll_atom Atom-F.It (λ t x. it_holds P keeps t x)
  atom_case (Atom-F.Group a) = roll_atom (Atom-F.Group a.0) a.1
  atom_case (Atom-F.Pair a b) = roll_atom (Atom-F.Pair a.0 b.0) (two_sound P keeps double.Pair (expr_walk a.0) (expr_walk b.0) a.1 b.1)
  atom_case (Atom-F.List parts) = roll_atom (Atom-F.List (map (λ e. e.0) parts)) (list_sound P keeps (map expr_walk (map (λ e. e.0) parts)) (exprs parts))
  atom_case (Atom-F.Empty u) = roll_atom (Atom-F.Empty u) (λ t x. empty_holds P keeps (written_type u) t x)
  atom_case (Atom-F.NoneOf u) = roll_atom (Atom-F.NoneOf u) (λ t x. none_holds P keeps (written_type u) t x)
  atom_case (Atom-F.SomeOf a) = roll_atom (Atom-F.SomeOf a.0) (one_sound P keeps single.Wrap (expr_walk a.0) tt a.1)
  atom_case (Atom-F.Orelse a b) = roll_atom (Atom-F.Orelse a.0 b.0) (two_sound P keeps double.Orelse (expr_walk a.0) (expr_walk b.0) a.1 b.1)
  atom_case (Atom-F.Has a) = roll_atom (Atom-F.Has a.0) (one_sound P keeps single.Has (expr_walk a.0) tt a.1)
  atom_case (Atom-F.Lower a) = roll_atom (Atom-F.Lower a.0) (one_sound P keeps single.Lower (expr_walk a.0) tt a.1)
  atom_case (Atom-F.Words a most) = roll_atom (Atom-F.Words a.0 most) (one_sound P keeps (single.Words most) (expr_walk a.0) tt a.1)
  atom_case (Atom-F.Len a) = roll_atom (Atom-F.Len a.0) (one_sound P keeps single.Len (expr_walk a.0) tt a.1)
  atom_case (Atom-F.Starts a b) = roll_atom (Atom-F.Starts a.0 b.0) (two_sound P keeps double.Starts (expr_walk a.0) (expr_walk b.0) a.1 b.1)

  cmp_case : (y : Cmp-F AddRest-is Atom-is Cmp-is Expr-is Neg-is ProdRest-is Unary-is Add-is Conj-is Disj-is Post-is Prod-is) → OfCmp (roll-Cmp (map-Cmp AddRest-is Atom-is Cmp-is Expr-is Neg-is ProdRest-is Unary-is Add-is Conj-is Disj-is Post-is Prod-is AddRest Atom Cmp Expr Neg ProdRest Unary Add Conj Disj Post Prod (λ e. e.0) (λ e. e.0) (λ e. e.0) (λ e. e.0) (λ e. e.0) (λ e. e.0) (λ e. e.0) (λ e. e.0) (λ e. e.0) (λ e. e.0) (λ e. e.0) (λ e. e.0) y))
  cmp_case (Cmp-F.Cmp::Plain a) = roll_cmp (Cmp-F.Cmp::Plain a.0) a.1
  cmp_case (Cmp-F.Both op a b) = roll_cmp (Cmp-F.Both op a.0 b.0) (two_sound P keeps (double.Compare (comparison op)) (add_walk a.0) (add_walk b.0) a.1 b.1)

  expr_case : (y : Expr-F AddRest-is Atom-is Cmp-is Expr-is Neg-is ProdRest-is Unary-is Add-is Conj-is Disj-is Post-is Prod-is) → OfExpr (roll-Expr (map-Expr AddRest-is Atom-is Cmp-is Expr-is Neg-is ProdRest-is Unary-is Add-is Conj-is Disj-is Post-is Prod-is AddRest Atom Cmp Expr Neg ProdRest Unary Add Conj Disj Post Prod (λ e. e.0) (λ e. e.0) (λ e. e.0) (λ e. e.0) (λ e. e.0) (λ e. e.0) (λ e. e.0) (λ e. e.0) (λ e. e.0) (λ e. e.0) (λ e. e.0) (λ e. e.0) y))
  expr_case (Expr-F.If c a b) = roll_expr (Expr-F.If c.0 a.0 b.0) (if_sound P keeps (expr_walk c.0) (expr_walk a.0) (expr_walk b.0) a.1 b.1)
  expr_case (Expr-F.Expr::Plain a) = roll_expr (Expr-F.Expr::Plain a.0) a.1

  neg_case : (y : Neg-F AddRest-is Atom-is Cmp-is Expr-is Neg-is ProdRest-is Unary-is Add-is Conj-is Disj-is Post-is Prod-is) → OfNeg (roll-Neg (map-Neg AddRest-is Atom-is Cmp-is Expr-is Neg-is ProdRest-is Unary-is Add-is Conj-is Disj-is Post-is Prod-is AddRest Atom Cmp Expr Neg ProdRest Unary Add Conj Disj Post Prod (λ e. e.0) (λ e. e.0) (λ e. e.0) (λ e. e.0) (λ e. e.0) (λ e. e.0) (λ e. e.0) (λ e. e.0) (λ e. e.0) (λ e. e.0) (λ e. e.0) (λ e. e.0) y))
  neg_case (Neg-F.Not a) = roll_neg (Neg-F.Not a.0) (one_sound P keeps single.Not (neg_walk a.0) tt a.1)
  neg_case (Neg-F.Neg::Plain a) = roll_neg (Neg-F.Neg::Plain a.0) a.1

  prod_rest_case : (y : ProdRest-F AddRest-is Atom-is Cmp-is Expr-is Neg-is ProdRest-is Unary-is Add-is Conj-is Disj-is Post-is Prod-is) → OfProdRest (roll-ProdRest (map-ProdRest AddRest-is Atom-is Cmp-is Expr-is Neg-is ProdRest-is Unary-is Add-is Conj-is Disj-is Post-is Prod-is AddRest Atom Cmp Expr Neg ProdRest Unary Add Conj Disj Post Prod (λ e. e.0) (λ e. e.0) (λ e. e.0) (λ e. e.0) (λ e. e.0) (λ e. e.0) (λ e. e.0) (λ e. e.0) (λ e. e.0) (λ e. e.0) (λ e. e.0) (λ e. e.0) y))
  prod_rest_case (ProdRest-F.Times a) = roll_prod_rest (ProdRest-F.Times a.0) (behind_sound P keeps double.Times (unary_walk a.0) a.1)
  prod_rest_case (ProdRest-F.Over n) = roll_prod_rest (ProdRest-F.Over n) (divided_sound P keeps single.Over n (λ _ _. tt))
  prod_rest_case (ProdRest-F.Modulo n) = roll_prod_rest (ProdRest-F.Modulo n) (divided_sound P keeps single.Modulo n (λ _ fits. fits))

  unary_case : (y : Unary-F AddRest-is Atom-is Cmp-is Expr-is Neg-is ProdRest-is Unary-is Add-is Conj-is Disj-is Post-is Prod-is) → OfUnary (roll-Unary (map-Unary AddRest-is Atom-is Cmp-is Expr-is Neg-is ProdRest-is Unary-is Add-is Conj-is Disj-is Post-is Prod-is AddRest Atom Cmp Expr Neg ProdRest Unary Add Conj Disj Post Prod (λ e. e.0) (λ e. e.0) (λ e. e.0) (λ e. e.0) (λ e. e.0) (λ e. e.0) (λ e. e.0) (λ e. e.0) (λ e. e.0) (λ e. e.0) (λ e. e.0) (λ e. e.0) y))
  unary_case (Unary-F.Unary::Minus a) = roll_unary (Unary-F.Unary::Minus a.0) (one_sound P keeps single.Minus (unary_walk a.0) tt a.1)
  unary_case (Unary-F.Unary::Plain a) = roll_unary (Unary-F.Unary::Plain a.0) a.1

  add_case : (y : Add-F AddRest-is Atom-is Cmp-is Expr-is Neg-is ProdRest-is Unary-is Add-is Conj-is Disj-is Post-is Prod-is) → OfAdd (roll-Add (map-Add AddRest-is Atom-is Cmp-is Expr-is Neg-is ProdRest-is Unary-is Add-is Conj-is Disj-is Post-is Prod-is AddRest Atom Cmp Expr Neg ProdRest Unary Add Conj Disj Post Prod (λ e. e.0) (λ e. e.0) (λ e. e.0) (λ e. e.0) (λ e. e.0) (λ e. e.0) (λ e. e.0) (λ e. e.0) (λ e. e.0) (λ e. e.0) (λ e. e.0) (λ e. e.0) y))
  add_case y = roll_add (map-Add AddRest-is Atom-is Cmp-is Expr-is Neg-is ProdRest-is Unary-is Add-is Conj-is Disj-is Post-is Prod-is AddRest Atom Cmp Expr Neg ProdRest Unary Add Conj Disj Post Prod (λ e. e.0) (λ e. e.0) (λ e. e.0) (λ e. e.0) (λ e. e.0) (λ e. e.0) (λ e. e.0) (λ e. e.0) (λ e. e.0) (λ e. e.0) (λ e. e.0) (λ e. e.0) y) (chain_sound P keeps (prod_walk y.first.0) (map add_rest_walk (map (λ e. e.0) y.rest)) y.first.1 (add_rests y.rest))

  conj_case : (y : Conj-F AddRest-is Atom-is Cmp-is Expr-is Neg-is ProdRest-is Unary-is Add-is Conj-is Disj-is Post-is Prod-is) → OfConj (roll-Conj (map-Conj AddRest-is Atom-is Cmp-is Expr-is Neg-is ProdRest-is Unary-is Add-is Conj-is Disj-is Post-is Prod-is AddRest Atom Cmp Expr Neg ProdRest Unary Add Conj Disj Post Prod (λ e. e.0) (λ e. e.0) (λ e. e.0) (λ e. e.0) (λ e. e.0) (λ e. e.0) (λ e. e.0) (λ e. e.0) (λ e. e.0) (λ e. e.0) (λ e. e.0) (λ e. e.0) y))
  conj_case y = roll_conj (map-Conj AddRest-is Atom-is Cmp-is Expr-is Neg-is ProdRest-is Unary-is Add-is Conj-is Disj-is Post-is Prod-is AddRest Atom Cmp Expr Neg ProdRest Unary Add Conj Disj Post Prod (λ e. e.0) (λ e. e.0) (λ e. e.0) (λ e. e.0) (λ e. e.0) (λ e. e.0) (λ e. e.0) (λ e. e.0) (λ e. e.0) (λ e. e.0) (λ e. e.0) (λ e. e.0) y) (chain_sound P keeps (neg_walk y.first.0) (map (behind double.And) (map neg_walk (map (λ e. e.0) y.rest))) y.first.1 (negs y.rest))

  disj_case : (y : Disj-F AddRest-is Atom-is Cmp-is Expr-is Neg-is ProdRest-is Unary-is Add-is Conj-is Disj-is Post-is Prod-is) → OfDisj (roll-Disj (map-Disj AddRest-is Atom-is Cmp-is Expr-is Neg-is ProdRest-is Unary-is Add-is Conj-is Disj-is Post-is Prod-is AddRest Atom Cmp Expr Neg ProdRest Unary Add Conj Disj Post Prod (λ e. e.0) (λ e. e.0) (λ e. e.0) (λ e. e.0) (λ e. e.0) (λ e. e.0) (λ e. e.0) (λ e. e.0) (λ e. e.0) (λ e. e.0) (λ e. e.0) (λ e. e.0) y))
  disj_case y = roll_disj (map-Disj AddRest-is Atom-is Cmp-is Expr-is Neg-is ProdRest-is Unary-is Add-is Conj-is Disj-is Post-is Prod-is AddRest Atom Cmp Expr Neg ProdRest Unary Add Conj Disj Post Prod (λ e. e.0) (λ e. e.0) (λ e. e.0) (λ e. e.0) (λ e. e.0) (λ e. e.0) (λ e. e.0) (λ e. e.0) (λ e. e.0) (λ e. e.0) (λ e. e.0) (λ e. e.0) y) (chain_sound P keeps (conj_walk y.first.0) (map (behind double.Or) (map conj_walk (map (λ e. e.0) y.rest))) y.first.1 (conjs y.rest))

  post_case : (y : Post-F AddRest-is Atom-is Cmp-is Expr-is Neg-is ProdRest-is Unary-is Add-is Conj-is Disj-is Post-is Prod-is) → OfPost (roll-Post (map-Post AddRest-is Atom-is Cmp-is Expr-is Neg-is ProdRest-is Unary-is Add-is Conj-is Disj-is Post-is Prod-is AddRest Atom Cmp Expr Neg ProdRest Unary Add Conj Disj Post Prod (λ e. e.0) (λ e. e.0) (λ e. e.0) (λ e. e.0) (λ e. e.0) (λ e. e.0) (λ e. e.0) (λ e. e.0) (λ e. e.0) (λ e. e.0) (λ e. e.0) (λ e. e.0) y))
  post_case y = roll_post (map-Post AddRest-is Atom-is Cmp-is Expr-is Neg-is ProdRest-is Unary-is Add-is Conj-is Disj-is Post-is Prod-is AddRest Atom Cmp Expr Neg ProdRest Unary Add Conj Disj Post Prod (λ e. e.0) (λ e. e.0) (λ e. e.0) (λ e. e.0) (λ e. e.0) (λ e. e.0) (λ e. e.0) (λ e. e.0) (λ e. e.0) (λ e. e.0) (λ e. e.0) (λ e. e.0) y) (chain_sound P keeps (atom_walk y.atom.0) (map (λ s it x. step_node s x) y.steps) y.atom.1 (all_steps y.steps))

  prod_case : (y : Prod-F AddRest-is Atom-is Cmp-is Expr-is Neg-is ProdRest-is Unary-is Add-is Conj-is Disj-is Post-is Prod-is) → OfProd (roll-Prod (map-Prod AddRest-is Atom-is Cmp-is Expr-is Neg-is ProdRest-is Unary-is Add-is Conj-is Disj-is Post-is Prod-is AddRest Atom Cmp Expr Neg ProdRest Unary Add Conj Disj Post Prod (λ e. e.0) (λ e. e.0) (λ e. e.0) (λ e. e.0) (λ e. e.0) (λ e. e.0) (λ e. e.0) (λ e. e.0) (λ e. e.0) (λ e. e.0) (λ e. e.0) (λ e. e.0) y))
  prod_case y = roll_prod (map-Prod AddRest-is Atom-is Cmp-is Expr-is Neg-is ProdRest-is Unary-is Add-is Conj-is Disj-is Post-is Prod-is AddRest Atom Cmp Expr Neg ProdRest Unary Add Conj Disj Post Prod (λ e. e.0) (λ e. e.0) (λ e. e.0) (λ e. e.0) (λ e. e.0) (λ e. e.0) (λ e. e.0) (λ e. e.0) (λ e. e.0) (λ e. e.0) (λ e. e.0) (λ e. e.0) y) (chain_sound P keeps (unary_walk y.first.0) (map prod_rest_walk (map (λ e. e.0) y.rest)) y.first.1 (prod_rests y.rest))

  -- every expression's walk is sound
  pub expr_sound : (e : Expr) → Sound P keeps (expr_walk e)
  expr_sound = ind-Expr OfAddRest OfAtom OfCmp OfExpr OfNeg OfProdRest OfUnary OfAdd OfConj OfDisj OfPost OfProd
      (λ x y is. subst (λ z. OfAddRest (roll-AddRest z)) is (add_rest_case y))
      (λ x y is. subst (λ z. OfAtom (roll-Atom z)) is (atom_case y))
      (λ x y is. subst (λ z. OfCmp (roll-Cmp z)) is (cmp_case y))
      (λ x y is. subst (λ z. OfExpr (roll-Expr z)) is (expr_case y))
      (λ x y is. subst (λ z. OfNeg (roll-Neg z)) is (neg_case y))
      (λ x y is. subst (λ z. OfProdRest (roll-ProdRest z)) is (prod_rest_case y))
      (λ x y is. subst (λ z. OfUnary (roll-Unary z)) is (unary_case y))
      (λ x y is. subst (λ z. OfAdd (roll-Add z)) is (add_case y))
      (λ x y is. subst (λ z. OfConj (roll-Conj z)) is (conj_case y))
      (λ x y is. subst (λ z. OfDisj (roll-Disj z)) is (disj_case y))
      (λ x y is. subst (λ z. OfPost (roll-Post z)) is (post_case y))
      (λ x y is. subst (λ z. OfProd (roll-Prod z)) is (prod_case y))
