-- The text that is printed of each part of a program: its tokens, each with a space behind it.
use Rattle.std.specs.Prelude.{ℕ, Bool, true, false, codes, decimal, List, [], ◌∷◌, ◌++◌, map}
use Rattle.std.specs.List.{flat_map}
use Rattle.sb_tokens.specs.Quote.{quoted_byte}
use Rattle.sb_grammar.specs.declared.programs.FieldTree.{FieldTree}
use Rattle.sb_grammar.specs.declared.programs.Statement.{Statement}
use Rattle.sb_grammar.specs.declared.programs.Statement.TheVariants as statements
use Rattle.sb_grammar.specs.declared.programs.Stream.{Stream}
use Rattle.sb_grammar.specs.declared.programs.Head.{Head}
use Rattle.sb_grammar.specs.declared.programs.Head.TheOpen.{Head-F, Stream-F}
use Rattle.sb_grammar.specs.declared.programs.Head.TheFolds.{fold-Head, fold-Stream}
use Rattle.sb_grammar.specs.declared.programs.Stage.{Stage}
use Rattle.sb_grammar.specs.declared.programs.Stage.TheVariants as staged
use Rattle.sb_grammar.specs.declared.programs.MonoTree.{MonoTree}
use Rattle.sb_grammar.specs.declared.programs.MonoTree.TheOpen.{MonoTree-F}
use Rattle.sb_grammar.specs.declared.programs.MonoTree.TheFolds.{fold-MonoTree}
use Rattle.sb_grammar.specs.declared.expressions.Scalar.{Scalar}
use Rattle.sb_grammar.specs.declared.expressions.Scalar.TheVariants as scalars
use Rattle.sb_grammar.specs.declared.expressions.TypeTree.{TypeTree}
use Rattle.sb_grammar.specs.declared.expressions.TypeTree.TheOpen.{TypeTree-F}
use Rattle.sb_grammar.specs.declared.expressions.TypeTree.TheFolds.{fold-TypeTree}
use Rattle.sb_grammar.specs.declared.expressions.CmpOp.{CmpOp}
use Rattle.sb_grammar.specs.declared.expressions.CmpOp.TheVariants as operators
use Rattle.sb_grammar.specs.declared.expressions.PostStep.{PostStep}
use Rattle.sb_grammar.specs.declared.expressions.PostStep.TheVariants as steps
use Rattle.sb_grammar.specs.declared.expressions.AddRest.{AddRest}
use Rattle.sb_grammar.specs.declared.expressions.Atom.{Atom}
use Rattle.sb_grammar.specs.declared.expressions.Cmp.{Cmp}
use Rattle.sb_grammar.specs.declared.expressions.Expr.{Expr}
use Rattle.sb_grammar.specs.declared.expressions.Neg.{Neg}
use Rattle.sb_grammar.specs.declared.expressions.ProdRest.{ProdRest}
use Rattle.sb_grammar.specs.declared.expressions.Unary.{Unary}
use Rattle.sb_grammar.specs.declared.expressions.Add.{Add}
use Rattle.sb_grammar.specs.declared.expressions.Conj.{Conj}
use Rattle.sb_grammar.specs.declared.expressions.Disj.{Disj}
use Rattle.sb_grammar.specs.declared.expressions.Post.{Post}
use Rattle.sb_grammar.specs.declared.expressions.Prod.{Prod}
use Rattle.sb_grammar.specs.declared.expressions.AddRest.TheOpen.{AddRest-F, Atom-F, Cmp-F, Expr-F, Neg-F, ProdRest-F, Unary-F, Add-F, Conj-F, Disj-F, Post-F, Prod-F}
use Rattle.sb_grammar.specs.declared.expressions.AddRest.TheFolds.{fold-AddRest, fold-Atom, fold-Cmp, fold-Expr, fold-Neg, fold-ProdRest, fold-Unary}
use Rattle.sb_grammar.specs.declared.expressions.AddRest.TheFolds.{fold-Add, fold-Conj, fold-Disj, fold-Post, fold-Prod}

abbrev pub number_text : ℕ → List ℕ
number_text n = decimal n ++ codes " "

abbrev pub word_text : List ℕ → List ℕ
word_text bytes = bytes ++ codes " "

abbrev pub quoted_text : List ℕ → List ℕ
quoted_text value = (34 ∷ flat_map quoted_byte value ++ 34 ∷ []) ++ codes " "

-- texts one after the other
abbrev pub all_text : List (List ℕ) → List ℕ
all_text [] = []
all_text (t ∷ ts) = t ++ all_text ts

-- further texts, each behind a word
abbrev pub each_behind : List ℕ → List (List ℕ) → List ℕ
each_behind word [] = []
each_behind word (t ∷ ts) = word ++ (t ++ each_behind word ts)

-- texts with a comma before each but the first
abbrev pub listed : List (List ℕ) → List ℕ
listed [] = []
listed (t ∷ ts) = t ++ each_behind (codes ", ") ts

-- ---- types and monoids

abbrev pub scalar_text : Scalar → List ℕ
scalar_text scalars.Int = codes "int "
scalar_text scalars.Text = codes "text "
scalar_text scalars.Bool = codes "bool "

abbrev pub type_layer : TypeTree-F (List ℕ) → List ℕ
type_layer (TypeTree-F.Scalar s) = scalar_text s
type_layer (TypeTree-F.Pair a b) = codes "pair ( " ++ (a ++ (codes ", " ++ (b ++ codes ") ")))
type_layer (TypeTree-F.Opt a) = codes "opt ( " ++ (a ++ codes ") ")
type_layer (TypeTree-F.List a most) = codes "list ( " ++ (a ++ (codes ", " ++ (number_text most ++ codes ") ")))

abbrev pub type_text : TypeTree → List ℕ
type_text = fold-TypeTree (List ℕ) type_layer

abbrev pub mono_layer : MonoTree-F (List ℕ) → List ℕ
mono_layer MonoTree-F.Sum = codes "sum "
mono_layer MonoTree-F.Min = codes "min "
mono_layer MonoTree-F.Max = codes "max "
mono_layer MonoTree-F.First = codes "first "
mono_layer MonoTree-F.Last = codes "last "
mono_layer MonoTree-F.Concat = codes "concat "
mono_layer MonoTree-F.Set = codes "set "
mono_layer (MonoTree-F.Top k) = codes "top ( " ++ (number_text k ++ codes ") ")
mono_layer (MonoTree-F.Cms d w) = codes "cms ( " ++ (number_text d ++ (codes ", " ++ (number_text w ++ codes ") ")))
mono_layer (MonoTree-F.Hll b) = codes "hll ( " ++ (number_text b ++ codes ") ")
mono_layer (MonoTree-F.Pair a b) = codes "pair ( " ++ (a ++ (codes ", " ++ (b ++ codes ") ")))
mono_layer (MonoTree-F.Map a) = codes "map ( " ++ (a ++ codes ") ")

abbrev pub mono_text : MonoTree → List ℕ
mono_text = fold-MonoTree (List ℕ) mono_layer

-- ---- expressions

abbrev pub operator_text : CmpOp → List ℕ
operator_text operators.Equal = codes "== "
operator_text operators.Unequal = codes "!= "
operator_text operators.Less = codes "< "
operator_text operators.AtMost = codes "<= "
operator_text operators.Greater = codes "> "
operator_text operators.AtLeast = codes ">= "

abbrev pub step_text : PostStep → List ℕ
step_text (steps.Field name) = word_text name
step_text steps.First = codes "1 "
step_text steps.Second = codes "2 "

abbrev pub add_rest_layer : AddRest-F (List ℕ) (List ℕ) (List ℕ) (List ℕ) (List ℕ) (List ℕ) (List ℕ) (List ℕ) (List ℕ) (List ℕ) (List ℕ) (List ℕ) → List ℕ
add_rest_layer (AddRest-F.Plus a) = codes "+ " ++ a
add_rest_layer (AddRest-F.AddRest::Minus a) = codes "- " ++ a

abbrev pub atom_layer : Atom-F (List ℕ) (List ℕ) (List ℕ) (List ℕ) (List ℕ) (List ℕ) (List ℕ) (List ℕ) (List ℕ) (List ℕ) (List ℕ) (List ℕ) → List ℕ
atom_layer (Atom-F.Int n) = number_text n
atom_layer (Atom-F.Text value) = quoted_text value
atom_layer Atom-F.True = codes "true "
atom_layer Atom-F.False = codes "false "
atom_layer Atom-F.It = codes "it "
atom_layer (Atom-F.Group a) = codes "( " ++ (a ++ codes ") ")
atom_layer (Atom-F.Pair a b) = codes "( " ++ (a ++ (codes ", " ++ (b ++ codes ") ")))
atom_layer (Atom-F.List parts) = codes "[ " ++ (listed parts ++ codes "] ")
atom_layer (Atom-F.Empty t) = codes "empty ( " ++ (type_text t ++ codes ") ")
atom_layer (Atom-F.NoneOf t) = codes "none ( " ++ (type_text t ++ codes ") ")
atom_layer (Atom-F.SomeOf a) = codes "some ( " ++ (a ++ codes ") ")
atom_layer (Atom-F.Orelse a b) = codes "orelse ( " ++ (a ++ (codes ", " ++ (b ++ codes ") ")))
atom_layer (Atom-F.Has a) = codes "has ( " ++ (a ++ codes ") ")
atom_layer (Atom-F.Lower a) = codes "lower ( " ++ (a ++ codes ") ")
atom_layer (Atom-F.Words a most) = codes "words ( " ++ (a ++ (codes ", " ++ (number_text most ++ codes ") ")))
atom_layer (Atom-F.Len a) = codes "len ( " ++ (a ++ codes ") ")
atom_layer (Atom-F.Starts a b) = codes "starts ( " ++ (a ++ (codes ", " ++ (b ++ codes ") ")))

abbrev pub cmp_layer : Cmp-F (List ℕ) (List ℕ) (List ℕ) (List ℕ) (List ℕ) (List ℕ) (List ℕ) (List ℕ) (List ℕ) (List ℕ) (List ℕ) (List ℕ) → List ℕ
cmp_layer (Cmp-F.Cmp::Plain a) = a
cmp_layer (Cmp-F.Both operator a b) = a ++ (operator_text operator ++ b)

abbrev pub expr_layer : Expr-F (List ℕ) (List ℕ) (List ℕ) (List ℕ) (List ℕ) (List ℕ) (List ℕ) (List ℕ) (List ℕ) (List ℕ) (List ℕ) (List ℕ) → List ℕ
expr_layer (Expr-F.If a b c) = codes "if " ++ (a ++ (codes "then " ++ (b ++ (codes "else " ++ c))))
expr_layer (Expr-F.Expr::Plain a) = a

abbrev pub neg_layer : Neg-F (List ℕ) (List ℕ) (List ℕ) (List ℕ) (List ℕ) (List ℕ) (List ℕ) (List ℕ) (List ℕ) (List ℕ) (List ℕ) (List ℕ) → List ℕ
neg_layer (Neg-F.Not a) = codes "not " ++ a
neg_layer (Neg-F.Neg::Plain a) = a

abbrev pub prod_rest_layer : ProdRest-F (List ℕ) (List ℕ) (List ℕ) (List ℕ) (List ℕ) (List ℕ) (List ℕ) (List ℕ) (List ℕ) (List ℕ) (List ℕ) (List ℕ) → List ℕ
prod_rest_layer (ProdRest-F.Times a) = codes "* " ++ a
prod_rest_layer (ProdRest-F.Over n) = codes "/ " ++ number_text n
prod_rest_layer (ProdRest-F.Modulo n) = codes "% " ++ number_text n

abbrev pub unary_layer : Unary-F (List ℕ) (List ℕ) (List ℕ) (List ℕ) (List ℕ) (List ℕ) (List ℕ) (List ℕ) (List ℕ) (List ℕ) (List ℕ) (List ℕ) → List ℕ
unary_layer (Unary-F.Unary::Minus a) = codes "- " ++ a
unary_layer (Unary-F.Unary::Plain a) = a

abbrev pub add_layer : Add-F (List ℕ) (List ℕ) (List ℕ) (List ℕ) (List ℕ) (List ℕ) (List ℕ) (List ℕ) (List ℕ) (List ℕ) (List ℕ) (List ℕ) → List ℕ
add_layer l = l.first ++ all_text l.rest

abbrev pub conj_layer : Conj-F (List ℕ) (List ℕ) (List ℕ) (List ℕ) (List ℕ) (List ℕ) (List ℕ) (List ℕ) (List ℕ) (List ℕ) (List ℕ) (List ℕ) → List ℕ
conj_layer l = l.first ++ each_behind (codes "and ") l.rest

abbrev pub disj_layer : Disj-F (List ℕ) (List ℕ) (List ℕ) (List ℕ) (List ℕ) (List ℕ) (List ℕ) (List ℕ) (List ℕ) (List ℕ) (List ℕ) (List ℕ) → List ℕ
disj_layer l = l.first ++ each_behind (codes "or ") l.rest

abbrev pub post_layer : Post-F (List ℕ) (List ℕ) (List ℕ) (List ℕ) (List ℕ) (List ℕ) (List ℕ) (List ℕ) (List ℕ) (List ℕ) (List ℕ) (List ℕ) → List ℕ
post_layer l = l.atom ++ each_behind (codes ". ") (map step_text l.steps)

abbrev pub prod_layer : Prod-F (List ℕ) (List ℕ) (List ℕ) (List ℕ) (List ℕ) (List ℕ) (List ℕ) (List ℕ) (List ℕ) (List ℕ) (List ℕ) (List ℕ) → List ℕ
prod_layer l = l.first ++ all_text l.rest

abbrev pub add_rest_text : AddRest → List ℕ
add_rest_text = fold-AddRest (List ℕ) (List ℕ) (List ℕ) (List ℕ) (List ℕ) (List ℕ) (List ℕ) (List ℕ) (List ℕ) (List ℕ) (List ℕ) (List ℕ) add_rest_layer atom_layer cmp_layer expr_layer neg_layer prod_rest_layer unary_layer add_layer conj_layer disj_layer post_layer prod_layer

abbrev pub atom_text : Atom → List ℕ
atom_text = fold-Atom (List ℕ) (List ℕ) (List ℕ) (List ℕ) (List ℕ) (List ℕ) (List ℕ) (List ℕ) (List ℕ) (List ℕ) (List ℕ) (List ℕ) add_rest_layer atom_layer cmp_layer expr_layer neg_layer prod_rest_layer unary_layer add_layer conj_layer disj_layer post_layer prod_layer

abbrev pub cmp_text : Cmp → List ℕ
cmp_text = fold-Cmp (List ℕ) (List ℕ) (List ℕ) (List ℕ) (List ℕ) (List ℕ) (List ℕ) (List ℕ) (List ℕ) (List ℕ) (List ℕ) (List ℕ) add_rest_layer atom_layer cmp_layer expr_layer neg_layer prod_rest_layer unary_layer add_layer conj_layer disj_layer post_layer prod_layer

abbrev pub expr_text : Expr → List ℕ
expr_text = fold-Expr (List ℕ) (List ℕ) (List ℕ) (List ℕ) (List ℕ) (List ℕ) (List ℕ) (List ℕ) (List ℕ) (List ℕ) (List ℕ) (List ℕ) add_rest_layer atom_layer cmp_layer expr_layer neg_layer prod_rest_layer unary_layer add_layer conj_layer disj_layer post_layer prod_layer

abbrev pub neg_text : Neg → List ℕ
neg_text = fold-Neg (List ℕ) (List ℕ) (List ℕ) (List ℕ) (List ℕ) (List ℕ) (List ℕ) (List ℕ) (List ℕ) (List ℕ) (List ℕ) (List ℕ) add_rest_layer atom_layer cmp_layer expr_layer neg_layer prod_rest_layer unary_layer add_layer conj_layer disj_layer post_layer prod_layer

abbrev pub prod_rest_text : ProdRest → List ℕ
prod_rest_text = fold-ProdRest (List ℕ) (List ℕ) (List ℕ) (List ℕ) (List ℕ) (List ℕ) (List ℕ) (List ℕ) (List ℕ) (List ℕ) (List ℕ) (List ℕ) add_rest_layer atom_layer cmp_layer expr_layer neg_layer prod_rest_layer unary_layer add_layer conj_layer disj_layer post_layer prod_layer

abbrev pub unary_text : Unary → List ℕ
unary_text = fold-Unary (List ℕ) (List ℕ) (List ℕ) (List ℕ) (List ℕ) (List ℕ) (List ℕ) (List ℕ) (List ℕ) (List ℕ) (List ℕ) (List ℕ) add_rest_layer atom_layer cmp_layer expr_layer neg_layer prod_rest_layer unary_layer add_layer conj_layer disj_layer post_layer prod_layer

abbrev pub add_text : Add → List ℕ
add_text = fold-Add (List ℕ) (List ℕ) (List ℕ) (List ℕ) (List ℕ) (List ℕ) (List ℕ) (List ℕ) (List ℕ) (List ℕ) (List ℕ) (List ℕ) add_rest_layer atom_layer cmp_layer expr_layer neg_layer prod_rest_layer unary_layer add_layer conj_layer disj_layer post_layer prod_layer

abbrev pub conj_text : Conj → List ℕ
conj_text = fold-Conj (List ℕ) (List ℕ) (List ℕ) (List ℕ) (List ℕ) (List ℕ) (List ℕ) (List ℕ) (List ℕ) (List ℕ) (List ℕ) (List ℕ) add_rest_layer atom_layer cmp_layer expr_layer neg_layer prod_rest_layer unary_layer add_layer conj_layer disj_layer post_layer prod_layer

abbrev pub disj_text : Disj → List ℕ
disj_text = fold-Disj (List ℕ) (List ℕ) (List ℕ) (List ℕ) (List ℕ) (List ℕ) (List ℕ) (List ℕ) (List ℕ) (List ℕ) (List ℕ) (List ℕ) add_rest_layer atom_layer cmp_layer expr_layer neg_layer prod_rest_layer unary_layer add_layer conj_layer disj_layer post_layer prod_layer

abbrev pub post_text : Post → List ℕ
post_text = fold-Post (List ℕ) (List ℕ) (List ℕ) (List ℕ) (List ℕ) (List ℕ) (List ℕ) (List ℕ) (List ℕ) (List ℕ) (List ℕ) (List ℕ) add_rest_layer atom_layer cmp_layer expr_layer neg_layer prod_rest_layer unary_layer add_layer conj_layer disj_layer post_layer prod_layer

abbrev pub prod_text : Prod → List ℕ
prod_text = fold-Prod (List ℕ) (List ℕ) (List ℕ) (List ℕ) (List ℕ) (List ℕ) (List ℕ) (List ℕ) (List ℕ) (List ℕ) (List ℕ) (List ℕ) add_rest_layer atom_layer cmp_layer expr_layer neg_layer prod_rest_layer unary_layer add_layer conj_layer disj_layer post_layer prod_layer

-- ---- streams and statements

abbrev pub stage_text : Stage → List ℕ
stage_text (staged.Map a) = codes "map " ++ expr_text a
stage_text (staged.Filter a) = codes "filter " ++ expr_text a
stage_text (staged.FlatMap a) = codes "flatMap " ++ expr_text a
stage_text (staged.LeftJoin name) = codes "leftJoin " ++ word_text name

abbrev pub head_layer : Head-F (List ℕ) (List ℕ) → List ℕ
head_layer (Head-F.Name name) = word_text name
head_layer (Head-F.Merge a b) = codes "merge ( " ++ (a ++ (codes ", " ++ (b ++ codes ") ")))

abbrev pub stream_layer : Stream-F (List ℕ) (List ℕ) → List ℕ
stream_layer l = l.head ++ each_behind (codes "| ") (map stage_text l.stages)

abbrev pub head_text : Head → List ℕ
head_text = fold-Head (List ℕ) (List ℕ) head_layer stream_layer

abbrev pub stream_text : Stream → List ℕ
stream_text = fold-Stream (List ℕ) (List ℕ) head_layer stream_layer

abbrev pub field_text : FieldTree → List ℕ
field_text f = word_text f.name ++ (codes ": " ++ scalar_text f.scalar)

abbrev pub statement_text : Statement → List ℕ
statement_text (statements.Source name fields) = codes "source " ++ (word_text name ++ (codes "( " ++ (listed (map field_text fields) ++ codes ") ")))
statement_text (statements.Service name key value) = codes "service " ++ (word_text name ++ (codes "( " ++ (scalar_text key ++ (codes "-> " ++ (scalar_text value ++ codes ") ")))))
statement_text (statements.Let name stream) = codes "let " ++ (word_text name ++ (codes "= " ++ stream_text stream))
statement_text (statements.Store name stream mono) = codes "store " ++ (word_text name ++ (codes "= " ++ (stream_text stream ++ (codes "| sumByKey " ++ mono_text mono))))

abbrev pub minus_text : Bool → List ℕ
minus_text true = codes "- "
minus_text false = []

abbrev pub batch_text : ℕ → Bool → ℕ → List ℕ
batch_text batch_length minus from = codes "batch " ++ (number_text batch_length ++ (codes "from " ++ (minus_text minus ++ number_text from)))

-- ---- lines

-- with LF in place of the last byte
abbrev pub ended : List ℕ → List ℕ
ended [] = []
ended (b ∷ []) = 10 ∷ []
ended (b ∷ bytes) = b ∷ ended bytes

-- behind a text, a line for each statement
abbrev pub lines_text : List ℕ → List Statement → List ℕ
lines_text before [] = before
lines_text before (a ∷ list) = lines_text (ended (before ++ statement_text a)) list
