-- The grammar: which lists of tokens each rule gives, and with which tree.
use Rattle.std.specs.Prelude.{ℕ, zero, suc, Bool, true, false, List, [], ◌∷◌, Option, Some, None}
use Rattle.sb_tokens.specs.declared.keyword.Keyword.{Keyword}
use Rattle.sb_tokens.specs.declared.keyword.Keyword.TheVariants as k
use Rattle.sb_tokens.specs.declared.symbol.Symbol.TheVariants as m
use Rattle.sb_tokens.specs.Keyword.{keyword_text}
use Rattle.sb_tokens.specs.Token.{Token}
use Rattle.sb_tokens.specs.Token as t
use Rattle.sb_grammar.specs.declared.programs.FieldTree.{FieldTree}
use Rattle.sb_grammar.specs.declared.programs.Statement.{Statement}
use Rattle.sb_grammar.specs.declared.programs.Statement.TheVariants as statements
use Rattle.sb_grammar.specs.declared.programs.Stream.{Stream, roll-Stream}
use Rattle.sb_grammar.specs.declared.programs.Head.{Head}
use Rattle.sb_grammar.specs.declared.programs.Head.TheVariants as heads
use Rattle.sb_grammar.specs.declared.programs.Stage.{Stage}
use Rattle.sb_grammar.specs.declared.programs.Stage.TheVariants as staged
use Rattle.sb_grammar.specs.declared.programs.MonoTree.{MonoTree}
use Rattle.sb_grammar.specs.declared.programs.MonoTree.TheVariants as monos
use Rattle.sb_grammar.specs.declared.expressions.Scalar.{Scalar}
use Rattle.sb_grammar.specs.declared.expressions.Scalar.TheVariants as scalars
use Rattle.sb_grammar.specs.declared.expressions.TypeTree.{TypeTree}
use Rattle.sb_grammar.specs.declared.expressions.TypeTree.TheVariants as types
use Rattle.sb_grammar.specs.declared.expressions.Expr.{Expr}
use Rattle.sb_grammar.specs.declared.expressions.Expr.TheVariants as exprs
use Rattle.sb_grammar.specs.declared.expressions.Disj.{Disj, roll-Disj}
use Rattle.sb_grammar.specs.declared.expressions.Conj.{Conj, roll-Conj}
use Rattle.sb_grammar.specs.declared.expressions.Neg.{Neg}
use Rattle.sb_grammar.specs.declared.expressions.Neg.TheVariants as negs
use Rattle.sb_grammar.specs.declared.expressions.Cmp.{Cmp}
use Rattle.sb_grammar.specs.declared.expressions.Cmp.TheVariants as cmps
use Rattle.sb_grammar.specs.declared.expressions.CmpOp.{CmpOp}
use Rattle.sb_grammar.specs.declared.expressions.CmpOp.TheVariants as operators
use Rattle.sb_grammar.specs.declared.expressions.Add.{Add, roll-Add}
use Rattle.sb_grammar.specs.declared.expressions.AddRest.{AddRest}
use Rattle.sb_grammar.specs.declared.expressions.AddRest.TheVariants as add_rest
use Rattle.sb_grammar.specs.declared.expressions.Prod.{Prod, roll-Prod}
use Rattle.sb_grammar.specs.declared.expressions.ProdRest.{ProdRest}
use Rattle.sb_grammar.specs.declared.expressions.ProdRest.TheVariants as prod_rest
use Rattle.sb_grammar.specs.declared.expressions.Unary.{Unary}
use Rattle.sb_grammar.specs.declared.expressions.Unary.TheVariants as unaries
use Rattle.sb_grammar.specs.declared.expressions.Post.{Post, roll-Post}
use Rattle.sb_grammar.specs.declared.expressions.PostStep.{PostStep}
use Rattle.sb_grammar.specs.declared.expressions.PostStep.TheVariants as steps
use Rattle.sb_grammar.specs.declared.expressions.Atom.{Atom}
use Rattle.sb_grammar.specs.declared.expressions.Atom.TheVariants as atoms

-- what a rule stands for
pub data Rule : Type 0 where
  -- "from"
  from_word : Rule
  -- "then"
  then_word : Rule
  -- "else"
  else_word : Rule
  -- "("
  open_paren : Rule
  -- ")"
  close_paren : Rule
  -- ","
  comma : Rule
  -- ":"
  colon : Rule
  -- "->"
  arrow : Rule
  -- "="
  assign : Rule
  -- INT
  number : Rule
  -- POS
  positive : Rule
  -- NAME
  a_name : Rule
  -- scalar
  scalar : Rule
  -- "batch" POS "from" [ "-" ] INT
  batch : Rule
  -- [ "-" ] INT
  start : Rule
  -- field
  field : Rule
  -- [ field { "," field } ] ")"
  fields : Rule
  -- { "," field } ")"
  more_fields : Rule
  -- mono
  mono : Rule
  -- type
  a_type : Rule
  -- atom
  atom : Rule
  -- ")" or "," expr ")"
  group_end : Rule
  -- { "," expr } "]"
  list_end : Rule
  -- FIELD or INT that is 1 or 2
  post_step : Rule
  -- { "." post_step }
  post_steps : Rule
  -- post
  post : Rule
  -- unary
  unary : Rule
  -- { "*" unary | "/" POS | "%" POS }
  prod_rests : Rule
  -- prod
  prod : Rule
  -- { ( "+" | "-" ) prod }
  add_rests : Rule
  -- add
  add : Rule
  -- [ operator add ]
  comparison : Rule
  -- cmp
  cmp : Rule
  -- neg
  neg : Rule
  -- { "and" neg }
  conj_rests : Rule
  -- conj
  conj : Rule
  -- { "or" conj }
  disj_rests : Rule
  -- disj
  disj : Rule
  -- expr
  expr : Rule
  -- stage
  stage : Rule
  -- { "|" stage }
  stages : Rule
  -- head
  head : Rule
  -- stream
  stream : Rule
  -- { "|" stage } "|" "sumByKey" mono
  store_stages : Rule
  -- "sumByKey" mono, or a stage and then store_stages
  store_stage : Rule
  -- statement
  statement : Rule

-- the tree of a rule
abbrev pub Tree : Rule → Type 0
Tree from_word = Unit {0}
Tree then_word = Unit {0}
Tree else_word = Unit {0}
Tree open_paren = Unit {0}
Tree close_paren = Unit {0}
Tree comma = Unit {0}
Tree colon = Unit {0}
Tree arrow = Unit {0}
Tree assign = Unit {0}
Tree number = ℕ
Tree positive = ℕ
Tree a_name = List ℕ
Tree scalar = Scalar
Tree batch = ℕ × (Bool × ℕ)
Tree start = Bool × ℕ
Tree field = FieldTree
Tree fields = List FieldTree
Tree more_fields = List FieldTree
Tree mono = MonoTree
Tree a_type = TypeTree
Tree atom = Atom
Tree group_end = Option Expr
Tree list_end = List Expr
Tree post_step = PostStep
Tree post_steps = List PostStep
Tree post = Post
Tree unary = Unary
Tree prod_rests = List ProdRest
Tree prod = Prod
Tree add_rests = List AddRest
Tree add = Add
Tree comparison = Option (CmpOp × Add)
Tree cmp = Cmp
Tree neg = Neg
Tree conj_rests = List Neg
Tree conj = Conj
Tree disj_rests = List Conj
Tree disj = Disj
Tree expr = Expr
Tree stage = Stage
Tree stages = List Stage
Tree head = Head
Tree stream = Stream
Tree store_stages = List Stage × MonoTree
Tree store_stage = List Stage × MonoTree
Tree statement = Statement

-- a group, or a pair where there is a second part
abbrev pub group_of : Expr → Option Expr → Atom
group_of a None = atoms.Group a
group_of a (Some b) = atoms.Pair a b

-- a sum alone, or a comparison of two
abbrev pub cmp_of : Add → Option (CmpOp × Add) → Cmp
cmp_of a None = cmps.Plain a
cmp_of a (Some b) = cmps.Both b.0 a b.1

-- The tokens up to where the second list begins are this tree of this rule. One constructor for each production, with
-- its parts in their order.
pub data Derives : (r : Rule) → Tree r → List Token → List Token → Type 0 where
  from_word-it : {ts : List Token} → Derives from_word tt (t.keyword k.From ∷ ts) ts
  then_word-it : {ts : List Token} → Derives then_word tt (t.keyword k.Then ∷ ts) ts
  else_word-it : {ts : List Token} → Derives else_word tt (t.keyword k.Else ∷ ts) ts
  open_paren-it : {ts : List Token} → Derives open_paren tt (t.symbol m.OpenParen ∷ ts) ts
  close_paren-it : {ts : List Token} → Derives close_paren tt (t.symbol m.CloseParen ∷ ts) ts
  comma-it : {ts : List Token} → Derives comma tt (t.symbol m.Comma ∷ ts) ts
  colon-it : {ts : List Token} → Derives colon tt (t.symbol m.Colon ∷ ts) ts
  arrow-it : {ts : List Token} → Derives arrow tt (t.symbol m.Arrow ∷ ts) ts
  assign-it : {ts : List Token} → Derives assign tt (t.symbol m.Assign ∷ ts) ts
  number-it : {n : ℕ} {ts : List Token} → Derives number n (t.int n ∷ ts) ts
  positive-it : {n : ℕ} {ts : List Token} → Derives positive (suc n) (t.int (suc n) ∷ ts) ts
  a_name-it : {n : List ℕ} {ts : List Token} → Derives a_name n (t.name n ∷ ts) ts
  scalar-int : {ts : List Token} → Derives scalar scalars.Int (t.keyword k.Int ∷ ts) ts
  scalar-text : {ts : List Token} → Derives scalar scalars.Text (t.keyword k.Text ∷ ts) ts
  scalar-bool : {ts : List Token} → Derives scalar scalars.Bool (t.keyword k.Bool ∷ ts) ts
  batch-whole : {a : Tree positive} {b : Tree from_word} {c : Tree start} {ts us vs ws : List Token} → Derives positive a ts us
      → Derives from_word b us vs → Derives start c vs ws → Derives batch (a, c) (t.keyword k.Batch ∷ ts) ws
  start-minus : {a : Tree number} {ts us : List Token} → Derives number a ts us → Derives start (true, a) (t.symbol m.Minus ∷ ts) us
  start-number : {n : ℕ} {ts : List Token} → Derives start (false, n) (t.int n ∷ ts) ts
  field-name : {n : List ℕ} {a : Tree colon} {b : Tree scalar} {ts us vs : List Token} → Derives colon a ts us → Derives scalar b us vs
      → Derives field (record { name = n; scalar = b }) (t.name n ∷ ts) vs
  field-keyword : {w : Keyword} {a : Tree colon} {b : Tree scalar} {ts us vs : List Token} → Derives colon a ts us → Derives scalar b us vs
      → Derives field (record { name = (keyword_text w); scalar = b }) (t.keyword w ∷ ts) vs
  fields-none : {ts : List Token} → Derives fields [] (t.symbol m.CloseParen ∷ ts) ts
  fields-some : {a : Tree field} {b : Tree more_fields} {ts us vs : List Token} → Derives field a ts us → Derives more_fields b us vs
      → Derives fields (a ∷ b) ts vs
  more_fields-none : {ts : List Token} → Derives more_fields [] (t.symbol m.CloseParen ∷ ts) ts
  more_fields-some : {a : Tree field} {b : Tree more_fields} {ts us vs : List Token} → Derives field a ts us → Derives more_fields b us vs
      → Derives more_fields (a ∷ b) (t.symbol m.Comma ∷ ts) vs
  mono-sum : {ts : List Token} → Derives mono monos.Sum (t.keyword k.Sum ∷ ts) ts
  mono-min : {ts : List Token} → Derives mono monos.Min (t.keyword k.Min ∷ ts) ts
  mono-max : {ts : List Token} → Derives mono monos.Max (t.keyword k.Max ∷ ts) ts
  mono-first : {ts : List Token} → Derives mono monos.First (t.keyword k.First ∷ ts) ts
  mono-last : {ts : List Token} → Derives mono monos.Last (t.keyword k.Last ∷ ts) ts
  mono-concat : {ts : List Token} → Derives mono monos.Concat (t.keyword k.Concat ∷ ts) ts
  mono-set : {ts : List Token} → Derives mono monos.Set (t.keyword k.Set ∷ ts) ts
  mono-top : {a : Tree open_paren} {b : Tree number} {c : Tree close_paren} {ts us vs ws : List Token} → Derives open_paren a ts us
      → Derives number b us vs → Derives close_paren c vs ws → Derives mono (monos.Top b) (t.keyword k.Top ∷ ts) ws
  mono-cms : {a : Tree open_paren} {b : Tree number} {c : Tree comma} {d : Tree number} {g : Tree close_paren} {ts us vs ws xs ys : List Token}
      → Derives open_paren a ts us → Derives number b us vs → Derives comma c vs ws → Derives number d ws xs → Derives close_paren g xs ys
      → Derives mono (monos.Cms b d) (t.keyword k.Cms ∷ ts) ys
  mono-hll : {a : Tree open_paren} {b : Tree number} {c : Tree close_paren} {ts us vs ws : List Token} → Derives open_paren a ts us
      → Derives number b us vs → Derives close_paren c vs ws → Derives mono (monos.Hll b) (t.keyword k.Hll ∷ ts) ws
  mono-pair : {a : Tree open_paren} {b : Tree mono} {c : Tree comma} {d : Tree mono} {g : Tree close_paren} {ts us vs ws xs ys : List Token}
      → Derives open_paren a ts us → Derives mono b us vs → Derives comma c vs ws → Derives mono d ws xs → Derives close_paren g xs ys
      → Derives mono (monos.Pair b d) (t.keyword k.Pair ∷ ts) ys
  mono-map : {a : Tree open_paren} {b : Tree mono} {c : Tree close_paren} {ts us vs ws : List Token} → Derives open_paren a ts us
      → Derives mono b us vs → Derives close_paren c vs ws → Derives mono (monos.Map b) (t.keyword k.Map ∷ ts) ws
  a_type-pair : {a : Tree open_paren} {b : Tree a_type} {c : Tree comma} {d : Tree a_type} {g : Tree close_paren} {ts us vs ws xs ys : List Token}
      → Derives open_paren a ts us → Derives a_type b us vs → Derives comma c vs ws → Derives a_type d ws xs → Derives close_paren g xs ys
      → Derives a_type (types.Pair b d) (t.keyword k.Pair ∷ ts) ys
  a_type-opt : {a : Tree open_paren} {b : Tree a_type} {c : Tree close_paren} {ts us vs ws : List Token} → Derives open_paren a ts us
      → Derives a_type b us vs → Derives close_paren c vs ws → Derives a_type (types.Opt b) (t.keyword k.Opt ∷ ts) ws
  a_type-list : {a : Tree open_paren} {b : Tree a_type} {c : Tree comma} {d : Tree number} {g : Tree close_paren} {ts us vs ws xs ys : List Token}
      → Derives open_paren a ts us → Derives a_type b us vs → Derives comma c vs ws → Derives number d ws xs → Derives close_paren g xs ys
      → Derives a_type (types.List b d) (t.keyword k.List ∷ ts) ys
  a_type-scalar : {a : Tree scalar} {ts us : List Token} → Derives scalar a ts us → Derives a_type (types.Scalar a) ts us
  atom-int : {n : ℕ} {ts : List Token} → Derives atom (atoms.Int n) (t.int n ∷ ts) ts
  atom-text : {value : List ℕ} {ts : List Token} → Derives atom (atoms.Text value) (t.text value ∷ ts) ts
  atom-true : {ts : List Token} → Derives atom atoms.True (t.keyword k.True ∷ ts) ts
  atom-false : {ts : List Token} → Derives atom atoms.False (t.keyword k.False ∷ ts) ts
  atom-it : {ts : List Token} → Derives atom atoms.It (t.keyword k.It ∷ ts) ts
  atom-group : {a : Tree expr} {b : Tree group_end} {ts us vs : List Token} → Derives expr a ts us → Derives group_end b us vs → Derives atom
      (group_of a b) (t.symbol m.OpenParen ∷ ts) vs
  atom-list : {a : Tree expr} {b : Tree list_end} {ts us vs : List Token} → Derives expr a ts us → Derives list_end b us vs → Derives atom
      (atoms.List (a ∷ b)) (t.symbol m.OpenBracket ∷ ts) vs
  atom-empty : {a : Tree open_paren} {b : Tree a_type} {c : Tree close_paren} {ts us vs ws : List Token} → Derives open_paren a ts us
      → Derives a_type b us vs → Derives close_paren c vs ws → Derives atom (atoms.Empty b) (t.keyword k.Empty ∷ ts) ws
  atom-none : {a : Tree open_paren} {b : Tree a_type} {c : Tree close_paren} {ts us vs ws : List Token} → Derives open_paren a ts us
      → Derives a_type b us vs → Derives close_paren c vs ws → Derives atom (atoms.NoneOf b) (t.keyword k.NoneOf ∷ ts) ws
  atom-some : {a : Tree open_paren} {b : Tree expr} {c : Tree close_paren} {ts us vs ws : List Token} → Derives open_paren a ts us
      → Derives expr b us vs → Derives close_paren c vs ws → Derives atom (atoms.SomeOf b) (t.keyword k.SomeOf ∷ ts) ws
  atom-orelse : {a : Tree open_paren} {b : Tree expr} {c : Tree comma} {d : Tree expr} {g : Tree close_paren} {ts us vs ws xs ys : List Token}
      → Derives open_paren a ts us → Derives expr b us vs → Derives comma c vs ws → Derives expr d ws xs → Derives close_paren g xs ys
      → Derives atom (atoms.Orelse b d) (t.keyword k.Orelse ∷ ts) ys
  atom-has : {a : Tree open_paren} {b : Tree expr} {c : Tree close_paren} {ts us vs ws : List Token} → Derives open_paren a ts us
      → Derives expr b us vs → Derives close_paren c vs ws → Derives atom (atoms.Has b) (t.keyword k.Has ∷ ts) ws
  atom-lower : {a : Tree open_paren} {b : Tree expr} {c : Tree close_paren} {ts us vs ws : List Token} → Derives open_paren a ts us
      → Derives expr b us vs → Derives close_paren c vs ws → Derives atom (atoms.Lower b) (t.keyword k.Lower ∷ ts) ws
  atom-words : {a : Tree open_paren} {b : Tree expr} {c : Tree comma} {d : Tree positive} {g : Tree close_paren} {ts us vs ws xs ys : List Token}
      → Derives open_paren a ts us → Derives expr b us vs → Derives comma c vs ws → Derives positive d ws xs → Derives close_paren g xs ys
      → Derives atom (atoms.Words b d) (t.keyword k.Words ∷ ts) ys
  atom-len : {a : Tree open_paren} {b : Tree expr} {c : Tree close_paren} {ts us vs ws : List Token} → Derives open_paren a ts us
      → Derives expr b us vs → Derives close_paren c vs ws → Derives atom (atoms.Len b) (t.keyword k.Len ∷ ts) ws
  atom-starts : {a : Tree open_paren} {b : Tree expr} {c : Tree comma} {d : Tree expr} {g : Tree close_paren} {ts us vs ws xs ys : List Token}
      → Derives open_paren a ts us → Derives expr b us vs → Derives comma c vs ws → Derives expr d ws xs → Derives close_paren g xs ys
      → Derives atom (atoms.Starts b d) (t.keyword k.Starts ∷ ts) ys
  group_end-close : {ts : List Token} → Derives group_end None (t.symbol m.CloseParen ∷ ts) ts
  group_end-second : {a : Tree expr} {b : Tree close_paren} {ts us vs : List Token} → Derives expr a ts us → Derives close_paren b us vs
      → Derives group_end (Some a) (t.symbol m.Comma ∷ ts) vs
  list_end-close : {ts : List Token} → Derives list_end [] (t.symbol m.CloseBracket ∷ ts) ts
  list_end-more : {a : Tree expr} {b : Tree list_end} {ts us vs : List Token} → Derives expr a ts us → Derives list_end b us vs → Derives list_end
      (a ∷ b) (t.symbol m.Comma ∷ ts) vs
  post_step-name : {n : List ℕ} {ts : List Token} → Derives post_step (steps.Field n) (t.name n ∷ ts) ts
  post_step-keyword : {w : Keyword} {ts : List Token} → Derives post_step (steps.Field (keyword_text w)) (t.keyword w ∷ ts) ts
  post_step-first : {ts : List Token} → Derives post_step steps.First (t.int (suc zero) ∷ ts) ts
  post_step-second : {ts : List Token} → Derives post_step steps.Second (t.int (suc (suc zero)) ∷ ts) ts
  post_steps-dot : {a : Tree post_step} {b : Tree post_steps} {ts us vs : List Token} → Derives post_step a ts us → Derives post_steps b us vs
      → Derives post_steps (a ∷ b) (t.symbol m.Dot ∷ ts) vs
  post_steps-none : {ts : List Token} → Derives post_steps [] ts ts
  post-whole : {a : Tree atom} {b : Tree post_steps} {ts us vs : List Token} → Derives atom a ts us → Derives post_steps b us vs → Derives post
      (roll-Post (record { atom = a; steps = b })) ts vs
  unary-minus : {a : Tree unary} {ts us : List Token} → Derives unary a ts us → Derives unary (unaries.Minus a) (t.symbol m.Minus ∷ ts) us
  unary-plain : {a : Tree post} {ts us : List Token} → Derives post a ts us → Derives unary (unaries.Plain a) ts us
  prod_rests-times : {a : Tree unary} {b : Tree prod_rests} {ts us vs : List Token} → Derives unary a ts us → Derives prod_rests b us vs
      → Derives prod_rests (prod_rest.Times a ∷ b) (t.symbol m.Star ∷ ts) vs
  prod_rests-over : {a : Tree positive} {b : Tree prod_rests} {ts us vs : List Token} → Derives positive a ts us → Derives prod_rests b us vs
      → Derives prod_rests (prod_rest.Over a ∷ b) (t.symbol m.Slash ∷ ts) vs
  prod_rests-modulo : {a : Tree positive} {b : Tree prod_rests} {ts us vs : List Token} → Derives positive a ts us → Derives prod_rests b us vs
      → Derives prod_rests (prod_rest.Modulo a ∷ b) (t.symbol m.Percent ∷ ts) vs
  prod_rests-none : {ts : List Token} → Derives prod_rests [] ts ts
  prod-whole : {a : Tree unary} {b : Tree prod_rests} {ts us vs : List Token} → Derives unary a ts us → Derives prod_rests b us vs → Derives prod
      (roll-Prod (record { first = a; rest = b })) ts vs
  add_rests-plus : {a : Tree prod} {b : Tree add_rests} {ts us vs : List Token} → Derives prod a ts us → Derives add_rests b us vs
      → Derives add_rests (add_rest.Plus a ∷ b) (t.symbol m.Plus ∷ ts) vs
  add_rests-minus : {a : Tree prod} {b : Tree add_rests} {ts us vs : List Token} → Derives prod a ts us → Derives add_rests b us vs
      → Derives add_rests (add_rest.Minus a ∷ b) (t.symbol m.Minus ∷ ts) vs
  add_rests-none : {ts : List Token} → Derives add_rests [] ts ts
  add-whole : {a : Tree prod} {b : Tree add_rests} {ts us vs : List Token} → Derives prod a ts us → Derives add_rests b us vs → Derives add
      (roll-Add (record { first = a; rest = b })) ts vs
  comparison-equal : {a : Tree add} {ts us : List Token} → Derives add a ts us → Derives comparison (Some (operators.Equal, a))
      (t.symbol m.Equal ∷ ts) us
  comparison-unequal : {a : Tree add} {ts us : List Token} → Derives add a ts us → Derives comparison (Some (operators.Unequal, a))
      (t.symbol m.Unequal ∷ ts) us
  comparison-less : {a : Tree add} {ts us : List Token} → Derives add a ts us → Derives comparison (Some (operators.Less, a))
      (t.symbol m.Less ∷ ts) us
  comparison-at_most : {a : Tree add} {ts us : List Token} → Derives add a ts us → Derives comparison (Some (operators.AtMost, a))
      (t.symbol m.AtMost ∷ ts) us
  comparison-greater : {a : Tree add} {ts us : List Token} → Derives add a ts us → Derives comparison (Some (operators.Greater, a))
      (t.symbol m.Greater ∷ ts) us
  comparison-at_least : {a : Tree add} {ts us : List Token} → Derives add a ts us → Derives comparison (Some (operators.AtLeast, a))
      (t.symbol m.AtLeast ∷ ts) us
  comparison-none : {ts : List Token} → Derives comparison None ts ts
  cmp-whole : {a : Tree add} {b : Tree comparison} {ts us vs : List Token} → Derives add a ts us → Derives comparison b us vs → Derives cmp
      (cmp_of a b) ts vs
  neg-not : {a : Tree neg} {ts us : List Token} → Derives neg a ts us → Derives neg (negs.Not a) (t.keyword k.Not ∷ ts) us
  neg-plain : {a : Tree cmp} {ts us : List Token} → Derives cmp a ts us → Derives neg (negs.Plain a) ts us
  conj_rests-and : {a : Tree neg} {b : Tree conj_rests} {ts us vs : List Token} → Derives neg a ts us → Derives conj_rests b us vs
      → Derives conj_rests (a ∷ b) (t.keyword k.And ∷ ts) vs
  conj_rests-none : {ts : List Token} → Derives conj_rests [] ts ts
  conj-whole : {a : Tree neg} {b : Tree conj_rests} {ts us vs : List Token} → Derives neg a ts us → Derives conj_rests b us vs → Derives conj
      (roll-Conj (record { first = a; rest = b })) ts vs
  disj_rests-or : {a : Tree conj} {b : Tree disj_rests} {ts us vs : List Token} → Derives conj a ts us → Derives disj_rests b us vs
      → Derives disj_rests (a ∷ b) (t.keyword k.Or ∷ ts) vs
  disj_rests-none : {ts : List Token} → Derives disj_rests [] ts ts
  disj-whole : {a : Tree conj} {b : Tree disj_rests} {ts us vs : List Token} → Derives conj a ts us → Derives disj_rests b us vs → Derives disj
      (roll-Disj (record { first = a; rest = b })) ts vs
  expr-if : {a : Tree expr} {b : Tree then_word} {c : Tree expr} {d : Tree else_word} {g : Tree expr} {ts us vs ws xs ys : List Token}
      → Derives expr a ts us → Derives then_word b us vs → Derives expr c vs ws → Derives else_word d ws xs → Derives expr g xs ys → Derives expr
      (exprs.If a c g) (t.keyword k.If ∷ ts) ys
  expr-plain : {a : Tree disj} {ts us : List Token} → Derives disj a ts us → Derives expr (exprs.Plain a) ts us
  stage-map : {a : Tree expr} {ts us : List Token} → Derives expr a ts us → Derives stage (staged.Map a) (t.keyword k.Map ∷ ts) us
  stage-filter : {a : Tree expr} {ts us : List Token} → Derives expr a ts us → Derives stage (staged.Filter a) (t.keyword k.Filter ∷ ts) us
  stage-flat_map : {a : Tree expr} {ts us : List Token} → Derives expr a ts us → Derives stage (staged.FlatMap a) (t.keyword k.FlatMap ∷ ts) us
  stage-join : {a : Tree a_name} {ts us : List Token} → Derives a_name a ts us → Derives stage (staged.LeftJoin a) (t.keyword k.LeftJoin ∷ ts) us
  stages-bar : {a : Tree stage} {b : Tree stages} {ts us vs : List Token} → Derives stage a ts us → Derives stages b us vs → Derives stages (a ∷ b)
      (t.symbol m.Bar ∷ ts) vs
  stages-none : {ts : List Token} → Derives stages [] ts ts
  head-name : {n : List ℕ} {ts : List Token} → Derives head (heads.Name n) (t.name n ∷ ts) ts
  head-merge : {a : Tree open_paren} {b : Tree stream} {c : Tree comma} {d : Tree stream} {g : Tree close_paren} {ts us vs ws xs ys : List Token}
      → Derives open_paren a ts us → Derives stream b us vs → Derives comma c vs ws → Derives stream d ws xs → Derives close_paren g xs ys
      → Derives head (heads.Merge b d) (t.keyword k.Merge ∷ ts) ys
  stream-whole : {a : Tree head} {b : Tree stages} {ts us vs : List Token} → Derives head a ts us → Derives stages b us vs → Derives stream
      (roll-Stream (record { head = a; stages = b })) ts vs
  store_stages-whole : {a : Tree store_stage} {ts us : List Token} → Derives store_stage a ts us → Derives store_stages a (t.symbol m.Bar ∷ ts) us
  store_stage-map : {a : Tree expr} {b : Tree store_stages} {ts us vs : List Token} → Derives expr a ts us → Derives store_stages b us vs
      → Derives store_stage (staged.Map a ∷ b.0, b.1) (t.keyword k.Map ∷ ts) vs
  store_stage-filter : {a : Tree expr} {b : Tree store_stages} {ts us vs : List Token} → Derives expr a ts us → Derives store_stages b us vs
      → Derives store_stage (staged.Filter a ∷ b.0, b.1) (t.keyword k.Filter ∷ ts) vs
  store_stage-flat_map : {a : Tree expr} {b : Tree store_stages} {ts us vs : List Token} → Derives expr a ts us → Derives store_stages b us vs
      → Derives store_stage (staged.FlatMap a ∷ b.0, b.1) (t.keyword k.FlatMap ∷ ts) vs
  store_stage-join : {a : Tree a_name} {b : Tree store_stages} {ts us vs : List Token} → Derives a_name a ts us → Derives store_stages b us vs
      → Derives store_stage (staged.LeftJoin a ∷ b.0, b.1) (t.keyword k.LeftJoin ∷ ts) vs
  store_stage-sum : {a : Tree mono} {ts us : List Token} → Derives mono a ts us → Derives store_stage ([], a) (t.keyword k.SumByKey ∷ ts) us
  statement-source : {a : Tree a_name} {b : Tree open_paren} {c : Tree fields} {ts us vs ws : List Token} → Derives a_name a ts us
      → Derives open_paren b us vs → Derives fields c vs ws → Derives statement (statements.Source a c) (t.keyword k.Source ∷ ts) ws
  statement-service : {a : Tree a_name} {b : Tree open_paren} {c : Tree scalar} {d : Tree arrow} {g : Tree scalar} {h : Tree close_paren} {ts us vs ws xs ys zs : List Token}
      → Derives a_name a ts us → Derives open_paren b us vs → Derives scalar c vs ws → Derives arrow d ws xs → Derives scalar g xs ys
      → Derives close_paren h ys zs → Derives statement (statements.Service a c g) (t.keyword k.Service ∷ ts) zs
  statement-let : {a : Tree a_name} {b : Tree assign} {c : Tree stream} {ts us vs ws : List Token} → Derives a_name a ts us → Derives assign b us vs
      → Derives stream c vs ws → Derives statement (statements.Let a c) (t.keyword k.Let ∷ ts) ws
  statement-store : {a : Tree a_name} {b : Tree assign} {c : Tree head} {d : Tree store_stages} {ts us vs ws xs : List Token}
      → Derives a_name a ts us → Derives assign b us vs → Derives head c vs ws → Derives store_stages d ws xs → Derives statement
      (statements.Store a (roll-Stream (record { head = c; stages = d.0 })) d.1) (t.keyword k.Store ∷ ts) xs
