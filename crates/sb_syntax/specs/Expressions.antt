-- Expressions.
use Rattle.std.specs.Prelude.{ℕ, zero, suc, Bool, true, false, if◌then◌else◌, List, [], ◌∷◌, ◌++◌, Option, Some, None}
use Rattle.sb_tokens.specs.declared.keyword.Keyword.TheVariants as k
use Rattle.sb_tokens.specs.declared.symbol.Symbol.TheVariants as m
use Rattle.sb_tokens.specs.declared.keyword.Keyword.{Keyword}
use Rattle.sb_tokens.specs.Keyword.{keyword_text}
use Rattle.sb_tokens.specs.Token.{Token}
use Rattle.sb_tokens.specs.Token as t
use Rattle.sb_grammar.specs.declared.expressions.TypeTree.{TypeTree}
use Rattle.sb_grammar.specs.declared.expressions.Expr.{Expr}
use Rattle.sb_grammar.specs.declared.expressions.Expr.TheVariants as exprs
use Rattle.sb_grammar.specs.declared.expressions.Disj.{Disj, roll-Disj}
use Rattle.sb_grammar.specs.declared.expressions.Conj.{Conj, roll-Conj}
use Rattle.sb_grammar.specs.declared.expressions.Neg.{Neg}
use Rattle.sb_grammar.specs.declared.expressions.Neg.TheVariants as negs
use Rattle.sb_grammar.specs.declared.expressions.Cmp.{Cmp}
use Rattle.sb_grammar.specs.declared.expressions.Cmp.TheVariants as cmps
use Rattle.sb_grammar.specs.declared.expressions.CmpOp.{CmpOp}
use Rattle.sb_grammar.specs.declared.expressions.CmpOp.TheVariants as operators
use Rattle.sb_grammar.specs.declared.expressions.Add.{Add, roll-Add}
use Rattle.sb_grammar.specs.declared.expressions.AddRest.{AddRest}
use Rattle.sb_grammar.specs.declared.expressions.AddRest.TheVariants as add_rest
use Rattle.sb_grammar.specs.declared.expressions.Prod.{Prod, roll-Prod}
use Rattle.sb_grammar.specs.declared.expressions.ProdRest.{ProdRest}
use Rattle.sb_grammar.specs.declared.expressions.ProdRest.TheVariants as prod_rest
use Rattle.sb_grammar.specs.declared.expressions.Unary.{Unary}
use Rattle.sb_grammar.specs.declared.expressions.Unary.TheVariants as unaries
use Rattle.sb_grammar.specs.declared.expressions.Post.{Post, roll-Post}
use Rattle.sb_grammar.specs.declared.expressions.PostStep.{PostStep}
use Rattle.sb_grammar.specs.declared.expressions.PostStep.TheVariants as steps
use Rattle.sb_grammar.specs.declared.expressions.Atom.{Atom}
use Rattle.sb_grammar.specs.declared.expressions.Atom.TheVariants as atoms
use Rattle.sb_syntax.specs.Reading.{Parser, ◌>>=◌, ◌>>◌, ◌<$>◌, pure, refuse, too_deep, ahead, take_token, take_with, sees, sees_word, expect, expect_word, positive}
use Rattle.sb_syntax.specs.Types.{a_type}
use Rattle.sb_syntax.specs.declared.operators.Sign.{Sign}
use Rattle.sb_syntax.specs.declared.operators.Sign.TheVariants.{Plus, Minus}
use Rattle.sb_syntax.specs.declared.operators.Factor.{Factor}
use Rattle.sb_syntax.specs.declared.operators.Factor.TheVariants.{Times, Over, Modulo}

-- ---- operators

abbrev pub comparison_in : Option Token → Option CmpOp
comparison_in (Some (t.symbol m.Equal)) = Some operators.Equal
comparison_in (Some (t.symbol m.Unequal)) = Some operators.Unequal
comparison_in (Some (t.symbol m.Less)) = Some operators.Less
comparison_in (Some (t.symbol m.AtMost)) = Some operators.AtMost
comparison_in (Some (t.symbol m.Greater)) = Some operators.Greater
comparison_in (Some (t.symbol m.AtLeast)) = Some operators.AtLeast
comparison_in _ = None

abbrev pub sign_in : Option Token → Option Sign
sign_in (Some (t.symbol m.Plus)) = Some Plus
sign_in (Some (t.symbol m.Minus)) = Some Minus
sign_in _ = None

abbrev pub factor_in : Option Token → Option Factor
factor_in (Some (t.symbol m.Star)) = Some Times
factor_in (Some (t.symbol m.Slash)) = Some Over
factor_in (Some (t.symbol m.Percent)) = Some Modulo
factor_in _ = None

abbrev pub signed : Sign → Prod → AddRest
signed Plus a = add_rest.Plus a
signed Minus a = add_rest.Minus a

-- ---- steps behind an atom

-- a field, or 1 or 2
abbrev pub step_in : Option Token → Option PostStep
step_in (Some (t.name bytes)) = Some (steps.Field bytes)
step_in (Some (t.keyword w)) = Some (steps.Field (keyword_text w))
step_in (Some (t.int (suc zero))) = Some steps.First
step_in (Some (t.int (suc (suc zero)))) = Some steps.Second
step_in _ = None

unfoldable pub post_step : Parser PostStep
post_step i = take_with (step_in (ahead i)) i

unfoldable pub post_steps : ℕ → List PostStep → Parser (List PostStep)
post_steps zero found i = too_deep i
post_steps (suc n) found i = if sees m.Dot i then (take_token >> post_step >>= λ a. post_steps n (found ++ a ∷ [])) i else pure found i

-- begins an atom
abbrev pub is_call : Keyword → Bool
is_call k.True = true
is_call k.False = true
is_call k.It = true
is_call k.Empty = true
is_call k.NoneOf = true
is_call k.SomeOf = true
is_call k.Has = true
is_call k.Lower = true
is_call k.Len = true
is_call k.Orelse = true
is_call k.Starts = true
is_call k.Words = true
is_call _ = false

-- ---- what holds expressions, over the parser of those, and a number that no list's length passes

module _ (e : Parser Expr) (n : ℕ) where
  -- "(" expr ")"
  unfoldable pub argument : Parser Expr
  argument = do
    expect m.OpenParen
    a ← e
    expect m.CloseParen
    pure a

  unfoldable pub two_arguments : Parser (Expr × Expr)
  two_arguments = do
    expect m.OpenParen
    a ← e
    expect m.Comma
    b ← e
    expect m.CloseParen
    pure (a, b)

  unfoldable pub type_argument : Parser TypeTree
  type_argument = do
    expect m.OpenParen
    a ← a_type n
    expect m.CloseParen
    pure a

  -- behind "("
  unfoldable pub group : Parser Atom
  group = e >>= (λ a i. if sees m.Comma i then (take_token >> e >>= λ b. expect m.CloseParen >> pure (atoms.Pair a b)) i else (expect m.CloseParen >> pure (atoms.Group a)) i)

  unfoldable pub list_end : ℕ → List Expr → Parser (List Expr)
  list_end zero found i = too_deep i
  list_end (suc turns) found i = if sees m.Comma i then (take_token >> e >>= λ a. list_end turns (found ++ a ∷ [])) i else (expect m.CloseBracket >> pure found) i

  -- behind "["
  unfoldable pub list : Parser Atom
  list = e >>= λ a. atoms.List <$> list_end n (a ∷ [])

  unfoldable pub words : Parser Atom
  words = do
    expect m.OpenParen
    a ← e
    expect m.Comma
    most ← positive
    expect m.CloseParen
    pure (atoms.Words a most)

  -- behind its word
  abbrev pub call_by : Keyword → Parser Atom
  call_by k.True = pure atoms.True
  call_by k.False = pure atoms.False
  call_by k.It = pure atoms.It
  call_by k.Empty = atoms.Empty <$> type_argument
  call_by k.NoneOf = atoms.NoneOf <$> type_argument
  call_by k.SomeOf = atoms.SomeOf <$> argument
  call_by k.Has = atoms.Has <$> argument
  call_by k.Lower = atoms.Lower <$> argument
  call_by k.Len = atoms.Len <$> argument
  call_by k.Orelse = two_arguments >>= λ p. pure (atoms.Orelse p.0 p.1)
  call_by k.Starts = two_arguments >>= λ p. pure (atoms.Starts p.0 p.1)
  call_by k.Words = words
  call_by _ = refuse

  unfoldable pub call : Keyword → Parser Atom
  call w i = if is_call w then (take_token >> call_by w) i else refuse i

  abbrev pub atom_by : Option Token → Parser Atom
  atom_by (Some (t.int value)) = take_token >> pure (atoms.Int value)
  atom_by (Some (t.text value)) = take_token >> pure (atoms.Text value)
  atom_by (Some (t.keyword w)) = call w
  atom_by (Some (t.symbol m.OpenParen)) = take_token >> group
  atom_by (Some (t.symbol m.OpenBracket)) = take_token >> list
  atom_by _ = refuse

  unfoldable pub atom : Parser Atom
  atom i = atom_by (ahead i) i

  -- ---- operators, from the tightest on

  unfoldable pub post : Parser Post
  post = do
    a ← atom
    found ← post_steps n []
    pure (roll-Post (record { atom = a; steps = found }))

  unfoldable pub unary : ℕ → Parser Unary
  unary zero i = too_deep i
  unary (suc turns) i = if sees m.Minus i then (take_token >> unaries.Minus <$> unary turns) i else (unaries.Plain <$> post) i

  abbrev pub factor : Factor → Parser ProdRest
  factor Times = prod_rest.Times <$> unary n
  factor Over = prod_rest.Over <$> positive
  factor Modulo = prod_rest.Modulo <$> positive

  abbrev pub prod_rests_by : (List ProdRest → Parser (List ProdRest)) → List ProdRest → Option Factor → Parser (List ProdRest)
  prod_rests_by more found None = pure found
  prod_rests_by more found (Some by) = take_token >> factor by >>= λ a. more (found ++ a ∷ [])

  unfoldable pub prod_rests : ℕ → List ProdRest → Parser (List ProdRest)
  prod_rests zero found i = too_deep i
  prod_rests (suc turns) found i = prod_rests_by (prod_rests turns) found (factor_in (ahead i)) i

  unfoldable pub prod : Parser Prod
  prod = do
    a ← unary n
    found ← prod_rests n []
    pure (roll-Prod (record { first = a; rest = found }))

  abbrev pub add_rests_by : (List AddRest → Parser (List AddRest)) → List AddRest → Option Sign → Parser (List AddRest)
  add_rests_by more found None = pure found
  add_rests_by more found (Some sign) = take_token >> prod >>= λ a. more (found ++ signed sign a ∷ [])

  unfoldable pub add_rests : ℕ → List AddRest → Parser (List AddRest)
  add_rests zero found i = too_deep i
  add_rests (suc turns) found i = add_rests_by (add_rests turns) found (sign_in (ahead i)) i

  unfoldable pub add : Parser Add
  add = do
    a ← prod
    found ← add_rests n []
    pure (roll-Add (record { first = a; rest = found }))

  abbrev pub compared : Add → Option CmpOp → Parser Cmp
  compared a None = pure (cmps.Plain a)
  compared a (Some operator) = take_token >> cmps.Both operator a <$> add

  unfoldable pub cmp : Parser Cmp
  cmp = add >>= (λ a i. compared a (comparison_in (ahead i)) i)

  unfoldable pub neg : ℕ → Parser Neg
  neg zero i = too_deep i
  neg (suc turns) i = if sees_word k.Not i then (take_token >> negs.Not <$> neg turns) i else (negs.Plain <$> cmp) i

  unfoldable pub conj_rests : ℕ → List Neg → Parser (List Neg)
  conj_rests zero found i = too_deep i
  conj_rests (suc turns) found i = if sees_word k.And i then (take_token >> neg n >>= λ a. conj_rests turns (found ++ a ∷ [])) i else pure found i

  unfoldable pub conj : Parser Conj
  conj = do
    a ← neg n
    found ← conj_rests n []
    pure (roll-Conj (record { first = a; rest = found }))

  unfoldable pub disj_rests : ℕ → List Conj → Parser (List Conj)
  disj_rests zero found i = too_deep i
  disj_rests (suc turns) found i = if sees_word k.Or i then (take_token >> conj >>= λ a. disj_rests turns (found ++ a ∷ [])) i else pure found i

  unfoldable pub disj : Parser Disj
  disj = do
    a ← conj
    found ← disj_rests n []
    pure (roll-Disj (record { first = a; rest = found }))

  -- behind "if"
  unfoldable pub choice : Parser Expr
  choice = do
    a ← e
    expect_word k.Then
    b ← e
    expect_word k.Else
    c ← e
    pure (exprs.If a b c)

  unfoldable pub level : Parser Expr
  level i = if sees_word k.If i then (take_token >> choice) i else (exprs.Plain <$> disj) i

-- an expression in which others are open in one another to this depth
unfoldable pub expr : ℕ → Parser Expr
expr zero = too_deep
expr (suc n) = level (expr n) n
