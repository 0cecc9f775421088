-- Streams and statements.
use Rattle.std.specs.Prelude.{ℕ, zero, suc, Bool, true, false, if◌then◌else◌, List, [], ◌∷◌, ◌++◌}
use Rattle.sb_tokens.specs.declared.keyword.Keyword.TheVariants as k
use Rattle.sb_tokens.specs.declared.symbol.Symbol.TheVariants as m
use Rattle.sb_grammar.specs.declared.programs.FieldTree.{FieldTree}
use Rattle.sb_grammar.specs.declared.programs.Statement.{Statement}
use Rattle.sb_grammar.specs.declared.programs.Statement.TheVariants as statements
use Rattle.sb_grammar.specs.declared.programs.Stream.{Stream, roll-Stream}
use Rattle.sb_grammar.specs.declared.programs.Head.{Head}
use Rattle.sb_grammar.specs.declared.programs.Head.TheVariants as heads
use Rattle.sb_grammar.specs.declared.programs.Stage.{Stage}
use Rattle.sb_grammar.specs.declared.programs.Stage.TheVariants as staged
use Rattle.sb_grammar.specs.declared.programs.MonoTree.{MonoTree}
use Rattle.sb_syntax.specs.Reading.{Parser, ◌>>=◌, ◌>>◌, ◌<$>◌, pure, refuse, too_deep, take_token, sees, sees_word, expect, expect_word, number}
use Rattle.sb_syntax.specs.Reading.{positive, a_name, a_word}
use Rattle.sb_syntax.specs.Types.{scalar, mono}
use Rattle.sb_syntax.specs.Expressions.{expr}

-- as many tokens as a statement may have, so that no list is longer and nothing is open in itself more often
abbrev pub max_tokens : ℕ
max_tokens = 256

-- ---- sources

unfoldable pub field : Parser FieldTree
field = do
  a ← a_word
  expect m.Colon
  s ← scalar
  pure (record { name = a; scalar = s })

unfoldable pub more_fields : ℕ → List FieldTree → Parser (List FieldTree)
more_fields zero found i = too_deep i
more_fields (suc turns) found i = if sees m.Comma i then (take_token >> field >>= λ a. more_fields turns (found ++ a ∷ [])) i else (expect m.CloseParen >> pure found) i

-- behind "("
unfoldable pub fields : Parser (List FieldTree)
fields i = if sees m.CloseParen i then (take_token >> pure []) i else (field >>= λ a. more_fields max_tokens (a ∷ [])) i

-- ---- streams

unfoldable pub stage : Parser Stage
stage i =
    if sees_word k.Map i then (take_token >> staged.Map <$> expr max_tokens) i
    else (if sees_word k.Filter i then (take_token >> staged.Filter <$> expr max_tokens) i
    else (if sees_word k.FlatMap i then (take_token >> staged.FlatMap <$> expr max_tokens) i
    else (if sees_word k.LeftJoin i then (take_token >> staged.LeftJoin <$> a_name) i
    else refuse i)))

unfoldable pub stages : ℕ → List Stage → Parser (List Stage)
stages zero found i = too_deep i
stages (suc turns) found i = if sees m.Bar i then (take_token >> stage >>= λ a. stages turns (found ++ a ∷ [])) i else pure found i

unfoldable pub stream_behind : Head → Parser Stream
stream_behind a = stages max_tokens [] >>= λ found. pure (roll-Stream (record { head = a; stages = found }))

-- behind "merge"
abbrev pub merge : Parser Head → Parser Head
merge part = do
  expect m.OpenParen
  a ← part
  b ← stream_behind a
  expect m.Comma
  c ← part
  d ← stream_behind c
  expect m.CloseParen
  pure (heads.Merge b d)

unfoldable pub head : ℕ → Parser Head
head zero i = too_deep i
head (suc depth) i = if sees_word k.Merge i then (take_token >> merge (head depth)) i else (heads.Name <$> a_name) i

unfoldable pub stream : Parser Stream
stream = head max_tokens >>= stream_behind

-- ---- stores

abbrev pub store_stage : (List Stage → Parser (List Stage × MonoTree)) → List Stage → Parser (List Stage × MonoTree)
store_stage more found i = if sees_word k.SumByKey i then (take_token >> mono max_tokens >>= λ a. pure (found, a)) i else (stage >>= λ a. more (found ++ a ∷ [])) i

unfoldable pub store_stages : ℕ → List Stage → Parser (List Stage × MonoTree)
store_stages zero found i = too_deep i
store_stages (suc turns) found i = (expect m.Bar >> store_stage (store_stages turns) found) i

-- ---- statements, behind their first words

unfoldable pub source : Parser Statement
source = do
  a ← a_name
  expect m.OpenParen
  b ← fields
  pure (statements.Source a b)

unfoldable pub service : Parser Statement
service = do
  a ← a_name
  expect m.OpenParen
  b ← scalar
  expect m.Arrow
  c ← scalar
  expect m.CloseParen
  pure (statements.Service a b c)

unfoldable pub let_stream : Parser Statement
let_stream = do
  a ← a_name
  expect m.Assign
  b ← stream
  pure (statements.Let a b)

unfoldable pub store : Parser Statement
store = do
  a ← a_name
  expect m.Assign
  b ← head max_tokens
  c ← store_stages max_tokens []
  pure (statements.Store a (roll-Stream (record { head = b; stages = c.0 })) c.1)

unfoldable pub statement : Parser Statement
statement i =
    if sees_word k.Source i then (take_token >> source) i
    else (if sees_word k.Service i then (take_token >> service) i
    else (if sees_word k.Let i then (take_token >> let_stream) i
    else (if sees_word k.Store i then (take_token >> store) i
    else refuse i)))

-- ---- the batch head

unfoldable pub start : Parser (Bool × ℕ)
start i = if sees m.Minus i then (take_token >> number >>= λ a. pure (true, a)) i else (number >>= λ a. pure (false, a)) i

unfoldable pub batch : Parser (ℕ × (Bool × ℕ))
batch = do
  expect_word k.Batch
  a ← positive
  expect_word k.From
  b ← start
  pure (a, b)
