-- Types and monoids.
use Rattle.std.specs.Prelude.{ℕ, zero, suc, if◌then◌else◌, Option, Some, None}
use Rattle.sb_tokens.specs.declared.keyword.Keyword.TheVariants as k
use Rattle.sb_tokens.specs.declared.symbol.Symbol.TheVariants as m
use Rattle.sb_tokens.specs.Token.{Token}
use Rattle.sb_tokens.specs.Token as t
use Rattle.sb_grammar.specs.declared.programs.MonoTree.{MonoTree}
use Rattle.sb_grammar.specs.declared.programs.MonoTree.TheVariants as monos
use Rattle.sb_grammar.specs.declared.expressions.Scalar.{Scalar}
use Rattle.sb_grammar.specs.declared.expressions.Scalar.TheVariants as scalars
use Rattle.sb_grammar.specs.declared.expressions.TypeTree.{TypeTree}
use Rattle.sb_grammar.specs.declared.expressions.TypeTree.TheVariants as types
use Rattle.sb_syntax.specs.Reading.{Parser, ◌>>=◌, ◌>>◌, ◌<$>◌, pure, too_deep, ahead, take_token, take_with, sees_word, expect, number}

abbrev pub scalar_in : Option Token → Option Scalar
scalar_in (Some (t.keyword k.Int)) = Some scalars.Int
scalar_in (Some (t.keyword k.Text)) = Some scalars.Text
scalar_in (Some (t.keyword k.Bool)) = Some scalars.Bool
scalar_in _ = None

unfoldable pub scalar : Parser Scalar
scalar i = take_with (scalar_in (ahead i)) i

module _ (part : Parser TypeTree) where
  abbrev pub pair_type : Parser TypeTree
  pair_type = do
    expect m.OpenParen
    a ← part
    expect m.Comma
    b ← part
    expect m.CloseParen
    pure (types.Pair a b)

  abbrev pub option_type : Parser TypeTree
  option_type = do
    expect m.OpenParen
    a ← part
    expect m.CloseParen
    pure (types.Opt a)

  abbrev pub list_type : Parser TypeTree
  list_type = do
    expect m.OpenParen
    a ← part
    expect m.Comma
    most ← number
    expect m.CloseParen
    pure (types.List a most)

  abbrev pub type_level : Parser TypeTree
  type_level i =
      if sees_word k.Pair i then (take_token >> pair_type) i
      else (if sees_word k.Opt i then (take_token >> option_type) i
      else (if sees_word k.List i then (take_token >> list_type) i
      else (types.Scalar <$> scalar) i))

unfoldable pub a_type : ℕ → Parser TypeTree
a_type zero = too_deep
a_type (suc n) = type_level (a_type n)

abbrev pub plain_mono_in : Option Token → Option MonoTree
plain_mono_in (Some (t.keyword k.Sum)) = Some monos.Sum
plain_mono_in (Some (t.keyword k.Min)) = Some monos.Min
plain_mono_in (Some (t.keyword k.Max)) = Some monos.Max
plain_mono_in (Some (t.keyword k.First)) = Some monos.First
plain_mono_in (Some (t.keyword k.Last)) = Some monos.Last
plain_mono_in (Some (t.keyword k.Concat)) = Some monos.Concat
plain_mono_in (Some (t.keyword k.Set)) = Some monos.Set
plain_mono_in _ = None

unfoldable pub plain_mono : Parser MonoTree
plain_mono i = take_with (plain_mono_in (ahead i)) i

-- "(" INT ")"
unfoldable pub one_number : Parser ℕ
one_number = do
  expect m.OpenParen
  a ← number
  expect m.CloseParen
  pure a

unfoldable pub two_numbers : Parser (ℕ × ℕ)
two_numbers = do
  expect m.OpenParen
  a ← number
  expect m.Comma
  b ← number
  expect m.CloseParen
  pure (a, b)

module _ (part : Parser MonoTree) where
  abbrev pub pair_mono : Parser MonoTree
  pair_mono = do
    expect m.OpenParen
    a ← part
    expect m.Comma
    b ← part
    expect m.CloseParen
    pure (monos.Pair a b)

  abbrev pub map_mono : Parser MonoTree
  map_mono = do
    expect m.OpenParen
    a ← part
    expect m.CloseParen
    pure (monos.Map a)

  abbrev pub mono_level : Parser MonoTree
  mono_level i =
      if sees_word k.Top i then (take_token >> monos.Top <$> one_number) i
      else (if sees_word k.Cms i then (take_token >> two_numbers >>= λ p. pure (monos.Cms p.0 p.1)) i
      else (if sees_word k.Hll i then (take_token >> monos.Hll <$> one_number) i
      else (if sees_word k.Pair i then (take_token >> pair_mono) i
      else (if sees_word k.Map i then (take_token >> map_mono) i
      else plain_mono i))))

unfoldable pub mono : ℕ → Parser MonoTree
mono zero = too_deep
mono (suc n) = mono_level (mono n)
