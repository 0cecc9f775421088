-- Values of expressions are of the types that the checker gives them.
use Rattle.std.proofs.Common.{◌≡◌, ℕ, inl, inr, List, [], ◌∷◌, IsUtf8}
use Rattle.std.specs.Prelude.{Ok}
use Rattle.std.specs.List.{AllByRecursion}
use Rattle.sb_types.specs.Typed.{IsValueOf, AreFieldsOf}
use Rattle.sb_types.specs.Value.{Value, Values, items_of}
use Rattle.sb_types.specs.ValueType.{ValueType, ints, texts, truths, pairs, options, lists, records, Fields, no_field, field}
use Rattle.sb_grammar.specs.declared.expressions.Expr.{Expr}
use Rattle.sb_terms.specs.Expressions.{expr_walk}
use Rattle.sb_terms.specs.Nodes.{TypedTerm}
use Rattle.sb_meaning.specs.Expression.{ev}
use Rattle.sb_meaning.specs.Shaped.{IsValueWith, AreFieldsWith}
use Rattle.sb_meaning.specs.Texts.{texts_in}
use Rattle.sb_meaning.proofs.ExpressionTypes.{expr_sound}
use Rattle.sb_meaning.proofs.OperationTypes.{KeepsTexts}
use Rattle.sb_meaning.proofs.TextTypes.{lowered_text, words_texts}

all_weaker : (P Q : Value → Type 0) → ((v : Value) → P v → Q v) → (vs : List Value) → AllByRecursion P vs → AllByRecursion Q vs
all_weaker P Q h [] are = tt
all_weaker P Q h (v ∷ vs) are = (h v are.0, all_weaker P Q h vs are.1)

-- ---- values whose texts have a property that follows from another

module _ (P Q : List ℕ → Type 0) (h : (t : List ℕ) → P t → Q t) where
  mutual
    pub value_weaker : (t : ValueType) (v : Value) → IsValueWith P t v → IsValueWith Q t v
    value_weaker ints v is = is
    value_weaker texts v is = (is.0, is.1, h is.0 is.2)
    value_weaker truths v is = is
    value_weaker (pairs a b) v is = (is.0, is.1, is.2, value_weaker a is.0 is.3, value_weaker b is.1 is.4)
    value_weaker (options a) v (inl e) = inl e
    value_weaker (options a) v (inr is) = inr (is.0, is.1, value_weaker a is.0 is.2)
    value_weaker (lists a most) v is = (is.0, is.1, all_weaker (IsValueWith P a) (IsValueWith Q a) (λ v is. value_weaker a v is) (items_of is.0) is.2, is.3)
    value_weaker (records fields) v is = (is.0, is.1, fields_weaker fields is.0 is.2)

    fields_weaker : (fields : Fields) (vs : Values) → AreFieldsWith P fields vs → AreFieldsWith Q fields vs
    fields_weaker no_field vs are = are
    fields_weaker (field name t fields) vs are = (are.0, are.1, are.2, value_weaker t are.0 are.3, fields_weaker fields are.1 are.4)

-- ---- values whose texts are UTF-8

mutual
  pub value_with : (t : ValueType) (v : Value) → IsValueOf t v → IsValueWith IsUtf8 t v
  value_with ints v is = is
  value_with texts v is = is
  value_with truths v is = is
  value_with (pairs a b) v is = (is.0, is.1, is.2, value_with a is.0 is.3, value_with b is.1 is.4)
  value_with (options a) v (inl e) = inl e
  value_with (options a) v (inr is) = inr (is.0, is.1, value_with a is.0 is.2)
  value_with (lists a most) v is = (is.0, is.1, all_weaker (IsValueOf a) (IsValueWith IsUtf8 a) (λ v is. value_with a v is) (items_of is.0) is.2, is.3)
  value_with (records fields) v is = (is.0, is.1, fields_with fields is.0 is.2)

  fields_with : (fields : Fields) (vs : Values) → AreFieldsOf fields vs → AreFieldsWith IsUtf8 fields vs
  fields_with no_field vs are = are
  fields_with (field name t fields) vs are = (are.0, are.1, are.2, value_with t are.0 are.3, fields_with fields are.1 are.4)

mutual
  pub value_without : (t : ValueType) (v : Value) → IsValueWith IsUtf8 t v → IsValueOf t v
  value_without ints v is = is
  value_without texts v is = is
  value_without truths v is = is
  value_without (pairs a b) v is = (is.0, is.1, is.2, value_without a is.0 is.3, value_without b is.1 is.4)
  value_without (options a) v (inl e) = inl e
  value_without (options a) v (inr is) = inr (is.0, is.1, value_without a is.0 is.2)
  value_without (lists a most) v is = (is.0, is.1, all_weaker (IsValueWith IsUtf8 a) (IsValueOf a) (λ v is. value_without a v is) (items_of is.0) is.2, is.3)
  value_without (records fields) v is = (is.0, is.1, fields_without fields is.0 is.2)

  fields_without : (fields : Fields) (vs : Values) → AreFieldsWith IsUtf8 fields vs → AreFieldsOf fields vs
  fields_without no_field vs are = are
  fields_without (field name t fields) vs are = (are.0, are.1, are.2, value_without t are.0 are.3, fields_without fields are.1 are.4)

pub utf8_kept : KeepsTexts IsUtf8
utf8_kept = record { lower = lowered_text; words = words_texts }

-- the value of an expression is of its type, where the texts in it are UTF-8
pub ev_typed : (e : Expr) (t : ValueType) (x : TypedTerm) → expr_walk e t ≡ Ok x → AllByRecursion IsUtf8 (texts_in x.term) → (v : Value) → IsValueOf t v → IsValueOf x.type (ev x.term v)
ev_typed e t x walked utf8 v is = value_without x.type (ev x.term v) (expr_sound IsUtf8 utf8_kept e t x walked utf8 v (value_with t v is))

-- ---- values of which no text has to be anything

abbrev pub IsAny : List ℕ → Type 0
IsAny t = Unit {0}

pub any_all : (ts : List (List ℕ)) → AllByRecursion IsAny ts
any_all [] = tt
any_all (t ∷ ts) = (tt, any_all ts)

pub any_kept : KeepsTexts IsAny
any_kept = record { lower = λ t _. tt; words = λ n t _. any_all _ }
