-- The text of a value is read as the value.
use Rattle.std.proofs.Common.{◌≡◌, ◌∙◌, inl, inr, ℕ, suc, zero, ◌≤◌, ℤ, Bool, true, false, List, [], ◌∷◌, ◌++◌, length, Option, Some, None, refl, sym, ap, arith, append_assoc, append-nil}
use Rattle.std.specs.Prelude.{nat_le, option_and_then, FitsSigned, IsUtf8}
use Rattle.std.specs.Int.{w64}
use Rattle.std.specs.Fmt.{signed_decimal}
use Rattle.std.specs.List.{AllByRecursion}
use Rattle.std.proofs.lemmas.Str.{is_utf8-from_IsUtf8}
use Rattle.std.proofs.lemmas.Bool.Decides.{nat_tests}
use Rattle.sb_text.specs.Escape.{escaped, text_unescaped}
use Rattle.sb_text.proofs.Decimals.{integer-signed_decimal}
use Rattle.sb_text.proofs.EscapedForms.{unescaped-escaped}
use Rattle.sb_text.proofs.Utf8.{utf8_bytes}
use Rattle.sb_types.specs.Read.{IsEnd, Front, Parts, further_front, parts_front, with_first, value_front, fields_front, further_fields, value_read}
use Rattle.sb_types.specs.Text.{value_text, parts_text, further_text}
use Rattle.sb_types.specs.Typed.{IsValueOf, AreFieldsOf}
use Rattle.sb_types.specs.Value.{Value, Values, int, text, truth, pair, list, end, more, items_of, values_of}
use Rattle.sb_types.specs.ValueType.{ValueType, ints, texts, truths, pairs, options, lists, records, Fields, no_field, field}
use Rattle.sb_types.proofs.Inner.{inner_signed, inner_escaped, leaf-end, after_leaf-end, leaf-front, after_leaf-front}

pub text_again : (t : List ℕ) → IsUtf8 t → text_unescaped (escaped t) ≡ Some t
text_again t is = rw (unescaped-escaped t (utf8_bytes t is), is_utf8-from_IsUtf8 t is) refl

abbrev pub front : Value → List ℕ → Option Front
front v rest = Some (record { value = v; rest = rest })

abbrev parts : List Value → List ℕ → Parts
parts vs rest = record { values = vs; rest = rest }

int_again : (n : ℤ) (rest : List ℕ) → FitsSigned w64 n → IsEnd rest → value_front ints (signed_decimal n ++ rest) ≡ front (int n) rest
int_again n rest fits ends =
    rw (leaf-front (signed_decimal n) rest (inner_signed n fits) ends, after_leaf-front (signed_decimal n) rest (inner_signed n fits) ends, integer-signed_decimal n fits) refl

texts_again : (t rest : List ℕ) → IsUtf8 t → IsEnd rest → value_front texts (escaped t ++ rest) ≡ front (text t) rest
texts_again t rest is ends =
    let inner = inner_escaped t (utf8_bytes t is) in
    rw (leaf-front (escaped t) rest inner ends, after_leaf-front (escaped t) rest inner ends, text_again t is) refl

truth_again : (b : Bool) (rest : List ℕ) → IsEnd rest → value_front truths (value_text (truth b) ++ rest) ≡ front (truth b) rest
truth_again true rest ends = rw (leaf-end rest ends, after_leaf-end rest ends) refl
truth_again false rest ends = rw (leaf-end rest ends, after_leaf-end rest ends) refl

pub pair_parts : (xs ys rest : List ℕ) → (((xs ++ 44 ∷ []) ++ ys) ++ 41 ∷ []) ++ rest ≡ xs ++ 44 ∷ (ys ++ 41 ∷ rest)
pair_parts xs ys rest =
    append_assoc ((xs ++ 44 ∷ []) ++ ys) (41 ∷ []) rest ∙ (append_assoc (xs ++ 44 ∷ []) ys (41 ∷ rest) ∙ append_assoc xs (44 ∷ []) (ys ++ 41 ∷ rest))

-- the type's reader reads the text of this value as the value
abbrev IsAgain : (List ℕ → Option Front) → Value → Type 0
IsAgain read v = (rest : List ℕ) → IsEnd rest → read (value_text v ++ rest) ≡ front v rest

pair_again : (a b : ValueType) (x y : Value) (rest : List ℕ) → IsAgain (value_front a) x → IsAgain (value_front b) y → value_front (pairs a b) (value_text (pair x y) ++ rest) ≡ front (pair x y) rest
pair_again a b x y rest left right =
    rw (pair_parts (value_text x) (value_text y) rest, left (44 ∷ (value_text y ++ 41 ∷ rest)) refl, right (41 ∷ rest) refl) refl

-- what follows values with a comma before each is an end, where what follows the last is one
further_end : (vs : Values) (rest : List ℕ) → IsEnd rest → IsEnd (further_text vs ++ rest)
further_end end rest ends = ends
further_end (more v vs) rest ends = refl

further_again : (read : List ℕ → Option Front) (vs : Values) (n : ℕ) (rest : List ℕ) → AllByRecursion (IsAgain read) (items_of vs) → length (items_of vs) ≤ n
    → further_front read n (further_text vs ++ 93 ∷ rest) ≡ parts (items_of vs) (93 ∷ rest)
further_again read end zero rest all few = refl
further_again read end (suc n) rest all few = refl
further_again read (more v vs) zero rest all few = absurd (omega (arith, few))
further_again read (more v vs) (suc n) rest all few =
    let behind = further_text vs ++ 93 ∷ rest in
    let text : (value_text v ++ further_text vs) ++ 93 ∷ rest ≡ value_text v ++ behind = append_assoc (value_text v) (further_text vs) (93 ∷ rest) in
    rw (text, all.0 behind (further_end vs (93 ∷ rest) refl), further_again read vs n rest all.1 (omega (arith, few))) refl

-- each value takes a byte at least
further_long : (vs : Values) (rest : List ℕ) → length (items_of vs) ≤ length (further_text vs ++ rest)
further_long end rest = omega arith
further_long (more v vs) rest =
    let text : (value_text v ++ further_text vs) ++ rest ≡ value_text v ++ (further_text vs ++ rest) = append_assoc (value_text v) (further_text vs) rest in
    let shorter = further_long vs rest in
    let behind = length_behind (value_text v) (further_text vs ++ rest) in
    rw text (omega (arith, shorter, behind)) where
      length_behind : (xs ys : List ℕ) → length ys ≤ length (xs ++ ys)
      length_behind [] ys = omega arith
      length_behind (x ∷ xs) ys = let rest = length_behind xs ys in omega (arith, rest)

-- no value's text begins with a closing bracket
no_front : (t : ValueType) (rest : List ℕ) → value_front t (93 ∷ rest) ≡ None
no_front ints rest = refl
no_front texts rest = refl
no_front truths rest = refl
no_front (pairs a b) rest = refl
no_front (options a) rest = refl
no_front (lists a most) rest = refl
no_front (records fields) rest = refl

parts_again : (t : ValueType) (vs : Values) (rest : List ℕ) → AllByRecursion (IsAgain (value_front t)) (items_of vs)
    → parts_front (value_front t) (parts_text vs ++ 93 ∷ rest) ≡ parts (items_of vs) (93 ∷ rest)
parts_again t end rest all = rw (no_front t rest) refl
parts_again t (more v vs) rest all =
    let behind = further_text vs ++ 93 ∷ rest in
    let text : (value_text v ++ further_text vs) ++ 93 ∷ rest ≡ value_text v ++ behind = append_assoc (value_text v) (further_text vs) (93 ∷ rest) in
    rw (text, all.0 behind (further_end vs (93 ∷ rest) refl), further_again (value_front t) vs (length behind) rest all.1 (further_long vs (93 ∷ rest))) refl

pub values_of-items_of : (vs : Values) → values_of (items_of vs) ≡ vs
values_of-items_of end = refl
values_of-items_of (more v vs) = ap (more v) (values_of-items_of vs)

list_again : (t : ValueType) (most : ℕ) (vs : Values) (rest : List ℕ) → AllByRecursion (IsAgain (value_front t)) (items_of vs) → length (items_of vs) ≤ most
    → value_front (lists t most) (value_text (list vs) ++ rest) ≡ front (list vs) rest
list_again t most vs rest all few =
    let few_test : nat_le (length (items_of vs)) most ≡ true = grind (arith, nat_tests, few) in
    rw (append_assoc (parts_text vs) (93 ∷ []) rest, parts_again t vs rest all, few_test, values_of-items_of vs) refl

fields_again : (read : List ℕ → Option Parts) (t : ValueType) (w : Value) (ws : Values) (rest : List ℕ) → IsAgain (value_front t) w
    → read (further_text ws ++ 125 ∷ rest) ≡ Some (parts (items_of ws) (125 ∷ rest))
    → option_and_then (with_first read) (value_front t ((value_text w ++ further_text ws) ++ 125 ∷ rest)) ≡ Some (parts (w ∷ items_of ws) (125 ∷ rest))
fields_again read t w ws rest again next =
    let text = append_assoc (value_text w) (further_text ws) (125 ∷ rest) in
    rw (text, again (further_text ws ++ 125 ∷ rest) (further_end ws (125 ∷ rest) refl), next) refl

all_weaker : {X : Type 0} (P Q : X → Type 0) → ((x : X) → P x → Q x) → (xs : List X) → AllByRecursion P xs → AllByRecursion Q xs
all_weaker P Q next [] all = tt
all_weaker P Q next (x ∷ xs) all = (next x all.0, all_weaker P Q next xs all.1)

mutual
  pub front_again : (t : ValueType) (v : Value) (rest : List ℕ) → IsValueOf t v → IsEnd rest → value_front t (value_text v ++ rest) ≡ front v rest
  front_again ints v rest is ends = rw is.1 (int_again is.0 rest is.2 ends)
  front_again texts v rest is ends = rw is.1 (texts_again is.0 rest is.2 ends)
  front_again truths v rest is ends = rw is.1 (truth_again is.0 rest ends)
  front_again (pairs a b) v rest is ends =
      rw is.2 (pair_again a b is.0 is.1 rest (λ rest ends. front_again a is.0 rest is.3 ends) (λ rest ends. front_again b is.1 rest is.4 ends))
  front_again (options a) v rest (inl is) ends = rw is refl
  front_again (options a) v rest (inr is) ends = rw (is.1, front_again a is.0 rest is.2 ends) refl
  front_again (lists a most) v rest is ends = rw is.1 (list_again a most is.0 rest (all_weaker (IsValueOf a) (IsAgain (value_front a)) (λ v is rest ends. front_again a v rest is ends) (items_of is.0) is.2) is.3)
  front_again (records fields) v rest is ends =
      rw (is.1, append_assoc (parts_text is.0) (125 ∷ []) rest, record_again fields is.0 rest is.2, values_of-items_of is.0) refl

  record_again : (fields : Fields) (vs : Values) (rest : List ℕ) → AreFieldsOf fields vs → fields_front fields (parts_text vs ++ 125 ∷ rest) ≡ Some (parts (items_of vs) (125 ∷ rest))
  record_again no_field vs rest are = rw are refl
  record_again (field name t fields) vs rest are =
      rw are.2 (fields_again (further_fields fields) t are.0 are.1 rest (λ rest ends. front_again t are.0 rest are.3 ends) (further_again_fields fields are.1 rest are.4))

  further_again_fields : (fields : Fields) (vs : Values) (rest : List ℕ) → AreFieldsOf fields vs → further_fields fields (further_text vs ++ 125 ∷ rest) ≡ Some (parts (items_of vs) (125 ∷ rest))
  further_again_fields no_field vs rest are = rw are refl
  further_again_fields (field name t fields) vs rest are =
      rw are.2 (fields_again (further_fields fields) t are.0 are.1 rest (λ rest ends. front_again t are.0 rest are.3 ends) (further_again_fields fields are.1 rest are.4))

pub read-text : (t : ValueType) (v : Value) → IsValueOf t v → value_read t (value_text v) ≡ Some v
read-text t v is = rw (sym (append-nil (value_text v)), front_again t v [] is tt) refl
