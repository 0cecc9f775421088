-- What is read is written so.
use Rattle.std.proofs.Common.{◌≡◌, ◌∙◌, inl, inr, ℕ, zero, suc, ◌≤◌, ℤ, true, false, cond, List, [], ◌∷◌, ◌++◌, length, Option, Some, None, refl, sym, ap, arith, eqb, append_assoc, append-nil}
use Rattle.std.specs.Prelude.{IfSome, nat_le, option_map, option_and_then, codes, bytes_eq, FitsSigned}
use Rattle.std.specs.Int.{w64}
use Rattle.std.specs.Fmt.{signed_decimal}
use Rattle.std.specs.List.{AllByRecursion}
use Rattle.std.specs.Option.{option_map_or}
use Rattle.std.specs.Str.{is_utf8}
use Rattle.std.proofs.lemmas.Slice.Eq.{bytes_eq-Decides}
use Rattle.std.proofs.lemmas.Str.{IsUtf8-from_is_utf8}
use Rattle.std.proofs.lemmas.Bool.Decides.{nat_tests}
use Rattle.sb_text.specs.Decimal.{integer}
use Rattle.sb_text.specs.Escape.{escaped, unescaped}
use Rattle.sb_text.proofs.Decimals.{integer-spelled, integer-fits}
use Rattle.sb_text.proofs.EscapedForms.{unescaped-spelled}
use Rattle.sb_types.specs.Read.{leaf, after_leaf, expect, truth_of, Front, front_with, none_or, Parts, no_parts, onto_parts, next_front, further_front, parts_front, closed_list, value_front, fields_front, further_fields, before_end, value_read}
use Rattle.sb_types.specs.Text.{value_text, parts_text, further_text}
use Rattle.sb_types.specs.Typed.{IsValueOf, AreFieldsOf}
use Rattle.sb_types.specs.Value.{Value, Values, int, text, truth, pair, list, items_of, values_of}
use Rattle.sb_types.specs.ValueType.{ValueType, ints, texts, truths, pairs, options, lists, records, Fields, no_field, field}
use Rattle.sb_types.proofs.Inner.{leaf_whole}
use Rattle.sb_types.proofs.ReadAgain.{pair_parts}

-- what was read is a value of the type, and the bytes are its text with the rest
abbrev pub IsFront : ValueType → List ℕ → Front → Type 0
IsFront t bytes f = IsValueOf t f.value × (bytes ≡ value_text f.value ++ f.rest)

pub and_then_if : {X Y : Type 0} (o : Option X) (f : X → Option Y) (P : X → Type 0) (Q : Y → Type 0) → IfSome o P → ((x : X) → P x → IfSome (f x) Q) → IfSome (option_and_then f o) Q
and_then_if None f P Q is next = tt
and_then_if (Some x) f P Q is next = next x is

pub map_if : {X Y : Type 0} (o : Option X) (f : X → Y) (P : X → Type 0) (Q : Y → Type 0) → IfSome o P → ((x : X) → P x → Q (f x)) → IfSome (option_map f o) Q
map_if None f P Q is next = tt
map_if (Some x) f P Q is next = next x is

pub map_or : {X Y : Type 0} (o : Option X) (f : X → Y) (d : Y) (P : X → Type 0) (Q : Y → Type 0) → IfSome o P → ((x : X) → P x → Q (f x)) → Q d → Q (option_map_or f o d)
map_or None f d P Q is next other = other
map_or (Some x) f d P Q is next other = next x is

pub expect-spelled : (c : ℕ) (bytes : List ℕ) → IfSome (expect c bytes) (λ rest. bytes ≡ c ∷ rest)
expect-spelled c [] = tt
expect-spelled c (b ∷ bytes) =
    elim (eqb b c) as (λ a. eqb b c ≡ a → IfSome (cond a (Some bytes) None) (λ rest. b ∷ bytes ≡ c ∷ rest)) [
      | true ↦ λ is. let e : b ≡ c = grind (arith, nat_tests) in ap (λ x. x ∷ bytes) e
      | false ↦ λ _. tt
    ] refl

leaf_if : (t : ValueType) (bytes : List ℕ) (o : Option Value) → IfSome o (λ v. IsValueOf t v × (leaf bytes ≡ value_text v)) → IfSome (front_with (after_leaf bytes) o) (IsFront t bytes)
leaf_if t bytes None is = tt
leaf_if t bytes (Some v) is = (is.0, leaf_whole bytes ∙ ap (λ xs. xs ++ after_leaf bytes) is.1)

int_if : (bytes : List ℕ) (o : Option ℤ) → IfSome o (FitsSigned w64) → IfSome o (λ n. leaf bytes ≡ signed_decimal n)
    → IfSome (option_map int o) (λ v. IsValueOf ints v × (leaf bytes ≡ value_text v))
int_if bytes None fits is = tt
int_if bytes (Some n) fits is = ((n, refl, fits), is)

text_if : (bytes : List ℕ) (o : Option (List ℕ)) → IfSome o (λ t. leaf bytes ≡ escaped t)
    → IfSome (option_map text (option_and_then (λ t. cond (is_utf8 t) (Some t) None) o)) (λ v. IsValueOf texts v × (leaf bytes ≡ value_text v))
text_if bytes None is = tt
text_if bytes (Some t) is =
    elim (is_utf8 t) as (λ b. is_utf8 t ≡ b → IfSome (option_map text (cond b (Some t) None)) (λ v. IsValueOf texts v × (leaf bytes ≡ value_text v))) [
      | true ↦ λ utf8. ((t, refl, IsUtf8-from_is_utf8 t utf8), is)
      | false ↦ λ _. tt
    ] refl

truth_if : (bytes : List ℕ) → IfSome (option_map truth (truth_of (leaf bytes))) (λ v. IsValueOf truths v × (leaf bytes ≡ value_text v))
truth_if bytes =
    elim (bytes_eq (leaf bytes) (codes "true")) as (λ b. bytes_eq (leaf bytes) (codes "true") ≡ b
    → IfSome (option_map truth (cond b (Some true) (cond (bytes_eq (leaf bytes) (codes "false")) (Some false) None))) (λ v. IsValueOf truths v × (leaf bytes ≡ value_text v))) [
      | true ↦ λ is. ((true, refl), (bytes_eq-Decides (leaf bytes) (codes "true")).0 is)
      | false ↦ λ _. elim (bytes_eq (leaf bytes) (codes "false")) as (λ b. bytes_eq (leaf bytes) (codes "false") ≡ b
          → IfSome (option_map truth (cond b (Some false) None)) (λ v. IsValueOf truths v × (leaf bytes ≡ value_text v))) [
            | true ↦ λ is. ((false, refl), (bytes_eq-Decides (leaf bytes) (codes "false")).0 is)
            | false ↦ λ _. tt
          ] refl
    ] refl

pair_spelled : (bytes inside second rest : List ℕ) (left right : Front) → bytes ≡ 40 ∷ inside → inside ≡ value_text left.value ++ left.rest → left.rest ≡ 44 ∷ second
    → second ≡ value_text right.value ++ right.rest → right.rest ≡ 41 ∷ rest → bytes ≡ value_text (pair left.value right.value) ++ rest
pair_spelled bytes inside second rest left right a b c d e =
    let right_text : second ≡ value_text right.value ++ 41 ∷ rest = d ∙ ap (λ xs. value_text right.value ++ xs) e in
    let left_text : inside ≡ value_text left.value ++ 44 ∷ (value_text right.value ++ 41 ∷ rest) = b ∙ ap (λ xs. value_text left.value ++ xs) (c ∙ ap (λ xs. 44 ∷ xs) right_text) in
    a ∙ ap (λ xs. 40 ∷ xs) (left_text ∙ sym (pair_parts (value_text left.value) (value_text right.value) rest))

none_if : (t : ValueType) (bytes : List ℕ) (o : Option (List ℕ)) (other : Option Front) → IfSome o (λ rest. bytes ≡ 126 ∷ rest) → IfSome other (IsFront (options t) bytes)
    → IfSome (none_or o other) (IsFront (options t) bytes)
none_if t bytes None other is next = next
none_if t bytes (Some rest) other is next = (inl refl, is)

-- values that were read, and their texts with a comma before each, or between each two
abbrev AreFurther : (Value → Type 0) → List ℕ → Parts → Type 0
AreFurther V bytes parts = AllByRecursion V parts.values × (bytes ≡ further_text (values_of parts.values) ++ parts.rest)

abbrev AreParts : (Value → Type 0) → List ℕ → Parts → Type 0
AreParts V bytes parts = AllByRecursion V parts.values × (bytes ≡ parts_text (values_of parts.values) ++ parts.rest)

abbrev IsSpelled : (Value → Type 0) → (List ℕ → Option Front) → Type 0
IsSpelled V read = (bytes : List ℕ) → IfSome (read bytes) (λ f. V f.value × (bytes ≡ value_text f.value ++ f.rest))

next-spelled : (V : Value → Type 0) (read : List ℕ → Option Front) → IsSpelled V read → (bytes : List ℕ)
    → IfSome (next_front read bytes) (λ f. V f.value × (bytes ≡ 44 ∷ (value_text f.value ++ f.rest)))
next-spelled V read is bytes =
    and_then_if (expect 44 bytes) read (λ rest. bytes ≡ 44 ∷ rest) (λ f. V f.value × (bytes ≡ 44 ∷ (value_text f.value ++ f.rest))) (expect-spelled 44 bytes) (λ rest comma.
    some_weaker (read rest) (λ f. V f.value × (rest ≡ value_text f.value ++ f.rest)) (λ f. V f.value × (bytes ≡ 44 ∷ (value_text f.value ++ f.rest))) (is rest) (λ f of.
    (of.0, comma ∙ ap (λ xs. 44 ∷ xs) of.1))) where
      some_weaker : {X : Type 0} (o : Option X) (P Q : X → Type 0) → IfSome o P → ((x : X) → P x → Q x) → IfSome o Q
      some_weaker None P Q is next = tt
      some_weaker (Some x) P Q is next = next x is

-- a value's text before further ones
with_further : (bytes after : List ℕ) (v : Value) (vs : Values) (rest : List ℕ) → bytes ≡ value_text v ++ after → after ≡ further_text vs ++ rest → bytes ≡ (value_text v ++ further_text vs) ++ rest
with_further bytes after v vs rest first others = first ∙ (ap (λ xs. value_text v ++ xs) others ∙ sym (append_assoc (value_text v) (further_text vs) rest))

further-spelled : (V : Value → Type 0) (read : List ℕ → Option Front) → IsSpelled V read → (n : ℕ) (bytes : List ℕ) → AreFurther V bytes (further_front read n bytes)
further-spelled V read is zero bytes = (tt, refl)
further-spelled V read is (suc n) bytes =
    map_or (next_front read bytes) (λ front. onto_parts (front.value ∷ []) (further_front read n front.rest)) (no_parts bytes)
    (λ f. V f.value × (bytes ≡ 44 ∷ (value_text f.value ++ f.rest))) (AreFurther V bytes) (next-spelled V read is bytes)
    (λ f of. let others = further-spelled V read is n f.rest in
    let parts = further_front read n f.rest in
    ((of.0, others.0), of.1 ∙ ap (λ xs. 44 ∷ xs) (with_further (value_text f.value ++ f.rest) f.rest f.value (values_of parts.values) parts.rest refl others.1)))
    (tt, refl)

parts-spelled : (V : Value → Type 0) (read : List ℕ → Option Front) → IsSpelled V read → (bytes : List ℕ) → AreParts V bytes (parts_front read bytes)
parts-spelled V read is bytes =
    map_or (read bytes) (λ front. onto_parts (front.value ∷ []) (further_front read (length front.rest) front.rest)) (no_parts bytes)
    (λ f. V f.value × (bytes ≡ value_text f.value ++ f.rest)) (AreParts V bytes) (is bytes)
    (λ f of. let others = further-spelled V read is (length f.rest) f.rest in
    let parts = further_front read (length f.rest) f.rest in
    ((of.0, others.0), with_further bytes f.rest f.value (values_of parts.values) parts.rest of.1 others.1))
    (tt, refl)

items_of-values_of : (vs : List Value) → items_of (values_of vs) ≡ vs
items_of-values_of [] = refl
items_of-values_of (v ∷ vs) = ap (λ ws. v ∷ ws) (items_of-values_of vs)

closed_if : (t : ValueType) (most : ℕ) (bytes inside : List ℕ) (parts : Parts) → bytes ≡ 91 ∷ inside → AreParts (IsValueOf t) inside parts → IfSome (closed_list most parts) (IsFront (lists t most) bytes)
closed_if t most bytes inside parts opened are =
    elim (nat_le (length parts.values) most) as (λ b. nat_le (length parts.values) most ≡ b
    → IfSome (cond b (option_map (λ rest. record { value = list (values_of parts.values); rest = rest }) (expect 93 parts.rest)) None) (IsFront (lists t most) bytes)) [
      | true ↦ λ few.
          let small : length parts.values ≤ most = grind (arith, nat_tests, few) in
          let vs = values_of parts.values in
          map_if (expect 93 parts.rest) _ (λ rest. parts.rest ≡ 93 ∷ rest) (IsFront (lists t most) bytes) (expect-spelled 93 parts.rest) (λ rest closed. (
            (vs, refl, rw (items_of-values_of parts.values) are.0, rw (items_of-values_of parts.values) small),
            opened ∙ ap (λ xs. 91 ∷ xs) (are.1 ∙ (ap (λ xs. parts_text vs ++ xs) closed ∙ sym (append_assoc (parts_text vs) (93 ∷ []) rest))),
          ))
      | false ↦ λ _. tt
    ] refl

-- a record's values, and their texts with a comma before each, or between each two
abbrev AreFurtherFields : Fields → List ℕ → Parts → Type 0
AreFurtherFields fields bytes parts = AreFieldsOf fields (values_of parts.values) × (bytes ≡ further_text (values_of parts.values) ++ parts.rest)

abbrev AreFields : Fields → List ℕ → Parts → Type 0
AreFields fields bytes parts = AreFieldsOf fields (values_of parts.values) × (bytes ≡ parts_text (values_of parts.values) ++ parts.rest)

mutual
  pub front-spelled : (t : ValueType) (bytes : List ℕ) → IfSome (value_front t bytes) (IsFront t bytes)
  front-spelled ints bytes = leaf_if ints bytes (option_map int (integer (leaf bytes))) (int_if bytes (integer (leaf bytes)) (integer-fits (leaf bytes)) (integer-spelled (leaf bytes)))
  front-spelled texts bytes = leaf_if texts bytes _ (text_if bytes (unescaped (leaf bytes)) (unescaped-spelled (leaf bytes)))
  front-spelled truths bytes = leaf_if truths bytes (option_map truth (truth_of (leaf bytes))) (truth_if bytes)
  front-spelled (pairs a b) bytes =
      and_then_if (expect 40 bytes) _ (λ inside. bytes ≡ 40 ∷ inside) (IsFront (pairs a b) bytes) (expect-spelled 40 bytes) (λ inside opened.
      and_then_if (value_front a inside) _ (IsFront a inside) (IsFront (pairs a b) bytes) (front-spelled a inside) (λ left is_left.
      and_then_if (expect 44 left.rest) _ (λ second. left.rest ≡ 44 ∷ second) (IsFront (pairs a b) bytes) (expect-spelled 44 left.rest) (λ second comma.
      and_then_if (value_front b second) _ (IsFront b second) (IsFront (pairs a b) bytes) (front-spelled b second) (λ right is_right.
      map_if (expect 41 right.rest) _ (λ rest. right.rest ≡ 41 ∷ rest) (IsFront (pairs a b) bytes) (expect-spelled 41 right.rest) (λ rest closed.
      ((left.value, right.value, refl, is_left.0, is_right.0), pair_spelled bytes inside second rest left right opened is_left.1 comma is_right.1 closed))))))
  front-spelled (options a) bytes =
      none_if a bytes (expect 126 bytes) _ (expect-spelled 126 bytes)
      (and_then_if (expect 43 bytes) _ (λ inside. bytes ≡ 43 ∷ inside) (IsFront (options a) bytes) (expect-spelled 43 bytes) (λ inside opened.
      map_if (value_front a inside) _ (IsFront a inside) (IsFront (options a) bytes) (front-spelled a inside) (λ front is.
      (inr (front.value, refl, is.0), opened ∙ ap (λ xs. 43 ∷ xs) is.1))))
  front-spelled (lists a most) bytes =
      and_then_if (expect 91 bytes) _ (λ inside. bytes ≡ 91 ∷ inside) (IsFront (lists a most) bytes) (expect-spelled 91 bytes) (λ inside opened.
      closed_if a most bytes inside (parts_front (value_front a) inside) opened (parts-spelled (IsValueOf a) (value_front a) (λ bytes. front-spelled a bytes) inside))
  front-spelled (records fields) bytes =
      and_then_if (expect 123 bytes) _ (λ inside. bytes ≡ 123 ∷ inside) (IsFront (records fields) bytes) (expect-spelled 123 bytes) (λ inside opened.
      and_then_if (fields_front fields inside) _ (AreFields fields inside) (IsFront (records fields) bytes) (fields-spelled fields inside) (λ parts are.
      map_if (expect 125 parts.rest) _ (λ rest. parts.rest ≡ 125 ∷ rest) (IsFront (records fields) bytes) (expect-spelled 125 parts.rest) (λ rest closed. (
        (values_of parts.values, refl, are.0),
        opened ∙ ap (λ xs. 123 ∷ xs) (are.1 ∙ (ap (λ xs. parts_text (values_of parts.values) ++ xs) closed ∙ sym (append_assoc (parts_text (values_of parts.values)) (125 ∷ []) rest))),
      ))))

  fields-spelled : (fields : Fields) (bytes : List ℕ) → IfSome (fields_front fields bytes) (AreFields fields bytes)
  fields-spelled no_field bytes = (refl, refl)
  fields-spelled (field name t fields) bytes =
      and_then_if (value_front t bytes) _ (IsFront t bytes) (AreFields (field name t fields) bytes) (front-spelled t bytes) (λ f is.
      map_if (further_fields fields f.rest) _ (AreFurtherFields fields f.rest) (AreFields (field name t fields) bytes) (further_fields-spelled fields f.rest) (λ parts are.
      ((f.value, values_of parts.values, refl, is.0, are.0), with_further bytes f.rest f.value (values_of parts.values) parts.rest is.1 are.1)))

  further_fields-spelled : (fields : Fields) (bytes : List ℕ) → IfSome (further_fields fields bytes) (AreFurtherFields fields bytes)
  further_fields-spelled no_field bytes = (refl, refl)
  further_fields-spelled (field name t fields) bytes =
      and_then_if (next_front (value_front t) bytes) _ (λ f. IsValueOf t f.value × (bytes ≡ 44 ∷ (value_text f.value ++ f.rest))) (AreFurtherFields (field name t fields) bytes)
      (next-spelled (IsValueOf t) (value_front t) (λ bytes. front-spelled t bytes) bytes) (λ f is.
      map_if (further_fields fields f.rest) _ (AreFurtherFields fields f.rest) (AreFurtherFields (field name t fields) bytes) (further_fields-spelled fields f.rest) (λ parts are. (
        (f.value, values_of parts.values, refl, is.0, are.0),
        is.1 ∙ ap (λ xs. 44 ∷ xs) (with_further (value_text f.value ++ f.rest) f.rest f.value (values_of parts.values) parts.rest refl are.1),
      )))

abbrev pub IsRead : ValueType → List ℕ → Value → Type 0
IsRead t bytes v = IsValueOf t v × (bytes ≡ value_text v)

ended_if : (t : ValueType) (bytes rest : List ℕ) (v : Value) → IsValueOf t v → bytes ≡ value_text v ++ rest → IfSome (before_end v rest) (IsRead t bytes)
ended_if t bytes [] v of is = (of, is ∙ append-nil (value_text v))
ended_if t bytes (b ∷ rest) v of is = tt

pub read-spelled : (t : ValueType) (bytes : List ℕ) → IfSome (value_read t bytes) (IsRead t bytes)
read-spelled t bytes =
    and_then_if (value_front t bytes) _ (IsFront t bytes) (IsRead t bytes) (front-spelled t bytes) (λ front is. ended_if t bytes front.rest front.value is.0 is.1)

-- from what definitions read to what a call answers
pub from_view : {X Y : Type 0} (view : X → Y) (answer : Option X) (o : Option Y) (P : Y → Type 0) → option_map view answer ≡ o → IfSome o P → IfSome answer (λ x. P (view x))
from_view view None o P is if_some = tt
from_view view (Some x) o P is if_some = rw (sym is) at if_some
