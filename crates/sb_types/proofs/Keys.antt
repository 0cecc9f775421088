-- Keys are the values in which there is no list and no record.
use Rattle.std.proofs.Common.{◌≡◌, ◌∙◌, inl, inr, ℕ, Bool, true, false, ◌&&◌, cond, List, Option, Some, None, refl, sym, ap}
use Rattle.std.specs.Prelude.{IfSome, option_map, if◌then◌else◌}
use Rattle.sb_types.specs.Key.{IsKeyOf, is_key}
use Rattle.sb_types.specs.Read.{value_read}
use Rattle.sb_types.specs.Text.{value_text}
use Rattle.sb_types.specs.Typed.{IsValueOf}
use Rattle.sb_types.specs.ValView.{value_of}
use Rattle.sb_types.specs.Value.{Value}
use Rattle.sb_types.specs.ValueType.{ValueType, ints, texts, truths, pairs, options, lists, records}
use Rattle.sb_types.specs.declared.values.Val.{Val}
use Rattle.sb_types.proofs.ReadAgain.{read-text}
use Rattle.sb_types.proofs.ReadSpelled.{IsRead}

pub key_is_value : (t : ValueType) (v : Value) → IsKeyOf t v → IsValueOf t v
key_is_value ints v key = key
key_is_value texts v key = key
key_is_value truths v key = key
key_is_value (pairs a b) v key = (key.0, key.1, key.2, key_is_value a key.0 key.3, key_is_value b key.1 key.4)
key_is_value (options a) v (inl is) = inl is
key_is_value (options a) v (inr key) = inr (key.0, key.1, key_is_value a key.0 key.2)
key_is_value (lists a most) v key = absurd key
key_is_value (records fields) v key = absurd key

pub key_without_lists : (t : ValueType) (v : Value) → IsKeyOf t v → is_key v ≡ true
key_without_lists ints v key = rw key.1 refl
key_without_lists texts v key = rw key.1 refl
key_without_lists truths v key = rw key.1 refl
key_without_lists (pairs a b) v key = rw (key.2, key_without_lists a key.0 key.3, key_without_lists b key.1 key.4) refl
key_without_lists (options a) v (inl is) = rw is refl
key_without_lists (options a) v (inr key) = rw (key.1, key_without_lists a key.0 key.2) refl
key_without_lists (lists a most) v key = absurd key
key_without_lists (records fields) v key = absurd key

left_true : (a b : Bool) → (a && b) ≡ true → a ≡ true
left_true true b e = refl
left_true false b e = e

right_true : (a b : Bool) → (a && b) ≡ true → b ≡ true
right_true true b e = e
right_true false b e = cc

pub value_is_key : (t : ValueType) (v : Value) → IsValueOf t v → is_key v ≡ true → IsKeyOf t v
value_is_key ints v is key = is
value_is_key texts v is key = is
value_is_key truths v is key = is
value_is_key (pairs a b) v is key =
    let both : (is_key is.0 && is_key is.1) ≡ true = rw is.2 at key in
    (is.0, is.1, is.2, value_is_key a is.0 is.3 (left_true (is_key is.0) (is_key is.1) both), value_is_key b is.1 is.4 (right_true (is_key is.0) (is_key is.1) both))
value_is_key (options a) v (inl is) key = inl is
value_is_key (options a) v (inr is) key =
    let inside : is_key is.0 ≡ true = rw is.1 at key in
    inr (is.0, is.1, value_is_key a is.0 is.2 inside)
value_is_key (lists a most) v is key = let no : false ≡ true = rw is.1 at key in cc
value_is_key (records fields) v is key = let no : false ≡ true = rw is.1 at key in cc

-- two keys with one text are one
pub same_key : (t : ValueType) (v w : Value) → IsKeyOf t v → IsKeyOf t w → value_text v ≡ value_text w → v ≡ w
same_key t v w key also is =
    let e : Some v ≡ Some w = sym (read-text t v (key_is_value t v key)) ∙ (ap (value_read t) is ∙ read-text t w (key_is_value t w also)) in
    cc

-- the value, where it is a key
abbrev key_in : Val → Option Val
key_in v = if is_key (value_of v) then Some v else None

pub key-spelled : (t : ValueType) (bytes : List ℕ) (v : Val) → IsRead t bytes (value_of v) → IfSome (key_in v) (λ v. IsKeyOf t (value_of v) × (bytes ≡ value_text (value_of v)))
key-spelled t bytes v is =
    elim (is_key (value_of v)) as (λ b. is_key (value_of v) ≡ b → IfSome (cond b (Some v) None) (λ v. IsKeyOf t (value_of v) × (bytes ≡ value_text (value_of v)))) [
      | true ↦ λ key. (value_is_key t (value_of v) is.0 key, is.1)
      | false ↦ λ _. tt
    ] refl

pub key-every : (t : ValueType) (v : Val) (w : Value) → IsKeyOf t w → Some (value_of v) ≡ Some w → option_map value_of (key_in v) ≡ Some w
key-every t v w key is =
    let same : value_of v ≡ w = cc in
    let yes : is_key (value_of v) ≡ true = ap is_key same ∙ key_without_lists t w key in
    rw yes is
