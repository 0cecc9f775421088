-- What operations give is of the type that the tables say.
use Rattle.std.proofs.Common.{◌≡◌, ◌≤◌, ℕ, zero, suc, ◌+◌, inl, inr, Bool, true, false, cond, List, [], ◌∷◌, map, filter, length, Some, refl, sym, ap, subst, arith}
use Rattle.std.specs.List.{AllByRecursion}
use Rattle.std.proofs.lemmas.List.{length-map, length-take}
use Rattle.sb_types.specs.Value.{Value, Values, text, truth, some, list, values_of, items_of}
use Rattle.sb_types.specs.ValueType.{ValueType, ints, texts, truths, pairs, options, lists, records, Fields, no_field, field}
use Rattle.sb_terms.specs.declared.term.Single.{Single}
use Rattle.sb_terms.specs.declared.term.Single.TheVariants as single
use Rattle.sb_terms.specs.declared.term.Double.{Double}
use Rattle.sb_terms.specs.declared.term.Double.TheVariants as double
use Rattle.sb_terms.specs.Agreement.{joined}
use Rattle.sb_terms.specs.Tables.{field_type, one_type, two_type, if_type, joined_with, list_type, compared}
use Rattle.sb_meaning.specs.Operations.{one, two, number_in, bytes_in, first_in, second_in, nth, in_or}
use Rattle.sb_meaning.specs.Shaped.{IsValueWith, AreFieldsWith}
use Rattle.sb_meaning.specs.Words.{is_filled, pieces, lowered, words_of}
use Rattle.sb_meaning.proofs.TypeJoins.{Covers, join_covers, joins_cover, map_some}
use Rattle.sb_meaning.proofs.NumberTypes.{Fits, add_fits, sub_fits, mul_fits, neg_fits, quotient_fits, remainder_fits, length_fits}

-- what holds of texts holds of them in lower case and of their words
pub record KeepsTexts (P : List ℕ → Type 0) : Type 0 where
  pub lower : (t : List ℕ) → P t → P (lowered t)
  pub words : (n : ℕ) (t : List ℕ) → P t → AllByRecursion P (words_of n t)

-- a divisor fits
abbrev pub HasDivisor : Single → Type 0
HasDivisor (single.Modulo n) = Fits n
HasDivisor op = Unit {0}

few_items : (ts : List (List ℕ)) → length (items_of (values_of (map text ts))) ≡ length ts
few_items [] = refl
few_items (t ∷ ts) = ap suc (few_items ts)

few_words : (n : ℕ) (t : List ℕ) → length (items_of (values_of (map text (words_of n t)))) ≤ n
few_words n t = omega (arith, few_items (words_of n t), length-take n (filter is_filled (pieces t)))

module _ (P : List ℕ → Type 0) (keeps : KeepsTexts P) where
  abbrev Is : ValueType → Value → Type 0
  Is = IsValueWith P

  number_is : (v : Value) → Is ints v → Fits (number_in v)
  number_is v is = rw is.1 is.2

  bytes_are : (v : Value) → Is texts v → P (bytes_in v)
  bytes_are v is = rw is.1 is.2

  nth_is : (n : ℕ) (fields : Fields) (t : ValueType) (vs : Values) → field_type n fields ≡ Some t → AreFieldsWith P fields vs → Is t (nth n vs)
  nth_is n no_field t vs e are = cc
  nth_is zero (field name u fields) t vs e are = let same : u ≡ t = cc in rw are.2 (subst (λ t. Is t are.0) same are.3)
  nth_is (suc n) (field name u fields) t vs e are = rw are.2 (nth_is n fields t are.1 e are.4)

  all_texts : (ts : List (List ℕ)) → AllByRecursion P ts → AllByRecursion (Is texts) (items_of (values_of (map text ts)))
  all_texts [] are = tt
  all_texts (t ∷ ts) are = ((t, refl, are.0), all_texts ts are.1)

  -- of a type that is the same
  as_type : (t u : ValueType) (v : Value) → Some t ≡ Some u → Is t v → Is u v
  as_type t u v e is = let same : t ≡ u = cc in subst (λ t. Is t v) same is

  pub one_is : (op : Single) (t u : ValueType) (v : Value) → HasDivisor op → one_type op t ≡ Some u → Is t v → Is u (one op v)
  one_is single.First (pairs a b) u v h e is = as_type a u (first_in v) e (rw is.2 is.3)
  one_is single.Second (pairs a b) u v h e is = as_type b u (second_in v) e (rw is.2 is.4)
  one_is (single.Field place) (records fields) u v h e is = rw is.1 (nth_is place fields u is.0 e is.2)
  one_is single.Wrap t u v h e is = as_type (options t) u (some v) e (inr (v, refl, is))
  one_is single.Has (options t) u v h e is = as_type truths u _ e (_, refl)
  one_is single.Lower texts u v h e is = as_type texts u _ e (_, refl, keeps.lower (bytes_in v) (bytes_are v is))
  one_is (single.Words most) texts u v h e is = as_type (lists texts most) u _ e (_, refl, all_texts (words_of most (bytes_in v)) (keeps.words most (bytes_in v) (bytes_are v is)), few_words most (bytes_in v))
  one_is single.Len texts u v h e is = as_type ints u _ e (_, refl, length_fits v)
  one_is single.Len (lists t most) u v h e is = as_type ints u _ e (_, refl, length_fits v)
  one_is single.Not truths u v h e is = as_type truths u _ e (_, refl)
  one_is single.Minus ints u v h e is = as_type ints u _ e (_, refl, neg_fits (number_in v) (number_is v is))
  one_is (single.Over n) ints u v h e is = as_type ints u _ e (_, refl, quotient_fits (number_in v) n (number_is v is))
  one_is (single.Modulo n) ints u v h e is = as_type ints u _ e (_, refl, remainder_fits (number_in v) n (number_is v is) h)
  one_is op t u v h e is = cc

  in_or_is : (a b c : ValueType) (v w : Value) → joined a b ≡ Some c → Is (options a) v → Is b w → Is c (in_or v w)
  in_or_is a b c v w e (inl is) other = rw is ((join_covers P a b c e).1 w other)
  in_or_is a b c v w e (inr is) other = rw is.1 ((join_covers P a b c e).0 is.0 is.2)

  compared_is : (a b u : ValueType) (q : Bool) → compared a b ≡ Some u → Is u (truth q)
  compared_is a b u q e = let s = map_some (λ joint. truths) (joined a b) u e in subst (λ u. Is u (truth q)) s.2 (q, refl)

  pub two_is : (op : Double) (a b u : ValueType) (v w : Value) → two_type op a b ≡ Some u → Is a v → Is b w → Is u (two op v w)
  two_is double.Pair a b u v w e is other = as_type (pairs a b) u _ e (v, w, refl, is, other)
  two_is double.Orelse (options a) b u v w e is other = in_or_is a b u v w e is other
  two_is double.Starts texts texts u v w e is other = as_type truths u _ e (_, refl)
  two_is double.Or truths truths u v w e is other = as_type truths u _ e (_, refl)
  two_is double.And truths truths u v w e is other = as_type truths u _ e (_, refl)
  two_is (double.Compare comparison) a b u v w e is other = compared_is a b u _ e
  two_is double.Plus ints ints u v w e is other = as_type ints u _ e (_, refl, add_fits (number_in v) (number_in w) (number_is v is) (number_is w other))
  two_is double.Minus ints ints u v w e is other = as_type ints u _ e (_, refl, sub_fits (number_in v) (number_in w) (number_is v is) (number_is w other))
  two_is double.Times ints ints u v w e is other = as_type ints u _ e (_, refl, mul_fits (number_in v) (number_in w) (number_is v is) (number_is w other))
  two_is op a b u v w e is other = cc

  chosen_is : (q : Bool) (u : ValueType) (v w : Value) → Is u v → Is u w → Is u (cond q v w)
  chosen_is true u v w is other = is
  chosen_is false u v w is other = other

  pub if_is : (c a b u : ValueType) (q : Bool) (v w : Value) → if_type c a b ≡ Some u → Is a v → Is b w → Is u (cond q v w)
  if_is truths a b u q v w e is other = let covers = join_covers P a b u e in chosen_is q u v w (covers.0 v is) (covers.1 w other)
  if_is c a b u q v w e is other = cc

  items_are : (vs : List Value) → items_of (values_of vs) ≡ vs
  items_are [] = refl
  items_are (v ∷ vs) = ap (λ ws. v ∷ ws) (items_are vs)

  -- parts with their types and values, of types that one type covers
  module _ {A : Type 0} (type_in : A → ValueType) (value_in : A → Value) where
    abbrev pub AreParts : List A → Type 0
    AreParts = AllByRecursion (λ x. Is (type_in x) (value_in x))

    all_of_type : (u : ValueType) (xs : List A) → AllByRecursion (Covers P u) (map type_in xs) → AreParts xs → AllByRecursion (Is u) (map value_in xs)
    all_of_type u [] covers are = tt
    all_of_type u (x ∷ xs) covers are = (covers.0 (value_in x) are.0, all_of_type u xs covers.1 are.1)

    pub list_is : (xs : List A) (u : ValueType) → list_type (map type_in xs) ≡ Some u → AreParts xs → Is u (list (values_of (map value_in xs)))
    list_is [] u e are = cc
    list_is (x ∷ xs) u e are =
        let s = map_some (λ joint. lists joint (length (map type_in xs) + 1)) (joined_with (type_in x) (map type_in xs)) u e in
        let covers = joins_cover P (type_in x) (map type_in xs) s.0 s.1 in
        let vs = map value_in (x ∷ xs) in
        subst (λ u. Is u (list (values_of vs))) s.2 (
          values_of vs,
          refl,
          subst (AllByRecursion (Is s.0)) (sym (items_are vs)) (all_of_type s.0 (x ∷ xs) covers are),
          omega (arith, ap length (items_are vs), length-map xs value_in, length-map xs type_in),
        )
