-- Where an element passes a test: in a list, in a list of lists, and among the values of a key.
use Rattle.std.proofs.Common.{◌≡◌, ◌⊎◌, inl, inr, ℕ, zero, suc, Bool, true, false, cond, ◌&&◌, ◌||◌, List, [], ◌∷◌, ◌++◌, map, filter, get_or, Some, None, refl, ap, ◌∙◌, sym}
use Rattle.std.specs.Prelude.{is_some, IsSome, IsTrue, ◌↔◌}
use Rattle.std.specs.List.{list_any}
use Rattle.std.specs.List.Sorted.{IsStrictlySortedBy}
use Rattle.std.specs.FinMap.{find}
use Rattle.std.proofs.lemmas.List.Folds.{list_any-append}
use Rattle.sb_laws.specs.Sums.{sum_of}
use Rattle.sb_laws.specs.Folds.{fold_over}
use Rattle.sb_laws.specs.Tables.{values_at}
use Rattle.sb_feed.specs.declared.key.KeyBytes.{KeyBytes}
use Rattle.sb_feed.specs.Keys.{key_order, same_key}
use Rattle.sb_offline.specs.Offlines.{OfflineValue, base_values, base_sum, published_sum, HasSum, HasKeys}

-- a sum is there exactly where a value is
pub some_fold : {E : Type 0} (add : E → E → E) (s : ℕ → Bool) (pairs : List (ℕ × E)) → is_some (fold_over add pairs s) ≡ list_any (λ pair. s pair.0) pairs
some_fold add s [] = refl
some_fold {E} add s (x ∷ xs) = elim (s x.0) as (λ b. is_some (sum_of add (map (λ (y : ℕ × E). y.1) (cond b (x ∷ filter (λ y. s y.0) xs) (filter (λ y. s y.0) xs)))) ≡ (b || list_any (λ pair. s pair.0) xs)) [
  | true ↦ refl
  | false ↦ some_fold add s xs
]

pub either : (a b : Bool) → (a || b) ≡ true → (a ≡ true) ⊎ (b ≡ true)
either true b e = inl refl
either false b e = inr e

pub left : (a b : Bool) → a ≡ true → (a || b) ≡ true
left true b e = refl
left false b e = cc

pub right : (a b : Bool) → b ≡ true → (a || b) ≡ true
right true b e = refl
right false b e = e

pub both_true : (a b : Bool) → (a && b) ≡ true → (a ≡ true) × (b ≡ true)
both_true true b e = (refl, e)
both_true false b e = cc

pub together : (a b : Bool) → a ≡ true → b ≡ true → (a && b) ≡ true
together true b e f = f
together false b e f = cc

pub any_more : {X : Type 0} (s t : X → Bool) (xs : List X) → ((x : X) → s x ≡ true → t x ≡ true) → list_any s xs ≡ true → list_any t xs ≡ true
any_more s t [] h e = cc
any_more s t (x ∷ xs) h e = joined (any_more s t xs h) (either (s x) (list_any s xs) e)
  where
    joined : (list_any s xs ≡ true → list_any t xs ≡ true) → (s x ≡ true) ⊎ (list_any s xs ≡ true) → (t x || list_any t xs) ≡ true
    joined rest (inl k) = left (t x) (list_any t xs) (h x k)
    joined rest (inr k) = right (t x) (list_any t xs) (rest k)

-- an element that passes
pub record Passes {X : Type 0} (s : X → Bool) (xs : List X) : Type 0 where
  pub one : X
  pub passes : s one ≡ true
  pub there : (t : X → Bool) → t one ≡ true → list_any t xs ≡ true

pub any_passes : {X : Type 0} (s : X → Bool) (xs : List X) → list_any s xs ≡ true → Passes s xs
any_passes s [] e = cc
any_passes {X = X} s (x ∷ xs) e = joined (any_passes s xs) (either (s x) (list_any s xs) e)
  where
    joined : (list_any s xs ≡ true → Passes s xs) → (s x ≡ true) ⊎ (list_any s xs ≡ true) → Passes s (x ∷ xs)
    joined rest (inl k) = record { one = x; passes = k; there = λ t f. left (t x) (list_any t xs) f }
    joined rest (inr k) = let p = rest k in record { one = p.one; passes = p.passes; there = λ t f. right (t x) (list_any t xs) (p.there t f) }

-- a list of lists has a place where one passes, and none where the empty list doesn't
pub any_at : {A : Type 0} (s : List A → Bool) (lists : List (List A)) → list_any s lists ≡ true → (j : ℕ) × (s (get_or lists j []) ≡ true)
any_at s [] e = cc
any_at s (x ∷ xs) e = joined (any_at s xs) (either (s x) (list_any s xs) e)
  where
    joined : (list_any s xs ≡ true → (j : ℕ) × (s (get_or xs j []) ≡ true)) → (s x ≡ true) ⊎ (list_any s xs ≡ true) → (j : ℕ) × (s (get_or (x ∷ xs) j []) ≡ true)
    joined rest (inl k) = (0, k)
    joined rest (inr k) = let p = rest k in (suc p.0, p.1)

pub any_from : {A : Type 0} (s : List A → Bool) (lists : List (List A)) (j : ℕ) → s [] ≡ false → s (get_or lists j []) ≡ true → list_any s lists ≡ true
any_from s [] j none e = cc
any_from s (x ∷ xs) zero none e = left (s x) (list_any s xs) e
any_from s (x ∷ xs) (suc j) none e = right (s x) (list_any s xs) (any_from s xs j none e)

module _ {E : Type 0} (q : KeyBytes) where
  pub some_row : (rows : List (KeyBytes × E)) → is_some (find key_order q rows) ≡ list_any (λ row. same_key q row.0) rows
  some_row [] = refl
  some_row (x ∷ xs) = elim (same_key q x.0) as (λ b. is_some (cond b (Some x.1) (find key_order q xs)) ≡ (b || list_any (λ row. same_key q row.0) xs)) [ true ↦ refl | false ↦ some_row xs ]

  some_values : (add : E → E → E) (rows : List (KeyBytes × E)) → is_some (sum_of add (values_at key_order q rows)) ≡ list_any (λ row. same_key q row.0) rows
  some_values add [] = refl
  some_values add (x ∷ xs) = elim (same_key q x.0) as (λ b. is_some (sum_of add (map (λ (y : KeyBytes × E). y.1) (cond b (x ∷ filter (λ y. same_key q y.0) xs) (filter (λ y. same_key q y.0) xs)))) ≡ (b || list_any (λ row. same_key q row.0) xs)) [
    | true ↦ refl
    | false ↦ some_values add xs
  ]

  module _ (add : ℕ → E → E → E) (held : OfflineValue E) where
    of_row : list_any (list_any (λ row. same_key q row.0)) held.rows ≡ true → (j : ℕ) × IsSome (published_sum held q j)
    of_row e = let p = any_at (list_any (λ (row : KeyBytes × E). same_key q row.0)) held.rows e in (p.0, some_row (get_or held.rows p.0 []) ∙ p.1)

    row_of : (j : ℕ) → IsSome (published_sum held q j) → list_any (list_any (λ row. same_key q row.0)) held.rows ≡ true
    row_of j e = any_from (list_any (λ (row : KeyBytes × E). same_key q row.0)) held.rows j refl (sym (some_row (get_or held.rows j [])) ∙ e)

    -- the store has a sum exactly where it has a key
    pub has_sum : (t : Bool) → t ≡ (list_any (λ row. same_key q row.0) (base_values held) || list_any (list_any (λ row. same_key q row.0)) held.rows) → IsTrue t ↔ HasSum add held q
    has_sum t e = (λ is. there (either _ _ (sym e ∙ is)), back)
      where
        there : (list_any (λ row. same_key q row.0) (base_values held) ≡ true) ⊎ (list_any (list_any (λ row. same_key q row.0)) held.rows ≡ true) → HasSum add held q
        there (inl k) = inl (some_values (add q.store) (base_values held) ∙ k)
        there (inr k) = inr (of_row k)

        back : HasSum add held q → IsTrue t
        back (inl k) = e ∙ left _ _ (sym (some_values (add q.store) (base_values held)) ∙ k)
        back (inr k) = e ∙ right _ _ (row_of k.0 k.1)

-- a rising list of these keys
pub held_keys : {E : Type 0} (held : OfflineValue E) (none all list : List KeyBytes) → IsStrictlySortedBy key_order list → none ≡ [] → list ≡ all
    → ((q : KeyBytes) → list_any (same_key q) all ≡ (list_any (same_key q) none || (list_any (λ row. same_key q row.0) (base_values held) || list_any (list_any (λ row. same_key q row.0)) held.rows)))
    → (add : ℕ → E → E → E) → HasKeys add held list
held_keys held none all list rising empty is each add = record {
  rising = rising;
  each = λ q. has_sum q add held (list_any (same_key q) list)
      (ap (list_any (same_key q)) is ∙ (each q
      ∙ ap (λ (l : List KeyBytes). list_any (same_key q) l || (list_any (λ row. same_key q row.0) (base_values held) || list_any (list_any (λ row. same_key q row.0)) held.rows)) empty));
}

or_grouped : (k b w l : Bool) → (((k || b) || w) || l) ≡ (k || ((b || w) || l))
or_grouped true b w l = refl
or_grouped false b w l = refl

-- keys that are put into a set in turn: of the base, of what waits, and of the rows
pub put_in_turn : {E : Type 0} (held : OfflineValue E) (none some more all : List KeyBytes) (q : KeyBytes)
    → list_any (same_key q) some ≡ (list_any (same_key q) none || list_any (λ row. same_key q row.0) held.base)
    → list_any (same_key q) more ≡ (list_any (same_key q) some || list_any (λ row. same_key q row.0) held.waiting)
    → list_any (same_key q) all ≡ (list_any (same_key q) more || list_any (list_any (λ row. same_key q row.0)) held.rows)
    → list_any (same_key q) all ≡ (list_any (same_key q) none || (list_any (λ row. same_key q row.0) (base_values held) || list_any (list_any (λ row. same_key q row.0)) held.rows))
put_in_turn {E} held none some more all q first second third =
    third
    ∙ (ap (λ t. t || list_any (list_any (λ row. same_key q row.0)) held.rows) (second ∙ ap (λ t. t || list_any (λ row. same_key q row.0) held.waiting) first)
    ∙ (or_grouped (list_any (same_key q) none) (list_any (λ row. same_key q row.0) held.base) (list_any (λ row. same_key q row.0) held.waiting) (list_any (list_any (λ row. same_key q row.0)) held.rows)
    ∙ ap (λ t. list_any (same_key q) none || (t || list_any (list_any (λ row. same_key q row.0)) held.rows)) (sym (list_any-append (λ (row : KeyBytes × E). same_key q row.0) held.base held.waiting))))
