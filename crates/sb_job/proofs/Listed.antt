-- Values of a key by batch: found in lists of rows, and in tables to which parts are added.
use Rattle.std.proofs.Common.{◌≡◌, ℕ, zero, suc, ◌+◌, ◌<◌, Bool, true, false, cond, ◌&&◌, List, [], ◌∷◌, ◌++◌, map, filter, get_or, take, drop, Option, Some, None, refl, sym, ap, subst, ◌∙◌, T, arith}
use Rattle.std.specs.Prelude.{IsTrue, nat_lt, nat_le, ◌==◌}
use Rattle.std.specs.List.{AllByRecursion, IsDistinct, flat_map}
use Rattle.std.specs.Map.{keys_of}
use Rattle.std.specs.Ordering.{nat_cmp, is_lt, is_eq, eq_by_cmp}
use Rattle.std.specs.Cmp.{nat_cmp_total, unsigned_tied}
use Rattle.std.specs.declared.cmp.Ordering.{Ordering}
use Rattle.std.specs.declared.cmp.Ordering.TheVariants.{Less, Equal, Greater}
use Rattle.std.specs.FinMap.{find, is_sorted, IsAntisymmetric, nat_cmp-IsAntisymmetric}
use Rattle.std.specs.FinMap.Entries.{below_all}
use Rattle.std.proofs.lemmas.Bool.Decides.{nat_tests}
use Rattle.std.proofs.lemmas.List.{map-append}
use Rattle.std.proofs.lemmas.List.Elements.{filter-append}
use Rattle.sb_laws.specs.Sums.{IsValid, sum_onto, sum_of}
use Rattle.sb_laws.specs.Tables.{values_at, add_all}
use Rattle.sb_laws.proofs.Sums.{valid_append, valid_left, valid_right}
use Rattle.sb_laws.proofs.Positions.{ap_both, filter_same}
use Rattle.sb_laws.proofs.Tables.{truly, first, second, equal, both, is_true, folds_with_all}
use Rattle.sb_feed.specs.declared.key.KeyBytes.{KeyBytes}
use Rattle.sb_feed.specs.declared.parts.Part.{Part}
use Rattle.sb_feed.specs.Keys.{key_order, same_key, key_order-IsAntisymmetric}
use Rattle.sb_feed.specs.Jobs.{Dictionaries, AreValid}
use Rattle.sb_feed.specs.Stands.{batch_value, key_values, keyed_values}
use Rattle.sb_feed.proofs.PartSums.{same_is_equal, filter_twice, values_valid, keyed_filter}
use Rattle.sb_job.specs.Sums.{HasKeySums}
use Rattle.sb_job.specs.ByBatch.{is_asked, asked, at_batch, one_or_none, onto, rows_from}

apart : (j i : ℕ) → i < j → eq_by_cmp nat_cmp j i ≡ false
apart j i h = unsigned_tied j i ∙ differ
  where
    differ : (j == i) ≡ false
    differ = grind (arith, nat_tests)

below_next : (m i : ℕ) → m < i → T (is_lt (nat_cmp m i))
below_next m i h = let e : nat_lt m i ≡ true = grind (arith, nat_tests) in rw e tt

module _ {E : Type 0} (key : KeyBytes) where
  -- what comes from later lists has greater numbers
  rows_above : (m i : ℕ) (lists : List (List (KeyBytes × E))) → m < i → T (below_all nat_cmp m (rows_from key i lists))
  rows_above m i [] h = tt
  rows_above m i (rows ∷ lists) h =
      let rest = rows_above m (suc i) lists (omega (arith, h)) in
      elim (find key_order key rows) as (λ o. T (below_all nat_cmp m (onto i o (rows_from key (suc i) lists)))) [
        | None ↦ rest
        | Some v ↦ both _ _ (below_next m i h) rest
      ]

  pub rows_rise : (i : ℕ) (lists : List (List (KeyBytes × E))) → T (is_sorted nat_cmp (rows_from key i lists))
  rows_rise i [] = tt
  rows_rise i (rows ∷ lists) =
      let rest = rows_rise (suc i) lists in
      elim (find key_order key rows) as (λ o. T (is_sorted nat_cmp (onto i o (rows_from key (suc i) lists)))) [
        | None ↦ rest
        | Some v ↦ both _ _ (rows_above i (suc i) lists (omega arith)) rest
      ]

  none_before : (j i : ℕ) (lists : List (List (KeyBytes × E))) → j < i → find nat_cmp j (rows_from key i lists) ≡ None
  none_before j i [] h = refl
  none_before j i (rows ∷ lists) h =
      let rest = none_before j (suc i) lists (omega (arith, h)) in
      let other : eq_by_cmp nat_cmp j i ≡ false = unsigned_tied j i ∙ grind (arith, nat_tests) in
      elim (find key_order key rows) as (λ o. find nat_cmp j (onto i o (rows_from key (suc i) lists)) ≡ None) [
        | None ↦ rest
        | Some v ↦ ap (λ t. cond t (Some v) (find nat_cmp j (rows_from key (suc i) lists))) other ∙ rest
      ]

  -- at its number stands what its list has
  pub find_rows : (j i k : ℕ) (lists : List (List (KeyBytes × E))) → j ≡ i + k → find nat_cmp j (rows_from key i lists) ≡ find key_order key (get_or lists k [])
  find_rows j i k [] e = refl
  find_rows j i zero (rows ∷ lists) e =
      let none = none_before j (suc i) lists (omega (arith, e)) in
      let same : eq_by_cmp nat_cmp j i ≡ true = unsigned_tied j i ∙ grind (arith, nat_tests) in
      elim (find key_order key rows) as (λ o. find nat_cmp j (onto i o (rows_from key (suc i) lists)) ≡ o) [
        | None ↦ none
        | Some v ↦ ap (λ t. cond t (Some v) (find nat_cmp j (rows_from key (suc i) lists))) same
      ]
  find_rows j i (suc k) (rows ∷ lists) e =
      let rest = find_rows j (suc i) k lists (omega (arith, e)) in
      elim (find key_order key rows) as (λ o. find nat_cmp j (onto i o (rows_from key (suc i) lists)) ≡ find key_order key (get_or lists k [])) [
        | None ↦ rest
        | Some v ↦ ap (λ t. cond t (Some v) (find nat_cmp j (rows_from key (suc i) lists))) (apart j i (omega (arith, e))) ∙ rest
      ]

  find_taken : (n j : ℕ) (lists : List (List (KeyBytes × E))) → find key_order key (get_or (take n lists) j []) ≡ cond (nat_lt j n) (find key_order key (get_or lists j [])) None
  find_taken zero j lists = let e : nat_lt j 0 ≡ false = grind (arith, nat_tests) in rw e (taken_none lists)
    where
      taken_none : (xs : List (List (KeyBytes × E))) → find key_order key (get_or (take zero xs) j []) ≡ None
      taken_none [] = refl
      taken_none (x ∷ xs) = refl
  find_taken (suc n) j [] = absent (nat_lt j (suc n))
    where
      none : Option E
      none = None

      absent : (t : Bool) → none ≡ cond t none none
      absent true = refl
      absent false = refl
  find_taken (suc n) zero (rows ∷ lists) = let e : nat_lt 0 (suc n) ≡ true = grind (arith, nat_tests) in rw e refl
  find_taken (suc n) (suc j) (rows ∷ lists) =
      let e : nat_lt (suc j) (suc n) ≡ nat_lt j n = fewer (nat_lt (suc j) (suc n)) (nat_lt j n) refl refl in
      rw e (find_taken n j lists)
    where
      fewer : (s t : Bool) → nat_lt (suc j) (suc n) ≡ s → nat_lt j n ≡ t → s ≡ t
      fewer true true x y = refl
      fewer true false x y = absurd (grind (arith, nat_tests))
      fewer false true x y = absurd (grind (arith, nat_tests))
      fewer false false x y = refl

lt_next : (j n : ℕ) → nat_lt j (n + 1) ≡ nat_le j n
lt_next j n = same (nat_lt j (n + 1)) (nat_le j n) refl refl
  where
    same : (s t : Bool) → nat_lt j (n + 1) ≡ s → nat_le j n ≡ t → s ≡ t
    same true true x y = refl
    same true false x y = absurd (grind (arith, nat_tests))
    same false true x y = absurd (grind (arith, nat_tests))
    same false false x y = refl

none_if : {A : Type 0} (t : Bool) (o : Option A) → o ≡ None → o ≡ cond t o None
none_if true o e = refl
none_if false o e = e

module _ {E : Type 0} (key : KeyBytes) where
  from_here : (j i : ℕ) (lists : List (List (KeyBytes × E))) (t : Bool) → nat_le i j ≡ t → find nat_cmp j (rows_from key i lists) ≡ cond t (find nat_cmp j (rows_from key i lists)) None
  from_here j i lists true e = refl
  from_here j i lists false e = none_before key j i lists (grind (arith, nat_tests))

  later_alone : (j i b : ℕ) (rows : List (KeyBytes × E)) (lists : List (List (KeyBytes × E))) (t : Bool) → nat_le b j ≡ t → i < b
      → cond t (find nat_cmp j (rows_from key (suc i) lists)) None ≡ cond t (find nat_cmp j (rows_from key i (rows ∷ lists))) None
  later_alone j i b rows lists false e l = refl
  later_alone j i b rows lists true e l =
      let other : eq_by_cmp nat_cmp j i ≡ false = unsigned_tied j i ∙ grind (arith, nat_tests) in
      elim (find key_order key rows) as (λ o. find nat_cmp j (rows_from key (suc i) lists) ≡ find nat_cmp j (onto i o (rows_from key (suc i) lists))) [
        | None ↦ refl
        | Some v ↦ sym (ap (λ t. cond t (Some v) (find nat_cmp j (rows_from key (suc i) lists))) other)
      ]

  -- without the first lists, what is found before them is none
  find_from : (j i b n : ℕ) (lists : List (List (KeyBytes × E))) → b ≡ i + n → find nat_cmp j (rows_from key b (drop n lists)) ≡ cond (nat_le b j) (find nat_cmp j (rows_from key i lists)) None
  find_from j i b zero lists e =
      let is : i ≡ b = omega (arith, e) in
      from_here j b lists _ refl ∙ ap (λ n. cond (nat_le b j) (find nat_cmp j (rows_from key n lists)) None) (sym is)
  find_from j i b (suc n) [] e = none_if (nat_le b j) (find nat_cmp j (rows_from key b [])) refl
  find_from j i b (suc n) (rows ∷ lists) e = find_from j (suc i) b n lists (omega (arith, e)) ∙ later_alone j i b rows lists _ refl (omega (arith, e))

  -- what is found in the lists from one number on and up to another
  pub find_listed : (j from upto : ℕ) (lists : List (List (KeyBytes × E)))
      → find nat_cmp j (rows_from key from (drop from (take (upto + 1) lists))) ≡ cond (nat_le from j) (cond (nat_le j upto) (find key_order key (get_or lists j [])) None) None
  find_listed j from upto lists =
      find_from j 0 from from (take (upto + 1) lists) (omega arith)
      ∙ ap (λ x. cond (nat_le from j) x None)
      (find_rows key j 0 j (take (upto + 1) lists) (omega arith)
      ∙ (find_taken key (upto + 1) j lists ∙ ap (λ t. cond t (find key_order key (get_or lists j [])) None) (lt_next j upto)))

-- rows of which some are left out
flat_take : {A : Type 0} (P : A → Type 0) (n : ℕ) (lists : List (List A)) → AllByRecursion P (flat_map (λ l. l) lists) → AllByRecursion P (flat_map (λ l. l) (take n lists))
flat_take P zero [] h = tt
flat_take P zero (l ∷ lists) h = tt
flat_take P (suc n) [] h = tt
flat_take P (suc n) (l ∷ lists) h = valid_append P l (flat_map (λ l. l) (take n lists)) (valid_left P l (flat_map (λ l. l) lists) h) (flat_take P n lists (valid_right P l (flat_map (λ l. l) lists) h))

pub flat_drop : {A : Type 0} (P : A → Type 0) (n : ℕ) (lists : List (List A)) → AllByRecursion P (flat_map (λ l. l) lists) → AllByRecursion P (flat_map (λ l. l) (drop n lists))
flat_drop P zero lists h = h
flat_drop P (suc n) [] h = tt
flat_drop P (suc n) (l ∷ lists) h = flat_drop P n lists (valid_right P l (flat_map (λ l. l) lists) h)

module _ {E : Type 0} (d : Dictionaries E) (key : KeyBytes) where
  pub found_valid : (rows : List (KeyBytes × E)) → AreValid d rows → IsValid (d.valid key.store) (find key_order key rows)
  found_valid [] h = tt
  found_valid (x ∷ xs) h = elim (same_key key x.0) as (λ b. (same_key key x.0 ≡ b) → IsValid (d.valid key.store) (cond b (Some x.1) (find key_order key xs))) [
    | true ↦ λ e. subst (λ (k : KeyBytes). d.valid k.store x.1) (sym (same_is_equal key x.0 e)) h.0.1
    | false ↦ λ e. found_valid xs h.1
  ] refl

  -- the values of a key are of its store
  pub all_valid : (rows : List (KeyBytes × E)) → AreValid d rows → AllByRecursion (d.valid key.store) (values_at key_order key rows)
  all_valid [] h = tt
  all_valid (x ∷ xs) h = elim (same_key key x.0) as (λ b. (same_key key x.0 ≡ b) → AllByRecursion (d.valid key.store) (map (λ (y : KeyBytes × E). y.1) (cond b (x ∷ filter (λ y. same_key key y.0) xs) (filter (λ y. same_key key y.0) xs)))) [
    | true ↦ λ e. (subst (λ (k : KeyBytes). d.valid k.store x.1) (sym (same_is_equal key x.0 e)) h.0.1, all_valid xs h.1)
    | false ↦ λ e. all_valid xs h.1
  ] refl

  pub onto_valid : (i : ℕ) (o : Option E) (pairs : List (ℕ × E)) → IsValid (d.valid key.store) o → AllByRecursion (λ (x : ℕ × E). d.valid key.store x.1) pairs → AllByRecursion (λ (x : ℕ × E). d.valid key.store x.1) (onto i o pairs)
  onto_valid i None pairs h k = k
  onto_valid i (Some v) pairs h k = (h, k)

  pub lists_valid : (i : ℕ) (lists : List (List (KeyBytes × E))) → AreValid d (flat_map (λ rows. rows) lists) → AllByRecursion (λ (x : ℕ × E). d.valid key.store x.1) (rows_from key i lists)
  lists_valid i [] h = tt
  lists_valid i (rows ∷ lists) h =
      onto_valid i (find key_order key rows) (rows_from key (suc i) lists) (found_valid rows (valid_left _ rows (flat_map (λ r. r) lists) h)) (lists_valid (suc i) lists (valid_right _ rows (flat_map (λ r. r) lists) h))

  -- of the lists from one number on and up to another
  pub listed_valid : (from upto : ℕ) (lists : List (List (KeyBytes × E))) → AreValid d (flat_map (λ rows. rows) lists) → AllByRecursion (λ (x : ℕ × E). d.valid key.store x.1) (rows_from key from (drop from (take (upto + 1) lists)))
  listed_valid from upto lists h = lists_valid from (drop from (take (upto + 1) lists)) (flat_drop _ from (take (upto + 1) lists) (flat_take _ (upto + 1) lists h))

module _ {K E : Type 0} (R : K → K → Ordering) (anti : IsAntisymmetric R) where
  -- a table behind a key has no value of it
  none_behind : (k : K) (rows : List (K × E)) → T (below_all R k rows) → values_at R k rows ≡ []
  none_behind k [] h = refl
  none_behind k (row ∷ rows) h =
      elim (R k row.0) as (λ r. T (is_lt r) → map (λ (x : K × E). x.1) (cond (is_eq r) (row ∷ filter (λ x. eq_by_cmp R k x.0) rows) (filter (λ x. eq_by_cmp R k x.0) rows)) ≡ []) [
        | Less ↦ λ _. none_behind k rows (second _ _ h)
        | Equal ↦ λ l. absurd l
        | Greater ↦ λ l. absurd l
      ] (first _ _ h)

  -- a rising table has one value of a key, or none
  pub rising_value : (key : K) (rows : List (K × E)) → T (is_sorted R rows) → values_at R key rows ≡ one_or_none (find R key rows)
  rising_value key [] h = refl
  rising_value key (row ∷ rows) h =
      elim (eq_by_cmp R key row.0) as (λ t. eq_by_cmp R key row.0 ≡ t
      → map (λ (x : K × E). x.1) (cond t (row ∷ filter (λ x. eq_by_cmp R key x.0) rows) (filter (λ x. eq_by_cmp R key x.0) rows)) ≡ one_or_none (cond t (Some row.1) (find R key rows))) [
        | true ↦ λ e. ap (λ l. row.1 ∷ l) (ap (λ k. values_at R k rows) (anti key row.0 (equal (R key row.0) e)) ∙ none_behind row.0 rows (first _ _ h))
        | false ↦ λ _. rising_value key rows (second _ _ h)
      ] refl

module _ {E : Type 0} (key : KeyBytes) where
  pub values_both : (xs ys : List (KeyBytes × E)) → values_at key_order key (xs ++ ys) ≡ values_at key_order key xs ++ values_at key_order key ys
  values_both xs ys =
      ap (map (λ (x : KeyBytes × E). x.1)) (filter-append (λ (x : KeyBytes × E). same_key key x.0) xs ys)
      ∙ map-append (λ (x : KeyBytes × E). x.1) (filter (λ x. same_key key x.0) xs) (filter (λ x. same_key key x.0) ys)

  onto_value : (i : ℕ) (o : Option E) (pairs : List (ℕ × E)) → map (λ pair. pair.1) (onto i o pairs) ≡ one_or_none o ++ map (λ pair. pair.1) pairs
  onto_value i None pairs = refl
  onto_value i (Some v) pairs = refl

  -- the values of rising rows, one list after the other
  pub lists_values : (i : ℕ) (lists : List (List (KeyBytes × E))) → AllByRecursion (λ rows. IsTrue (is_sorted key_order rows)) lists
      → values_at key_order key (flat_map (λ rows. rows) lists) ≡ map (λ pair. pair.1) (rows_from key i lists)
  lists_values i [] h = refl
  lists_values i (rows ∷ lists) h =
      values_both rows (flat_map (λ rows. rows) lists)
      ∙ (ap_both (λ xs ys. xs ++ ys) (rising_value key_order key_order-IsAntisymmetric key rows (truly _ h.0)) (lists_values (suc i) lists h.1)
      ∙ sym (onto_value i (find key_order key rows) (rows_from key (suc i) lists)))

  none_other : (rows : List (KeyBytes × E)) → AllByRecursion (λ q. same_key key q ≡ false) (keys_of rows) → values_at key_order key rows ≡ []
  none_other [] h = refl
  none_other (row ∷ rows) h = ap (λ t. map (λ (x : KeyBytes × E). x.1) (cond t (row ∷ filter (λ x. same_key key x.0) rows) (filter (λ x. same_key key x.0) rows))) h.0 ∙ none_other rows h.1

  -- entries with distinct keys have one value of a key, or none
  pub distinct_value : (rows : List (KeyBytes × E)) → IsDistinct same_key (keys_of rows) → values_at key_order key rows ≡ one_or_none (find key_order key rows)
  unfolding IsDistinct
  distinct_value [] h = refl
  distinct_value (row ∷ rows) h =
      elim (same_key key row.0) as (λ t. same_key key row.0 ≡ t
      → map (λ (x : KeyBytes × E). x.1) (cond t (row ∷ filter (λ x. same_key key x.0) rows) (filter (λ x. same_key key x.0) rows)) ≡ one_or_none (cond t (Some row.1) (find key_order key rows))) [
        | true ↦ λ e. ap (λ l. row.1 ∷ l) (none_other rows (subst (λ k. AllByRecursion (λ q. same_key k q ≡ false) (keys_of rows)) (sym (same_is_equal key row.0 e)) h.0))
        | false ↦ λ _. distinct_value rows h.1
      ] refl

pub one_sum : {E : Type 0} (add : E → E → E) (o : Option E) → o ≡ sum_of add (one_or_none o)
one_sum add None = refl
one_sum add (Some v) = refl

-- entries with distinct keys are their own sums
pub own_sums : {E : Type 0} (d : Dictionaries E) (es : List (KeyBytes × E)) → IsDistinct same_key (keys_of es) → HasKeySums d es es
own_sums d es h key = one_sum (d.add key.store) (find key_order key es) ∙ sym (ap (sum_of (d.add key.store)) (distinct_value key es h))

sum_onto_both : {E : Type 0} (add : E → E → E) (s : E) (xs ys : List E) → sum_onto add s (xs ++ ys) ≡ sum_onto add (sum_onto add s xs) ys
sum_onto_both add s [] ys = refl
sum_onto_both add s (x ∷ xs) ys = sum_onto_both add (add s x) xs ys

-- values that are summed up before others are added
pub sum_before : {E : Type 0} (add : E → E → E) (xs ys : List E) → sum_of add (one_or_none (sum_of add xs) ++ ys) ≡ sum_of add (xs ++ ys)
sum_before add [] ys = refl
sum_before add (x ∷ xs) ys = ap Some (sym (sum_onto_both add x xs ys))

module _ {E : Type 0} (j : ℕ) where
  pub at_both : (xs ys : List (ℕ × E)) → at_batch j (xs ++ ys) ≡ at_batch j xs ++ at_batch j ys
  at_both xs ys =
      ap (map (λ (x : ℕ × E). x.1)) (filter-append (λ (x : ℕ × E). x.0 == j) xs ys)
      ∙ map-append (λ (x : ℕ × E). x.1) (filter (λ x. x.0 == j) xs) (filter (λ x. x.0 == j) ys)

  at_turned : (xs : List (ℕ × E)) → values_at nat_cmp j xs ≡ at_batch j xs
  at_turned xs = ap (map (λ (x : ℕ × E). x.1)) (filter_same (λ (x : ℕ × E). eq_by_cmp nat_cmp j x.0) (λ x. x.0 == j) (λ x. unsigned_tied j x.0 ∙ turned j x.0) xs)
    where
      turned : (a b : ℕ) → (a == b) ≡ (b == a)
      turned a b = cases (a == b) (b == a) refl refl
        where
          cases : (s t : Bool) → (a == b) ≡ s → (b == a) ≡ t → s ≡ t
          cases true true x y = refl
          cases true false x y = absurd (grind (arith, nat_tests))
          cases false true x y = absurd (grind (arith, nat_tests))
          cases false false x y = refl

  -- a rising table has one value of a batch, or none
  pub at_rising : (xs : List (ℕ × E)) → T (is_sorted nat_cmp xs) → at_batch j xs ≡ one_or_none (find nat_cmp j xs)
  at_rising xs h = sym (at_turned xs) ∙ rising_value nat_cmp nat_cmp-IsAntisymmetric j xs h

  -- what is found in a table to which parts are added
  pub find_added : (add : E → E → E) (table parts : List (ℕ × E)) → T (is_sorted nat_cmp table) → find nat_cmp j (add_all nat_cmp add table parts) ≡ sum_of add (one_or_none (find nat_cmp j table) ++ at_batch j parts)
  find_added add table parts h =
      (folds_with_all nat_cmp nat_cmp_total add table table parts (record { rising = is_true _ h; each = alone })).each j
      ∙ ap (sum_of add) (at_turned (table ++ parts) ∙ (at_both table parts ∙ ap (λ l. l ++ at_batch j parts) (at_rising table h)))
    where
      alone : (k : ℕ) → find nat_cmp k table ≡ sum_of add (values_at nat_cmp k table)
      alone k = one_sum add (find nat_cmp k table) ∙ sym (ap (sum_of add) (rising_value nat_cmp nat_cmp-IsAntisymmetric k table h))

and_turn : (a b : Bool) → (a && b) ≡ (b && a)
and_turn true true = refl
and_turn true false = refl
and_turn false true = refl
and_turn false false = refl

module _ {E : Type 0} (key : KeyBytes) (from upto : ℕ) (parts : List (Part E)) where
  -- what is asked of parts is what the parts of some batches have of the key
  pub asked_is : asked key from upto parts ≡ key_values key (filter (λ part. nat_le from part.batch && nat_le part.batch upto) parts)
  asked_is = ap (map batch_value) (filter_same (is_asked key from upto) (λ part. (nat_le from part.batch && nat_le part.batch upto) && same_key key part.key) (λ part. and_turn (same_key key part.key) (nat_le from part.batch && nat_le part.batch upto)) parts
      ∙ sym (filter_twice (λ (part : Part E). same_key key part.key) (λ part. nat_le from part.batch && nat_le part.batch upto) parts))

  pub asked_valid : (d : Dictionaries E) → AreValid d (keyed_values parts) → AllByRecursion (λ (pair : ℕ × E). d.valid key.store pair.1) (asked key from upto parts)
  asked_valid d h = subst (AllByRecursion (λ (pair : ℕ × E). d.valid key.store pair.1)) (sym asked_is) (values_valid d key (filter (λ part. nat_le from part.batch && nat_le part.batch upto) parts) (keyed_filter d (λ part. nat_le from part.batch && nat_le part.batch upto) parts h))
