-- What is looked up in the tables, with what waits.
use Rattle.std.proofs.Common.{◌≡◌, ℕ, ◌+◌, Bool, true, false, cond, ◌&&◌, List, [], ◌∷◌, ◌++◌, map, filter, get_or, take, drop, Option, None, refl, sym, ap, subst, ◌∙◌, arith}
use Rattle.std.specs.Prelude.{nat_le, ◌==◌}
use Rattle.std.specs.List.{IsDistinct}
use Rattle.std.specs.Map.{keys_of}
use Rattle.std.specs.Ordering.{nat_cmp}
use Rattle.std.specs.Cmp.{nat_cmp_total}
use Rattle.std.specs.FinMap.{find}
use Rattle.std.proofs.lemmas.Bool.Decides.{nat_tests}
use Rattle.sb_laws.specs.Sums.{sum_of}
use Rattle.sb_laws.specs.Tables.{add_all}
use Rattle.sb_laws.proofs.Positions.{ap_both}
use Rattle.sb_laws.proofs.Tables.{valid_add_all}
use Rattle.sb_feed.specs.declared.key.KeyBytes.{KeyBytes}
use Rattle.sb_feed.specs.Keys.{key_order, same_key}
use Rattle.sb_feed.specs.Jobs.{Dictionaries, AreValid}
use Rattle.sb_feed.specs.Stands.{key_values, HasSums}
use Rattle.sb_feed.proofs.PartSums.{values_filter}
use Rattle.sb_job.specs.ByBatch.{asked, at_batch, one_or_none, rows_from}
use Rattle.sb_job.proofs.Listed.{rows_rise, find_listed, listed_valid, find_added, asked_is, asked_valid, distinct_value}
use Rattle.sb_online.specs.Onlines.{OnlineValue, tables_parts, online_sum, sum_from, kept_by, AreApart}
use Rattle.sb_online.proofs.Tabled.{parts_both, tables_at, all_at, to_tables, flat_tables, keyed_left, keyed_right}

nothing : {A : Type 0} (t : Bool) (xs : List A) → xs ≡ [] → xs ≡ cond t xs []
nothing true xs e = refl
nothing false xs e = e

-- of values whose batches pass a test, those of one batch
pub at_filtered : {E : Type 0} (g : ℕ → Bool) (j : ℕ) (xs : List (ℕ × E)) → at_batch j (filter (λ x. g x.0) xs) ≡ cond (g j) (at_batch j xs) []
at_filtered {E} g j [] = nothing {A = E} (g j) [] refl
at_filtered {E} g j (x ∷ xs) = cases (x.0 == j) refl (g x.0) refl (at_filtered g j xs)
  where
    rest : List (ℕ × E)
    rest = filter (λ y. y.0 == j) xs

    cases : (s : Bool) → (x.0 == j) ≡ s → (t : Bool) → g x.0 ≡ t → at_batch j (filter (λ y. g y.0) xs) ≡ cond (g j) (at_batch j xs) []
        → at_batch j (cond t (x ∷ filter (λ y. g y.0) xs) (filter (λ y. g y.0) xs)) ≡ cond (g j) (map (λ (y : ℕ × E). y.1) (cond s (x ∷ filter (λ y. y.0 == j) xs) (filter (λ y. y.0 == j) xs))) []
    cases true e true f h =
        let is : x.0 ≡ j = grind (arith, nat_tests) in
        let passes : g j ≡ true = sym (ap g is) ∙ f in
        ap (λ s. map (λ (y : ℕ × E). y.1) (cond s (x ∷ filter (λ y. y.0 == j) (filter (λ y. g y.0) xs)) (filter (λ y. y.0 == j) (filter (λ y. g y.0) xs)))) e
        ∙ (ap (λ l. x.1 ∷ l) (h ∙ ap (λ t. cond t (at_batch j xs) []) passes)
        ∙ sym (ap (λ t. cond t (x.1 ∷ at_batch j xs) []) passes))
    cases true e false f h =
        let is : x.0 ≡ j = grind (arith, nat_tests) in
        let fails : g j ≡ false = sym (ap g is) ∙ f in
        h ∙ (ap (λ t. cond t (at_batch j xs) []) fails ∙ sym (ap (λ t. cond t (x.1 ∷ at_batch j xs) []) fails))
    cases false e true f h = ap (λ s. map (λ (y : ℕ × E). y.1) (cond s (x ∷ filter (λ y. y.0 == j) (filter (λ y. g y.0) xs)) (filter (λ y. y.0 == j) (filter (λ y. g y.0) xs)))) e ∙ h
    cases false e false f h = h

-- what is found within bounds makes the sum within bounds
looked : {E : Type 0} (add : E → E → E) (s t : Bool) (o : Option E) (waiting : List E) (sum : Option E) → sum_of add (one_or_none o ++ waiting) ≡ sum
    → sum_of add (one_or_none (cond s (cond t o None) None) ++ cond (s && t) waiting []) ≡ cond t (cond s sum None) None
looked add true true o waiting sum h = h
looked add true false o waiting sum h = refl
looked add false true o waiting sum h = refl
looked add false false o waiting sum h = refl

module _ {E : Type 0} (d : Dictionaries E) (key : KeyBytes) (held : OnlineValue E) (apart : AreApart held.tables) where
  -- a sum is what its table has, and what waits for it
  pub sum_is : (j : ℕ) → sum_of (d.add key.store) (one_or_none (find key_order key (get_or held.tables j [])) ++ at_batch j (key_values key held.waiting)) ≡ online_sum d.add held key j
  unfolding IsDistinct
  sum_is j =
      sym (ap (sum_of (d.add key.store)) (parts_both key j (tables_parts 0 held.tables) held.waiting
      ∙ ap (λ l. l ++ at_batch j (key_values key held.waiting)) (tables_at key j 0 j held.tables (omega arith)
      ∙ distinct_value key (get_or held.tables j []) (all_at (λ table. IsDistinct same_key (keys_of table)) held.tables j [] apart tt))))

  pub online_has : (from upto : ℕ) (sums : List (ℕ × E)) → ((a b : E) → d.valid key.store a → d.valid key.store b → d.valid key.store (d.add key.store a b)) → AreValid d (kept_by held)
      → sums ≡ add_all nat_cmp (d.add key.store) (rows_from key from (drop from (take (upto + 1) held.tables))) (asked key from upto held.waiting)
      → HasSums (d.valid key.store) upto (sum_from d.add held from key) sums
  online_has from upto sums keeps valid e =
      let a = d.add key.store in
      let table = rows_from key from (drop from (take (upto + 1) held.tables)) in
      let parts = asked key from upto held.waiting in
      let rising = rows_rise key from (drop from (take (upto + 1) held.tables)) in
      subst (HasSums (d.valid key.store) upto (sum_from d.add held from key)) (sym e) (record {
        each = λ j.
            find_added j a table parts rising
            ∙ (ap_both (λ o w. sum_of a (one_or_none o ++ w)) (find_listed key j from upto held.tables)
            (ap (at_batch j) (asked_is key from upto held.waiting ∙ values_filter (λ b. nat_le from b && nat_le b upto) key held.waiting)
            ∙ at_filtered (λ b. nat_le from b && nat_le b upto) j (key_values key held.waiting))
            ∙ looked a (nat_le from j) (nat_le j upto) (find key_order key (get_or held.tables j [])) (at_batch j (key_values key held.waiting)) (online_sum d.add held key j) (sum_is j));
        valid = valid_add_all nat_cmp nat_cmp_total a (d.valid key.store) keeps table parts (listed_valid d key from upto held.tables (flat_tables d held.tables (to_tables d 0 held.tables (keyed_left d (tables_parts 0 held.tables) held.waiting valid))))
            (asked_valid key from upto held.waiting d (keyed_right d (tables_parts 0 held.tables) held.waiting valid));
      })
