-- Rows of one store that rise and have the folds of emissions are the store's report.
use Rattle.std.proofs.Common.{◌≡◌, ℕ, Bool, true, false, cond, ◌&&◌, List, [], ◌∷◌, ◌++◌, map, filter, fold, Some, refl, sym, ap, ◌∙◌, IsTrue}
use Rattle.std.specs.BTreeSet.{insert_key}
use Rattle.std.specs.FinMap.{find, is_sorted, nat_cmp-IsAntisymmetric, slice_cmp-IsAntisymmetric}
use Rattle.std.specs.FinMap.Entries.{below_all, same_entries, by_order}
use Rattle.std.specs.List.{AllByRecursion, flat_map}
use Rattle.std.specs.Map.{keys_of}
use Rattle.std.specs.Cmp.{nat_cmp_is}
use Rattle.std.specs.Ordering.{nat_cmp, ordering_then, is_eq, is_lt, eq_by_cmp, match_ordering, ordering_reverse}
use Rattle.std.specs.Str.{bytes_eq}
use Rattle.std.specs.declared.cmp.Ordering.{Ordering}
use Rattle.std.specs.declared.cmp.Ordering.TheVariants.{Less, Equal, Greater}
use Rattle.std.proofs.lemmas.Cmp.{nat_list_cmp_total}
use Rattle.std.proofs.lemmas.Slice.Eq.{bytes_eq-Decides}
use Rattle.sb_laws.specs.Sums.{sum_of}
use Rattle.sb_laws.specs.Tables.{values_at, add_to, add_all, AreFolds}
use Rattle.sb_laws.proofs.Positions.{ap_both}
use Rattle.sb_laws.proofs.Tables.{all_added_are_folds, truly, is_true, first, second, less}
use Rattle.sb_feed.specs.declared.key.KeyBytes.{KeyBytes}
use Rattle.sb_feed.specs.Keys.{key_order}
use Rattle.sb_plan.specs.Emitted.{Emission, of_key, fold_of, everywhere}
use Rattle.sb_report.specs.Report.{row_text, fold_text, rising_keys, store_report}
use Rattle.sb_run.proofs.Keys.{by_bytes, same_bytes, ties}

abbrev TextRow : Type 0 → Type 0
TextRow E = List ℕ × E

-- keys of a store are ordered by their texts
module _ (store : ℕ) where
  tie : nat_cmp store store ≡ Equal
  tie = sym (nat_cmp_is store store Equal refl)

  pub order_of : (a b : KeyBytes) → a.store ≡ store → b.store ≡ store → key_order a b ≡ by_bytes a.text b.text
  order_of a b e f = ap_both (λ m n. ordering_then (nat_cmp m n) (by_bytes a.text b.text)) e f ∙ ap (λ o. ordering_then o (by_bytes a.text b.text)) tie

-- the store's number, its plus, and the texts of its elements
module _ {E : Type 0} (store : ℕ) (plus : E → E → E) (text : E → List ℕ) where
  -- a row by its key's text
  by_text : KeyBytes × E → TextRow E
  by_text row = (row.0.text, row.1)

  abbrev pub AreOfStore : List (KeyBytes × E) → Type 0
  AreOfStore rows = AllByRecursion (λ row. row.0.store ≡ store) rows

  below_same : (key : KeyBytes) (rows : List (KeyBytes × E)) → key.store ≡ store → AreOfStore rows → below_all key_order key rows ≡ below_all by_bytes key.text (map by_text rows)
  unfolding by_text
  below_same key [] e h = refl
  below_same key (row ∷ rows) e h = ap_both (λ o b. is_lt o && b) (order_of store key row.0 e h.0) (below_same key rows e h.1)

  sorted_same : (rows : List (KeyBytes × E)) → AreOfStore rows → is_sorted key_order rows ≡ is_sorted by_bytes (map by_text rows)
  unfolding by_text
  sorted_same [] h = refl
  sorted_same (row ∷ rows) h = ap_both ◌&&◌ (below_same row.0 rows h.0 h.1) (sorted_same rows h.1)

  find_same : (key : List ℕ) (rows : List (KeyBytes × E)) → AreOfStore rows → find key_order (record { store = store; text = key }) rows ≡ find by_bytes key (map by_text rows)
  unfolding by_text
  find_same key [] h = refl
  find_same key (row ∷ rows) h =
      ap_both (λ o r. cond (is_eq o) (Some row.1) r) (order_of store (record { store = store; text = key }) row.0 refl h.0) (find_same key rows h.1)

  -- the values that emissions add to keys
  values_in : List (Emission E) → List (TextRow E)
  values_in emissions = map (λ e. (e.key, e.value)) emissions

  -- a key's values, by any order that ties it with the same texts
  module _ {K : Type 0} (name : List ℕ → K) (R : K → K → Ordering) (key : List ℕ) (same : (other : List ℕ) → is_eq (R (name key) (name other)) ≡ bytes_eq other key) where
    values_of_key : (emissions : List (Emission E)) → map (λ (x : ℕ × E). x.1) (of_key key emissions) ≡ values_at R (name key) (map (λ e. (name e.key, e.value)) emissions)
    values_of_key [] = refl
    values_of_key (emission ∷ emissions) = onto (bytes_eq emission.key key) (is_eq (R (name key) (name emission.key))) (sym (same emission.key)) (values_of_key emissions)
      where
        onto : (b c : Bool) → b ≡ c → map (λ (x : ℕ × E). x.1) (of_key key emissions) ≡ values_at R (name key) (map (λ e. (name e.key, e.value)) emissions)
            → map (λ (x : ℕ × E). x.1) (map (λ (e : Emission E). (e.position, e.value)) (cond b (emission ∷ filter (λ e. bytes_eq e.key key) emissions) (filter (λ e. bytes_eq e.key key) emissions)))
            ≡ map (λ (part : K × E). part.1) (cond c ((name emission.key, emission.value) ∷ filter (λ part. eq_by_cmp R (name key) part.0) (map (λ e. (name e.key, e.value)) emissions))
            (filter (λ part. eq_by_cmp R (name key) part.0) (map (λ e. (name e.key, e.value)) emissions)))
        onto true true e h = ap (λ l. emission.value ∷ l) h
        onto true false e h = let no : true ≡ false = e in cc
        onto false true e h = let no : false ≡ true = e in cc
        onto false false e h = h

  filter-everywhere : {E : Type 0} (values : List (ℕ × E)) → filter (λ value. everywhere value.0) values ≡ values
  filter-everywhere [] = refl
  filter-everywhere (value ∷ values) = ap (λ vs. value ∷ vs) (filter-everywhere values)

  -- the fold over all positions is the sum of the key's values
  fold-everywhere : (emissions : List (Emission E)) (key : List ℕ) → fold_of plus emissions key everywhere ≡ sum_of plus (map (λ value. value.1) (of_key key emissions))
  fold-everywhere emissions key = ap (λ values. sum_of plus (map (λ value. value.1) values)) (filter-everywhere (of_key key emissions))

  keys_add : (key : List ℕ) (value : E) (table : List (TextRow E)) → keys_of (add_to by_bytes plus key value table) ≡ insert_key by_bytes (keys_of table) key
  keys_add key value [] = refl
  keys_add key value (row ∷ table) = elim (by_bytes key row.0) as (λ o. keys_of (by_order o ((key, value) ∷ row ∷ table) ((row.0, plus row.1 value) ∷ table) (row ∷ add_to by_bytes plus key value table))
      ≡ match_ordering o (key ∷ row.0 ∷ keys_of table) (row.0 ∷ keys_of table) (row.0 ∷ insert_key by_bytes (keys_of table) key)) [
        | Less ↦ refl
        | Equal ↦ refl
        | Greater ↦ ap (λ l. row.0 ∷ l) (keys_add key value table)
      ]

  keys_added : (table parts : List (TextRow E)) → keys_of (add_all by_bytes plus table parts) ≡ fold (insert_key by_bytes) (keys_of table) (map (λ part. part.0) parts)
  keys_added table [] = refl
  keys_added table (part ∷ parts) =
      keys_added (add_to by_bytes plus part.0 part.1 table) parts ∙ ap (λ keys. fold (insert_key by_bytes) keys (map (λ p. p.0) parts)) (keys_add part.0 part.1 table)

  keys_in : (emissions : List (Emission E)) → map (λ part. part.0) (values_in emissions) ≡ map (λ (e : Emission E). e.key) emissions
  unfolding values_in
  keys_in [] = refl
  keys_in (emission ∷ emissions) = ap (λ l. emission.key ∷ l) (keys_in emissions)

  below_list : (key : List ℕ) (rows : List (TextRow E)) → below_all by_bytes key rows ≡ true → AllByRecursion (λ row. by_bytes key row.0 ≡ Less) rows
  below_list key [] h = tt
  below_list key (row ∷ rows) h = (less (by_bytes key row.0) (first _ _ (truly _ h)), below_list key rows (is_true _ (second _ _ (truly _ h))))

  found_later : (head : TextRow E) (rows table : List (TextRow E)) → AllByRecursion (λ row. by_bytes head.0 row.0 ≡ Less) rows → AllByRecursion (λ row. find by_bytes row.0 table ≡ Some row.1) rows
      → AllByRecursion (λ row. find by_bytes row.0 (head ∷ table) ≡ Some row.1) rows
  found_later head [] table h found = tt
  found_later head (row ∷ rows) table h found =
      (ap (λ o. cond (is_eq o) (Some head.1) (find by_bytes row.0 table)) (nat_list_cmp_total.antisymm row.0 head.0 ∙ ap ordering_reverse h.0) ∙ found.0, found_later head rows table h.1 found.1)

  -- each row of a rising table is found at its key
  each_found : (rows : List (TextRow E)) → is_sorted by_bytes rows ≡ true → AllByRecursion (λ row. find by_bytes row.0 rows ≡ Some row.1) rows
  each_found [] h = tt
  each_found (row ∷ rows) h = (
    ap (λ b. cond b (Some row.1) (find by_bytes row.0 rows)) (same_bytes row.0 row.0 (by_bytes row.0 row.0) refl ∙ (bytes_eq-Decides row.0 row.0).1 refl),
    found_later row rows rows (below_list row.0 rows (is_true _ (first _ _ (truly _ h)))) (each_found rows (is_true _ (second _ _ (truly _ h)))),
  )

  -- rows by their texts
  rows_by_text : (name : List ℕ) (rows : List (KeyBytes × E)) → flat_map (λ row. row_text name row.0.text (text row.1)) rows ≡ flat_map (λ row. row_text name row.0 (text row.1)) (map by_text rows)
  unfolding by_text
  rows_by_text name [] = refl
  rows_by_text name (row ∷ rows) = ap (λ l. row_text name row.0.text (text row.1) ++ l) (rows_by_text name rows)

  each_fold : (emissions : List (Emission E)) (table : List (TextRow E)) → ((key : List ℕ) → find by_bytes key table ≡ fold_of plus emissions key everywhere) → (rows : List (TextRow E))
      → AllByRecursion (λ row. find by_bytes row.0 table ≡ Some row.1) rows → AllByRecursion (λ row. fold_of plus emissions row.0 everywhere ≡ Some row.1) rows
  each_fold emissions table is [] found = tt
  each_fold emissions table is (row ∷ rows) found = (sym (is row.0) ∙ found.0, each_fold emissions table is rows found.1)

  rows_by_keys : (name : List ℕ) (emissions : List (Emission E)) (rows : List (TextRow E)) → AllByRecursion (λ row. fold_of plus emissions row.0 everywhere ≡ Some row.1) rows
      → flat_map (λ row. row_text name row.0 (text row.1)) rows
      ≡ flat_map (λ key. row_text name key (fold_text text (fold_of plus emissions key everywhere))) (keys_of rows)
  rows_by_keys name emissions [] are = refl
  rows_by_keys name emissions (row ∷ rows) are = rw (are.0, rows_by_keys name emissions rows are.1) refl

  -- what the rows have to be
  pub record AreRows (emissions : List (Emission E)) (rows : List (KeyBytes × E)) : Type 0 where
    pub mine : AreOfStore rows
    pub rising : IsTrue (is_sorted key_order rows)
    pub folds : (key : List ℕ) → find key_order (record { store = store; text = key }) rows ≡ fold_of plus emissions key everywhere

  pub rows_are_report : (name : List ℕ) (emissions : List (Emission E)) (rows : List (KeyBytes × E)) → AreRows emissions rows
      → flat_map (λ row. row_text name row.0.text (text row.1)) rows ≡ store_report text name (map (λ e. e.key) emissions) (λ key. fold_of plus emissions key everywhere)
  unfolding values_in
  rows_are_report name emissions rows are =
      rows_by_text name rows
      ∙ (rows_by_keys name emissions (map by_text rows) (each_fold emissions (map by_text rows) found (map by_text rows) (each_found (map by_text rows) sorted))
      ∙ ap (flat_map (λ key. row_text name key (fold_text text (fold_of plus emissions key everywhere)))) rising)
    where
      sorted : is_sorted by_bytes (map by_text rows) ≡ true
      sorted = sym (sorted_same rows are.mine) ∙ are.rising

      found : (key : List ℕ) → find by_bytes key (map by_text rows) ≡ fold_of plus emissions key everywhere
      found key = sym (find_same key rows are.mine) ∙ are.folds key

      values : (key : List ℕ) → map (λ (x : ℕ × E). x.1) (of_key key emissions) ≡ values_at by_bytes key (values_in emissions)
      values key = values_of_key (λ other. other) by_bytes key (ties key) emissions

      table : AreFolds by_bytes plus (add_all by_bytes plus [] (values_in emissions)) (values_in emissions)
      table = all_added_are_folds by_bytes nat_list_cmp_total plus (values_in emissions)

      same : map by_text rows ≡ add_all by_bytes plus [] (values_in emissions)
      same = same_entries by_bytes nat_list_cmp_total (slice_cmp-IsAntisymmetric nat_cmp-IsAntisymmetric) (map by_text rows) (add_all by_bytes plus [] (values_in emissions)) (truly _ sorted) (truly _ table.rising)
          (λ key. found key ∙ (fold-everywhere emissions key ∙ (ap (sum_of plus) (values key) ∙ sym (table.each key))))

      rising : keys_of (map by_text rows) ≡ rising_keys (map (λ e. e.key) emissions)
      rising = ap keys_of same ∙ (keys_added [] (values_in emissions) ∙ ap (fold (insert_key by_bytes) []) (keys_in emissions))

  -- the sums by key of what a store is fed are the folds of its emissions
  pub sums_are_folds : (emissions : List (Emission E)) (key : List ℕ)
      → sum_of plus (values_at key_order (record { store = store; text = key }) (map (λ e. (record { store = store; text = e.key }, e.value)) emissions)) ≡ fold_of plus emissions key everywhere
  sums_are_folds emissions key = sym (fold-everywhere emissions key ∙ ap (sum_of plus) (values_of_key (λ other. record { store = store; text = other }) key_order key (ties' key) emissions))
    where
      ties' : (key other : List ℕ) → is_eq (key_order (record { store = store; text = key }) (record { store = store; text = other })) ≡ bytes_eq other key
      ties' key other = ap is_eq (order_of store (record { store = store; text = key }) (record { store = store; text = other }) refl refl) ∙ ties key other
