-- Rows and parcels divided among shards.
use Rattle.std.proofs.Common.{◌≡◌, ℕ, zero, suc, ◌+◌, ◌%◌, ◌<◌, Bool, true, false, cond, ◌&&◌, List, [], ◌∷◌, ◌++◌, length, map, filter, replicate, Vec, Global, Option, Some, None, refl, sym, ap, subst, ◌∙◌, arith, append-nil}
use Rattle.std.specs.Prelude.{◌==◌}
use Rattle.std.specs.FinMap.{find, is_sorted}
use Rattle.std.specs.FinMap.Entries.{below_all}
use Rattle.std.specs.List.{AllByRecursion, range_with_len}
use Rattle.std.specs.Ordering.{is_lt}
use Rattle.std.specs.declared.cmp.Ordering.{Ordering}
use Rattle.std.proofs.lemmas.Bool.{eqb-true, eqb-false}
use Rattle.std.proofs.lemmas.List.{length-map}
use Rattle.std.proofs.lemmas.List.Elements.{filter-append}
use Rattle.std.proofs.lemmas.List.FromFn.{length-map-range_with_len}
use Rattle.sb_laws.specs.Folds.{fold_over}
use Rattle.sb_laws.proofs.Positions.{ap_both, fold_if}
use Rattle.sb_feed.specs.declared.key.KeyBytes.{KeyBytes}
use Rattle.sb_feed.specs.declared.parts.Part.{Part}
use Rattle.sb_feed.specs.declared.parts.Parcel.{Parcel}
use Rattle.sb_feed.specs.declared.rows.Rows.{Rows}
use Rattle.sb_feed.specs.Index.{with_item}
use Rattle.sb_feed.specs.Jobs.{CutLog, Dictionaries, AreValid, places_of, values_from, log_values, log_fold}
use Rattle.sb_feed.specs.Keys.{key_order, same_key, key_hash, shard_of}
use Rattle.sb_feed.specs.Places.{batch_at, chunk_at, is_in}
use Rattle.sb_feed.specs.Stands.{AreRowsOf, IsParcelOf, batch_value, key_values, keyed_values, sum_at}
use Rattle.sb_feed.proofs.PartSums.{same_is_equal, valid_filter, keyed_filter}
use Rattle.sb_job.specs.Batches.{AreBatchRows, rows_in, shard_rows}
use Rattle.sb_job.specs.Parcels.{parts_in, shard_parcel}
use Rattle.sb_job.specs.Emitted.{is_between}

-- with nothing left to come, all has come
pub all_yielded : {X : Type 0} (xs rest all : List X) → length rest ≡ 0 → xs ++ rest ≡ all → xs ≡ all
all_yielded xs [] all none e = sym (append-nil xs) ∙ e
all_yielded xs (x ∷ rest) all none e = absurd (omega (arith, none))

-- ---- lists by numbers

module _ {X : Type 0} where
  -- so many lists with nothing in them
  none_each : (F : ℕ → List X) (a n : ℕ) → ((s : ℕ) → F s ≡ []) → replicate n [] ≡ map F (range_with_len a n)
  none_each F a zero h = refl
  none_each F a (suc n) h = ap_both ◌∷◌ (sym (h a)) (none_each F (a + 1) n h)

  no_item : (m s : ℕ) (item : X) (t : Bool) → (m == s) ≡ t → m < s → cond t (item ∷ []) [] ≡ []
  no_item m s item true e less = absurd (omega (arith, less, eqb-true))
  no_item m s item false e less = refl

  an_item : (m s : ℕ) (item : X) (t : Bool) → (m == s) ≡ t → m ≡ s → cond t (item ∷ []) [] ≡ item ∷ []
  an_item m s item true e is = refl
  an_item m s item false e is = absurd (omega (arith, is, eqb-false))

  other_item : (m s : ℕ) (item : X) (t : Bool) → (m == s) ≡ t → s < m → cond t (item ∷ []) [] ≡ []
  other_item m s item true e less = absurd (omega (arith, less, eqb-true))
  other_item m s item false e less = refl

  -- behind the number of the list that has an item more, all stay
  later_same : (F G : ℕ → List X) (m a n : ℕ) (item : X) → m < a → ((s : ℕ) → G s ≡ F s ++ cond (m == s) (item ∷ []) []) → map F (range_with_len a n) ≡ map G (range_with_len a n)
  later_same F G m a zero item less h = refl
  later_same F G m a (suc n) item less h =
      ap_both ◌∷◌ (sym (h a ∙ (ap (λ l. F a ++ l) (no_item m a item _ refl less) ∙ append-nil (F a)))) (later_same F G m (a + 1) n item (omega (arith, less)) h)

  -- an item more in the list of the number m
  item_more : (F G : ℕ → List X) (k m a n : ℕ) (item : X) → m ≡ a + k → ((s : ℕ) → G s ≡ F s ++ cond (m == s) (item ∷ []) []) → with_item k item (map F (range_with_len a n)) ≡ map G (range_with_len a n)
  item_more F G k m a zero item e h = refl
  item_more F G zero m a (suc n) item e h =
      ap_both ◌∷◌ (sym (h a ∙ ap (λ l. F a ++ l) (an_item m a item _ refl (omega (arith, e))))) (later_same F G m (a + 1) n item (omega (arith, e)) h)
  item_more F G (suc k) m a (suc n) item e h =
      ap_both ◌∷◌ (sym (h a ∙ (ap (λ l. F a ++ l) (other_item m a item _ refl (omega (arith, e))) ∙ append-nil (F a)))) (item_more F G k m (a + 1) n item (omega (arith, e)) h)

  all_made : (P : List X → Type 0) (F : ℕ → List X) → ((s : ℕ) → P (F s)) → (numbers : List ℕ) → AllByRecursion P (map F numbers)
  all_made P F h [] = tt
  all_made P F h (s ∷ numbers) = (h s, all_made P F h numbers)

  all_back : (P : List X → Type 0) (lists : List (Vec X Global)) → AllByRecursion P (map (λ list. list.items) lists) → AllByRecursion (λ list. P list.items) lists
  all_back P [] h = tt
  all_back P (list ∷ lists) h = (h.0, all_back P lists h.1)

  -- what holds of each list that is made holds of those that have their items
  all_lists : (P : List X → Type 0) (F : ℕ → List X) (numbers : List ℕ) (lists : List (Vec X Global)) → ((s : ℕ) → P (F s)) → map (λ list. list.items) lists ≡ map F numbers → AllByRecursion (λ list. P list.items) lists
  all_lists P F numbers lists h e = all_back P lists (subst (AllByRecursion P) (sym e) (all_made P F h numbers))

  map_items : {R : Type 0} (f : List X → R) (lists : List (Vec X Global)) → map (λ list. f list.items) lists ≡ map f (map (λ list. list.items) lists)
  map_items f [] = refl
  map_items f (list ∷ lists) = ap (λ l. f list.items ∷ l) (map_items f lists)

  map_made : {R : Type 0} (f : List X → R) (F : ℕ → List X) (numbers : List ℕ) → map f (map F numbers) ≡ map (λ s. f (F s)) numbers
  map_made f F [] = refl
  map_made f F (s ∷ numbers) = ap (λ l. f (F s) ∷ l) (map_made f F numbers)

  -- what is made of each list
  of_lists : {R : Type 0} (f : List X → R) (F : ℕ → List X) (numbers : List ℕ) (lists : List (Vec X Global)) → map (λ list. list.items) lists ≡ map F numbers → map (λ list. f list.items) lists ≡ map (λ s. f (F s)) numbers
  of_lists f F numbers lists e = map_items f lists ∙ (ap (map f) e ∙ map_made f F numbers)

-- ---- rows that pass a test

both : (x y : Bool) → (x && y) ≡ true → (x ≡ true) × (y ≡ true)
both true y e = (refl, e)
both false y e = cc

module _ {K E : Type 0} (R : K → K → Ordering) (passes : K × E → Bool) where
  still_below : (key : K) (rows : List (K × E)) → below_all R key rows ≡ true → below_all R key (filter passes rows) ≡ true
  still_below key [] h = refl
  still_below key (row ∷ rows) h =
      let parts = both (is_lt (R key row.0)) (below_all R key rows) h in
      elim (passes row) as (λ b. below_all R key (cond b (row ∷ filter passes rows) (filter passes rows)) ≡ true) [
        | true ↦ ap_both ◌&&◌ parts.0 (still_below key rows parts.1)
        | false ↦ still_below key rows parts.1
      ]

  -- rows that rise do so where some are left out
  still_rising : (rows : List (K × E)) → is_sorted R rows ≡ true → is_sorted R (filter passes rows) ≡ true
  still_rising [] h = refl
  still_rising (row ∷ rows) h =
      let parts = both (below_all R row.0 rows) (is_sorted R rows) h in
      elim (passes row) as (λ b. is_sorted R (cond b (row ∷ filter passes rows) (filter passes rows)) ≡ true) [
        | true ↦ ap_both ◌&&◌ (still_below row.0 rows parts.0) (still_rising rows parts.1)
        | false ↦ still_rising rows parts.1
      ]

module _ {E : Type 0} where
  find_case : (p s q : Bool) (value : E) (o : Option E) → (s ≡ true → q ≡ p) → cond p (cond s (Some value) (cond q o None)) (cond q o None) ≡ cond q (cond s (Some value) o) None
  find_case true true q value o h = ap (λ t. cond t (Some value) None) (sym (h refl))
  find_case true false q value o h = refl
  find_case false true true value o h = (let no : true ≡ false = h refl in cc)
  find_case false true false value o h = refl
  find_case false false q value o h = refl

  found : (key : KeyBytes) (row : KeyBytes × E) (rows : List (KeyBytes × E)) (p : Bool) → find key_order key (cond p (row ∷ rows) rows) ≡ cond p (cond (same_key key row.0) (Some row.1) (find key_order key rows)) (find key_order key rows)
  found key row rows true = refl
  found key row rows false = refl

  none_found : (t : Bool) (o : Option E) → o ≡ None → o ≡ cond t o None
  none_found true o e = refl
  none_found false o e = e

  -- the value of a key in the rows whose keys pass
  find_passing : (passes : KeyBytes → Bool) (key : KeyBytes) (rows : List (KeyBytes × E)) → find key_order key (filter (λ row. passes row.0) rows) ≡ cond (passes key) (find key_order key rows) None
  find_passing passes key [] = none_found (passes key) None refl
  find_passing passes key (row ∷ rows) =
      found key row (filter (λ x. passes x.0) rows) (passes row.0)
      ∙ (ap (λ o. cond (passes row.0) (cond (same_key key row.0) (Some row.1) o) o) (find_passing passes key rows)
      ∙ find_case (passes row.0) (same_key key row.0) (passes key) row.1 (find key_order key rows) (λ e. ap passes (same_is_equal key row.0 e)))

  -- the rows of a shard stand for it, in any log with these records
  pub stand_for_shard : (d : Dictionaries E) (log : CutLog E) (rows : Rows E) (shard : ℕ) → AreBatchRows d log.records rows → AreRowsOf d log shard (shard_rows log.shards rows shard)
  stand_for_shard d log rows shard h = record {
    folds = λ key there. find_passing (λ k. shard_of log.shards k == shard) key rows.rows
        ∙ (ap (λ o. cond (shard_of log.shards key == shard) o None) (h.folds key)
        ∙ sym (fold_if (d.add key.store) (values_from key 0 log.records) (shard_of log.shards key == shard) (λ i. is_between rows.from rows.to (batch_at (places_of log) i))));
    valid = valid_filter _ (λ row. shard_of log.shards row.0 == shard) rows.rows h.valid;
  }

-- ---- the lists of the shards

-- a key is of the only shard
of_only : (shards : ℕ) (key : KeyBytes) → shards ≡ 1 → (shard_of shards key == 0) ≡ true
of_only shards key one = ap (λ n. key_hash key % n == 0) one ∙ ap (λ n. n == 0) nothing_left
  where
    nothing_left : key_hash key % 1 ≡ 0
    nothing_left = omega arith

-- the one item of the one number
pub only_made : {X : Type 0} (f : ℕ → X) (n : ℕ) (x : X) → n ≡ 1 → f 0 ≡ x → x ∷ [] ≡ map f (range_with_len 0 n)
only_made f n x one is = ap (λ y. y ∷ []) (sym is) ∙ ap (λ k. map f (range_with_len 0 k)) (sym one)

-- items that have a key
module _ {X : Type 0} (key : X → KeyBytes) where
  -- those of the shard with a number
  abbrev pub items_in : ℕ → List X → ℕ → List X
  items_in shards items shard = filter (λ x. shard_of shards (key x) == shard) items

  -- with one shard they are all
  pub all_of_one : (shards : ℕ) (items : List X) → shards ≡ 1 → items_in shards items 0 ≡ items
  all_of_one shards [] one = refl
  all_of_one shards (x ∷ items) one = ap (λ t. cond t (x ∷ items_in shards items 0) (items_in shards items 0)) (of_only shards (key x) one) ∙ ap (λ l. x ∷ l) (all_of_one shards items one)

  -- no item is in the lists yet
  pub no_items : (shards n : ℕ) (lists : List (List X)) → n ≡ shards → lists ≡ replicate n [] → lists ≡ map (items_in shards []) (range_with_len 0 shards)
  no_items shards n lists e is = is ∙ (ap (λ k. replicate k []) e ∙ none_each (items_in shards []) 0 shards (λ s. refl))

  -- an item more in its shard's list
  pub shard_more : (shards : ℕ) (before : List X) (x : X) (lists now : List (List X)) → lists ≡ map (items_in shards before) (range_with_len 0 shards) → now ≡ with_item (shard_of shards (key x)) x lists
      → now ≡ map (items_in shards (before ++ x ∷ [])) (range_with_len 0 shards)
  shard_more shards before x lists now h is =
      is ∙ (ap (with_item (shard_of shards (key x)) x) h
      ∙ item_more (items_in shards before) (items_in shards (before ++ x ∷ [])) (shard_of shards (key x)) (shard_of shards (key x)) 0 shards x (omega arith)
      (λ s. filter-append (λ y. shard_of shards (key y) == s) before (x ∷ [])))

  -- there is one list a shard
  pub lists_count : (shards : ℕ) (items : List X) (lists : List (Vec X Global)) → map (λ list. list.items) lists ≡ map (items_in shards items) (range_with_len 0 shards) → length lists ≡ shards
  lists_count shards items lists h = omega (arith, length-map lists (λ (list : Vec X Global). list.items), ap length h, length-map-range_with_len (items_in shards items) 0 shards)

module _ {E : Type 0} where
  -- each list of rows rises
  pub lists_rise : (shards : ℕ) (rows : List (KeyBytes × E)) (lists : List (Vec (KeyBytes × E) Global)) → is_sorted key_order rows ≡ true → map (λ list. list.items) lists ≡ map (rows_in shards rows) (range_with_len 0 shards)
      → AllByRecursion (λ list. is_sorted key_order list.items ≡ true) lists
  lists_rise shards rows lists up h =
      all_lists (λ l. is_sorted key_order l ≡ true) (rows_in shards rows) (range_with_len 0 shards) lists (λ s. still_rising key_order (λ row. shard_of shards row.0 == s) rows up) h

  -- the lists are the rows of the shards
  pub lists_are : (shards : ℕ) (rows : Rows E) (lists : List (Vec (KeyBytes × E) Global)) (split : List (Rows E)) → map (λ list. list.items) lists ≡ map (rows_in shards rows.rows) (range_with_len 0 shards)
      → split ≡ map (λ list. record { from = rows.from; to = rows.to; rows = list.items }) lists → split ≡ map (shard_rows shards rows) (range_with_len 0 shards)
  lists_are shards rows lists split h is = is ∙ of_lists (λ l. record { from = rows.from; to = rows.to; rows = l }) (rows_in shards rows.rows) (range_with_len 0 shards) lists h

  -- the lists are the parcels of the shards
  pub parcels_are : (shards : ℕ) (parcel : Parcel E) (lists : List (Vec (Part E) Global)) (split : List (Parcel E)) → map (λ list. list.items) lists ≡ map (parts_in shards parcel.parts) (range_with_len 0 shards)
      → split ≡ map (λ list. record { chunks = parcel.chunks; parts = list.items }) lists → split ≡ map (shard_parcel shards parcel) (range_with_len 0 shards)
  parcels_are shards parcel lists split h is = is ∙ of_lists (λ l. record { chunks = parcel.chunks; parts = l }) (parts_in shards parcel.parts) (range_with_len 0 shards) lists h

-- ---- parts that pass a test

module _ {E : Type 0} where
  valued : (key : KeyBytes) (part : Part E) (parts : List (Part E)) (p : Bool) → key_values key (cond p (part ∷ parts) parts) ≡ cond p (cond (same_key key part.key) (batch_value part ∷ key_values key parts) (key_values key parts)) (key_values key parts)
  valued key part parts true = elim (same_key key part.key) as (λ b. map batch_value (cond b (part ∷ filter (λ p. same_key key p.key) parts) (filter (λ p. same_key key p.key) parts)) ≡ cond b (batch_value part ∷ key_values key parts) (key_values key parts)) [
    | true ↦ refl
    | false ↦ refl
  ]
  valued key part parts false = refl

  value_case : (p s q : Bool) (x : ℕ × E) (xs : List (ℕ × E)) → (s ≡ true → q ≡ p) → cond p (cond s (x ∷ cond q xs []) (cond q xs [])) (cond q xs []) ≡ cond q (cond s (x ∷ xs) xs) []
  value_case true true q x xs h = (let is : q ≡ true = h refl in ap (λ t. x ∷ cond t xs []) is ∙ ap (λ t. cond t (x ∷ xs) []) (sym is))
  value_case true false q x xs h = refl
  value_case false true true x xs h = (let no : true ≡ false = h refl in cc)
  value_case false true false x xs h = refl
  value_case false false q x xs h = refl

  -- the values of a key in the parts whose keys pass
  values_passing : (passes : KeyBytes → Bool) (key : KeyBytes) (parts : List (Part E)) → key_values key (filter (λ part. passes part.key) parts) ≡ cond (passes key) (key_values key parts) []
  values_passing passes key [] = nothing (passes key)
    where
      nothing : (t : Bool) → [] ≡ cond {A = List (ℕ × E)} t [] []
      nothing true = refl
      nothing false = refl
  values_passing passes key (part ∷ parts) =
      valued key part (filter (λ p. passes p.key) parts) (passes part.key)
      ∙ (ap (λ l. cond (passes part.key) (cond (same_key key part.key) (batch_value part ∷ l) l) l) (values_passing passes key parts)
      ∙ (value_case (passes part.key) (same_key key part.key) (passes key) (batch_value part) (key_values key parts) (λ e. ap passes (same_is_equal key part.key e))
      ∙ ap (λ l. cond (passes key) l []) (sym (valued key part parts true))))

  over_passing : (add : E → E → E) (t : Bool) (xs : List (ℕ × E)) (s : ℕ → Bool) → fold_over add (cond t xs []) s ≡ cond t (fold_over add xs s) None
  over_passing add true xs s = refl
  over_passing add false xs s = refl

  -- the parcel of a shard stands for it, in any log for whose keys of each shard the parts stand
  pub parcel_for_shard : (d : Dictionaries E) (log : CutLog E) (parcel : Parcel E) (shard : ℕ) → AreValid d (keyed_values parcel.parts)
      → ((key : KeyBytes) (j : ℕ) → sum_at d.add key j parcel.parts ≡ log_fold d.add log key (λ i. batch_at (places_of log) i == j && is_in parcel.chunks (chunk_at (places_of log) i)))
      → IsParcelOf d log shard (shard_parcel log.shards parcel shard)
  parcel_for_shard d log parcel shard valid sums = record {
    sums = λ key j there.
        ap (λ l. fold_over (d.add key.store) l (λ b. b == j)) (values_passing (λ k. shard_of log.shards k == shard) key parcel.parts)
        ∙ (over_passing (d.add key.store) (shard_of log.shards key == shard) (key_values key parcel.parts) (λ b. b == j)
        ∙ (ap (λ o. cond (shard_of log.shards key == shard) o None) (sums key j)
        ∙ sym (fold_if (d.add key.store) (log_values log key) (shard_of log.shards key == shard) (λ i. batch_at (places_of log) i == j && is_in parcel.chunks (chunk_at (places_of log) i)))));
    valid = keyed_filter d (λ part. shard_of log.shards part.key == shard) parcel.parts valid;
  }
