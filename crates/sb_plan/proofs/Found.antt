-- What is found at the keys of records, by what is fed to them.
use Rattle.std.proofs.Common.{◌≡◌, ◌≢◌, ℕ, zero, suc, ◌+◌, ◌<◌, ◌≤◌, ◌⊎◌, inl, inr, true, false, cond, List, [], ◌∷◌, ◌++◌, map, filter, Option, Some, None, refl, sym, ap, subst, ◌∙◌, append_assoc, append-nil, arith}
use Rattle.std.specs.Prelude.{◌==◌, IsTrue, slice_get}
use Rattle.std.specs.FinMap.{find, is_sorted}
use Rattle.std.specs.FinMap.Entries.{find_tied}
use Rattle.std.specs.List.{AllByRecursion}
use Rattle.std.specs.Str.{bytes_eq}
use Rattle.std.proofs.lemmas.Bool.Decides.{nat_tests}
use Rattle.std.proofs.lemmas.List.{map-append}
use Rattle.std.proofs.lemmas.List.Elements.{filter-append}
use Rattle.sb_laws.specs.Folds.{fold_over}
use Rattle.sb_laws.specs.Sums.{sum_of}
use Rattle.sb_laws.specs.Tables.{add_to}
use Rattle.sb_laws.proofs.Positions.{ap_both}
use Rattle.sb_laws.proofs.Sums.{sum_last}
use Rattle.sb_laws.proofs.Tables.{truly, is_true, equal, plus_onto, both_some, find_add_to, sorted_add_to}
use Rattle.sb_check.specs.Log.{HavePlaces, Logged}
use Rattle.sb_feed.specs.declared.key.KeyBytes.{KeyBytes}
use Rattle.sb_feed.specs.Jobs.{Record}
use Rattle.sb_feed.specs.Keys.{key_order, same_key}
use Rattle.sb_feed.proofs.KeyTies.{key_order_total}
use Rattle.sb_kind.specs.declared.agg.Agg.{Agg}
use Rattle.sb_plan.specs.Emitted.{Emission, of_key, fold_of}
use Rattle.sb_plan.specs.Parts.{key_at, with_fed, parts_below}
use Rattle.sb_plan.proofs.ByRecord.{placed, by_record, emission_at}
use Rattle.sb_plan.proofs.Keys.{ties_by_text, apart}

-- the keys of each record's parts rise
abbrev pub AreRising : {E : Type 0} → List (Record E) → Type 0
AreRising records = AllByRecursion (λ r. IsTrue (is_sorted key_order r.parts)) records

-- each record has at a key what is due at its place
abbrev pub AreFound : {E : Type 0} → KeyBytes → (ℕ → Option E) → List (Record E) → Type 0
AreFound key due [] = Unit {0}
AreFound key due (r ∷ records) = (find key_order key r.parts ≡ due 0) × AreFound key (λ i. due (suc i)) records

module _ {E : Type 0} where
  pub found_as : (key : KeyBytes) (due other : ℕ → Option E) (records : List (Record E)) → ((i : ℕ) → due i ≡ other i) → AreFound key due records → AreFound key other records
  found_as key due other [] same h = tt
  found_as key due other (r ∷ records) same h = (h.0 ∙ same 0, found_as key (λ i. due (suc i)) (λ i. other (suc i)) records (λ i. same (suc i)) h.1)

  pub found_at : (key : KeyBytes) (due : ℕ → Option E) (records : List (Record E)) → AreFound key due records → (i : ℕ) (r : Record E) → slice_get records i ≡ Some r
      → find key_order key r.parts ≡ due i
  found_at key due [] h i r at = cc
  found_at key due (x ∷ records) h zero r at = let is : x ≡ r = cc in subst (λ (y : Record E). find key_order key y.parts ≡ due 0) is h.0
  found_at key due (x ∷ records) h (suc i) r at = found_at key (λ j. due (suc j)) records h.1 i r at

  -- ---- parts of one record

  -- the values that are fed with a key
  abbrev pub fed_with : List ℕ → List (List ℕ × E) → List E
  fed_with key fed = map (λ x. x.1) (filter (λ x. bytes_eq x.0 key) fed)

  pub rising_with_fed : (add : E → E → E) (store : ℕ) (fed : List (List ℕ × E)) (parts : List (KeyBytes × E)) → IsTrue (is_sorted key_order parts) → IsTrue (is_sorted key_order (with_fed add store fed parts))
  rising_with_fed add store [] parts up = up
  rising_with_fed add store (x ∷ fed) parts up =
      rising_with_fed add store fed (add_to key_order add (key_at store x.0) x.1 parts) (is_true _ (sorted_add_to key_order key_order_total add (key_at store x.0) x.1 parts (truly _ up)))

  pub rising_below : (add : ℕ → E → E → E) (fed : ℕ → List (List ℕ × E)) (n : ℕ) → IsTrue (is_sorted key_order (parts_below add fed n))
  rising_below add fed zero = refl
  rising_below add fed (suc n) = rising_with_fed (add n) n (fed n) (parts_below add fed n) (rising_below add fed n)

  module _ (add : E → E → E) where
    -- at its key, parts have the sum; at every other key what they had
    found_added : (q key : KeyBytes) (value : E) (parts : List (KeyBytes × E)) → IsTrue (is_sorted key_order parts)
        → find key_order q (add_to key_order add key value parts) ≡ cond (same_key q key) (Some (plus_onto add (find key_order q parts) value)) (find key_order q parts)
    found_added q key value parts up =
        find_add_to key_order key_order_total add q key value parts (truly _ up)
        ∙ elim (same_key q key) as (λ b. same_key q key ≡ b → cond b (Some (plus_onto add (find key_order key parts) value)) (find key_order q parts) ≡ cond b (Some (plus_onto add (find key_order q parts) value)) (find key_order q parts)) [
          | true ↦ λ e. ap (λ x. Some (plus_onto add x value)) (find_tied key_order key_order_total q key (equal _ e) parts)
          | false ↦ λ e. refl
        ] refl

    sum_next : (key : List ℕ) (done : List (List ℕ × E)) (x : List ℕ × E)
        → sum_of add (fed_with key (done ++ x ∷ [])) ≡ cond (bytes_eq x.0 key) (Some (plus_onto add (sum_of add (fed_with key done)) x.1)) (sum_of add (fed_with key done))
    sum_next key done x =
        ap (λ xs. sum_of add (map (λ (y : List ℕ × E). y.1) xs)) (filter-append (λ (y : List ℕ × E). bytes_eq y.0 key) done (x ∷ []))
        ∙ (ap (sum_of add) (map-append (λ (y : List ℕ × E). y.1) (filter (λ y. bytes_eq y.0 key) done) (cond (bytes_eq x.0 key) (x ∷ []) []))
        ∙ elim (bytes_eq x.0 key) as (λ b. sum_of add (fed_with key done ++ map (λ (y : List ℕ × E). y.1) (cond b (x ∷ []) [])) ≡ cond b (Some (plus_onto add (sum_of add (fed_with key done)) x.1)) (sum_of add (fed_with key done))) [
          | true ↦ sum_last add (fed_with key done) x.1 ∙ both_some add (sum_of add (fed_with key done)) x.1
          | false ↦ ap (sum_of add) (append-nil (fed_with key done))
        ])

    -- a key of the store has the sum of what is fed with it
    found_with : (store : ℕ) (key : List ℕ) (done fed : List (List ℕ × E)) (parts : List (KeyBytes × E)) → IsTrue (is_sorted key_order parts) → find key_order (key_at store key) parts ≡ sum_of add (fed_with key done)
        → find key_order (key_at store key) (with_fed add store fed parts) ≡ sum_of add (fed_with key (done ++ fed))
    found_with store key done [] parts up h = h ∙ ap (λ xs. sum_of add (fed_with key xs)) (sym (append-nil done))
    found_with store key done (x ∷ fed) parts up h =
        found_with store key (done ++ x ∷ []) fed (add_to key_order add (key_at store x.0) x.1 parts) (is_true _ (sorted_add_to key_order key_order_total add (key_at store x.0) x.1 parts (truly _ up)))
        (found_added (key_at store key) (key_at store x.0) x.1 parts up
        ∙ (ap_both (λ b s. cond b (Some (plus_onto add s x.1)) s) (ties_by_text store key x.0) h ∙ sym (sum_next key done x)))
        ∙ ap (λ xs. sum_of add (fed_with key xs)) (append_assoc done (x ∷ []) fed)

    -- a key of another store has what it had
    others_kept : (s store : ℕ) (key : List ℕ) (fed : List (List ℕ × E)) (parts : List (KeyBytes × E)) → s ≢ store → IsTrue (is_sorted key_order parts)
        → find key_order (key_at s key) (with_fed add store fed parts) ≡ find key_order (key_at s key) parts
    others_kept s store key [] parts other up = refl
    others_kept s store key (x ∷ fed) parts other up =
        others_kept s store key fed (add_to key_order add (key_at store x.0) x.1 parts) other (is_true _ (sorted_add_to key_order key_order_total add (key_at store x.0) x.1 parts (truly _ up)))
        ∙ (found_added (key_at s key) (key_at store x.0) x.1 parts up ∙ ap (λ b. cond b (Some (plus_onto add (find key_order (key_at s key) parts) x.1)) (find key_order (key_at s key) parts)) (apart s store key x.0 other))

  module _ (add : ℕ → E → E → E) (fed : ℕ → List (List ℕ × E)) where
    nothing_later : (n s : ℕ) → n ≤ s → (key : List ℕ) → find key_order (key_at s key) (parts_below add fed n) ≡ None
    nothing_later zero s h key = refl
    nothing_later (suc n) s h key = others_kept (add n) s n key (fed n) (parts_below add fed n) (λ e. absurd (omega (arith, h, e))) (rising_below add fed n) ∙ nothing_later n s (omega (arith, h)) key

    below_next : (s n : ℕ) → s < suc n → (s ≡ n) ⊎ (s < n)
    below_next zero zero h = inl refl
    below_next zero (suc n) h = inr (omega arith)
    below_next (suc s) zero h = absurd (omega (arith, h))
    below_next (suc s) (suc n) h = later (below_next s n (omega (arith, h)))
      where
        later : (s ≡ n) ⊎ (s < n) → (suc s ≡ suc n) ⊎ (suc s < suc n)
        later (inl e) = inl (ap suc e)
        later (inr l) = inr (omega (arith, l))

    -- a key has the sum of what is fed to its store with it
    pub found_below : (n s : ℕ) → s < n → (key : List ℕ) → find key_order (key_at s key) (parts_below add fed n) ≡ sum_of (add s) (fed_with key (fed s))
    found_below zero s h key = absurd (omega (arith, h))
    found_below (suc n) s h key = next (found_below n s) (below_next s n h)
      where
        next : (s < n → (key : List ℕ) → find key_order (key_at s key) (parts_below add fed n) ≡ sum_of (add s) (fed_with key (fed s))) → (s ≡ n) ⊎ (s < n)
            → find key_order (key_at s key) (parts_below add fed (suc n)) ≡ sum_of (add s) (fed_with key (fed s))
        next before (inl e) = subst (λ s. find key_order (key_at s key) (parts_below add fed (suc n)) ≡ sum_of (add s) (fed_with key (fed s))) (sym e)
            (found_with (add n) n key [] (fed n) (parts_below add fed n) (rising_below add fed n) (nothing_later n n (omega arith) key))
        next before (inr l) = others_kept (add n) s n key (fed n) (parts_below add fed n) (λ e. absurd (omega (arith, l, e))) (rising_below add fed n) ∙ before l key

-- ---- folds at one position

module _ (F : Logged → List (List ℕ × Agg)) (key : List ℕ) where
  abbrev G : Logged → List Agg
  G r = fed_with key (F r)

  placed_of_key : (p : ℕ) (xs : List (List ℕ × Agg)) (rest : List (Emission Agg)) → of_key key (map emission_at (placed p xs) ++ rest) ≡ placed p (fed_with key xs) ++ of_key key rest
  placed_of_key p [] rest = refl
  placed_of_key p (x ∷ xs) rest =
      elim (bytes_eq x.0 key) as (λ b. map (λ (e : Emission Agg). (e.position, e.value)) (cond b (emission_at (p, x) ∷ filter (λ e. bytes_eq e.key key) (map emission_at (placed p xs) ++ rest)) (filter (λ e. bytes_eq e.key key) (map emission_at (placed p xs) ++ rest)))
      ≡ placed p (map (λ (y : List ℕ × Agg). y.1) (cond b (x ∷ filter (λ y. bytes_eq y.0 key) xs) (filter (λ y. bytes_eq y.0 key) xs))) ++ of_key key rest) [
        | true ↦ ap (λ l. (p, x.1) ∷ l) (placed_of_key p xs rest)
        | false ↦ placed_of_key p xs rest
      ]

  pub key_by_record : (log : List Logged) → of_key key (map emission_at (by_record F log)) ≡ by_record G log
  key_by_record [] = refl
  key_by_record (r ∷ log) =
      ap (of_key key) (map-append emission_at (placed r.position (F r)) (by_record F log))
      ∙ (placed_of_key r.position (F r) (map emission_at (by_record F log)) ∙ ap (λ l. placed r.position (G r) ++ l) (key_by_record log))

  here : (p i : ℕ) (vs : List Agg) (rest : List (ℕ × Agg)) → (p == i) ≡ true → filter (λ x. x.0 == i) (placed p vs ++ rest) ≡ placed p vs ++ filter (λ x. x.0 == i) rest
  here p i [] rest e = refl
  here p i (v ∷ vs) rest e = ap (λ b. cond b ((p, v) ∷ filter (λ x. x.0 == i) (placed p vs ++ rest)) (filter (λ x. x.0 == i) (placed p vs ++ rest))) e ∙ ap (λ l. (p, v) ∷ l) (here p i vs rest e)

  elsewhere : (p i : ℕ) (vs : List Agg) (rest : List (ℕ × Agg)) → (p == i) ≡ false → filter (λ x. x.0 == i) (placed p vs ++ rest) ≡ filter (λ x. x.0 == i) rest
  elsewhere p i [] rest e = refl
  elsewhere p i (v ∷ vs) rest e = ap (λ b. cond b ((p, v) ∷ filter (λ x. x.0 == i) (placed p vs ++ rest)) (filter (λ x. x.0 == i) (placed p vs ++ rest))) e ∙ elsewhere p i vs rest e

  -- behind a position nothing stands at it
  none_at : (i k : ℕ) (log : List Logged) → i < k → HavePlaces k log → filter (λ x. x.0 == i) (by_record G log) ≡ []
  none_at i k [] less h = refl
  none_at i k (r ∷ log) less h = elsewhere r.position i (G r) (by_record G log) (let at = h.0 in grind (arith, nat_tests)) ∙ none_at i (suc k) log (omega (arith, less)) h.1

  values_placed : (p : ℕ) (vs : List Agg) → map (λ x. x.1) (placed p vs) ≡ vs
  values_placed p [] = refl
  values_placed p (v ∷ vs) = ap (λ l. v ∷ l) (values_placed p vs)

  -- a key that has in each record the sum of what is fed with it has the folds at its positions
  from_place : (add : Agg → Agg → Agg) (q : KeyBytes) (records : Logged → Record Agg) (k : ℕ) (log : List Logged) → ((r : Logged) → find key_order q (records r).parts ≡ sum_of add (G r)) → HavePlaces k log
      → AreFound q (λ j. fold_over add (by_record G log) (λ p. p == k + j)) (map records log)
  from_place add q records k [] has h = tt
  from_place add q records k (r ∷ log) has h =
      let at : (r.position == k + 0) ≡ true = (let same = h.0 in grind (arith, nat_tests)) in
      let less : k + 0 < suc k = omega arith in (
        has r
            ∙ (ap (sum_of add) (sym (values_placed r.position (G r)))
            ∙ ap (λ xs. sum_of add (map (λ (x : ℕ × Agg). x.1) xs))
            (sym (here r.position (k + 0) (G r) (by_record G log) at ∙ (ap (λ l. placed r.position (G r) ++ l) (none_at (k + 0) (suc k) log less h.1) ∙ append-nil (placed r.position (G r)))))),
        found_as q (λ j. fold_over add (by_record G log) (λ p. p == suc k + j)) (λ j. fold_over add (by_record G (r ∷ log)) (λ p. p == k + suc j)) (map records log)
            (λ j. ap (λ xs. sum_of add (map (λ (x : ℕ × Agg). x.1) xs))
            (let other : (r.position == k + suc j) ≡ false = (let same = h.0 in grind (arith, nat_tests)) in
            ap (λ i. filter (λ (x : ℕ × Agg). x.0 == i) (by_record G log)) (omega arith) ∙ sym (elsewhere r.position (k + suc j) (G r) (by_record G log) other)))
            (from_place add q records (suc k) log has h.1),
      )

  -- and so for the emissions
  pub found_by_record : (add : Agg → Agg → Agg) (q : KeyBytes) (records : Logged → Record Agg) (log : List Logged) → ((r : Logged) → find key_order q (records r).parts ≡ sum_of add (G r)) → HavePlaces 0 log
      → AreFound q (λ i. fold_of add (map emission_at (by_record F log)) key (λ p. p == i)) (map records log)
  found_by_record add q records log has h =
      found_as q (λ j. fold_over add (by_record G log) (λ p. p == 0 + j)) (λ i. fold_of add (map emission_at (by_record F log)) key (λ p. p == i)) (map records log)
      (λ i. ap (λ k. fold_over add (by_record G log) (λ p. p == k)) (omega arith) ∙ ap (λ xs. fold_over add xs (λ p. p == i)) (sym (key_by_record log)))
      (from_place add q records 0 log has h)
