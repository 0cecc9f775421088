-- A runner's records are those of its log, and its folds those of what is emitted.
use Rattle.std.proofs.Common.{◌≡◌, ◌∙◌, ◌⊎◌, inl, inr, ℕ, zero, suc, ◌+◌, ◌<◌, ◌≤◌, Bool, true, false, ◌&&◌, List, [], ◌∷◌, ◌++◌, map, length, Option, Some, None, refl, sym, ap, subst, arith}
use Rattle.std.specs.Prelude.{◌==◌, slice_get, slice_index_or, option_map, unwrap_or}
use Rattle.std.specs.FinMap.{find}
use Rattle.std.specs.List.{AllByRecursion}
use Rattle.std.proofs.lemmas.List.{length-map}
use Rattle.std.proofs.lemmas.Option.{slice_get-map}
use Rattle.std.proofs.lemmas.Bool.Decides.{nat_tests}
use Rattle.sb_laws.specs.Folds.{fold_over}
use Rattle.sb_laws.specs.Sums.{CommutingLaws}
use Rattle.sb_check.specs.Admission.{all_commute}
use Rattle.sb_check.specs.Declarations.{Store}
use Rattle.sb_check.specs.Log.{HavePlaces, Logged, is_batch}
use Rattle.sb_check.specs.Programs.{CheckedProgram}
use Rattle.sb_feed.specs.Feeds.{parts_of, parts_at}
use Rattle.sb_feed.specs.Jobs.{Record, Dictionaries, IsRecord, add_by, valid_by, values_from}
use Rattle.sb_feed.specs.Keys.{key_order}
use Rattle.sb_feed.specs.Limits.{last_batch}
use Rattle.sb_kind.specs.Elements.{IsOf, plus}
use Rattle.sb_kind.specs.KindLaws.{keeps, associates, any_order}
use Rattle.sb_kind.specs.Monoids.{commutes}
use Rattle.sb_kind.specs.declared.agg.Agg.{Agg}
use Rattle.sb_kind.specs.declared.dictionary.OnlineM.{OnlineM}
use Rattle.sb_meaning.specs.Emissions.{monoid_in, monoid_at}
use Rattle.sb_service.specs.Rows.{Rows}
use Rattle.sb_plan.specs.Emitted.{Emission, of_key, fold_of}
use Rattle.sb_plan.specs.Entries.{entry_record}
use Rattle.sb_plan.specs.declared.parts.Entry.{Entry}
use Rattle.sb_types.specs.Value.{Value}
use Rattle.sb_plan.specs.Given.{Planned, feeding_of, planned, let_values, fed_by, fed_at}
use Rattle.sb_plan.specs.Plans.{is_fed}
use Rattle.sb_plan.specs.Parts.{key_at, record_in, IsFed}
use Rattle.sb_plan.specs.Runners.{StoresValue, AreStores, Runs, batch_in, online_monoid, online_add, online_valid, plus_at, valid_at}
use Rattle.sb_plan.proofs.Folded.{folds_same}
use Rattle.sb_plan.proofs.ByRecord.{placed, by_record, emission_at, emitted_by_record}
use Rattle.sb_plan.proofs.Found.{AreRising, AreFound, found_at, rising_below, found_below, found_by_record}
use Rattle.sb_plan.proofs.Kept.{all_of_key}
use Rattle.sb_plan.proofs.Placing.{record_at}

-- ---- the dictionaries

monoid_same : (o : Option Store) (m : OnlineM) → Some (online_monoid m) ≡ option_map (λ s. s.monoid) o → online_monoid m ≡ monoid_in o
monoid_same None m e = cc
monoid_same (Some s) m e = ap (λ x. unwrap_or x s.monoid) e

-- the dictionary of a store is that of its monoid
pub same_monoid : (c : CheckedProgram) (stores : StoresValue OnlineM) (store : ℕ) (m : OnlineM) → AreStores c online_monoid stores → slice_get stores.monoids store ≡ Some m → online_monoid m ≡ monoid_at c store
same_monoid c stores store m h at =
    monoid_same (slice_get c.declared.stores store) m
    (sym (ap (option_map online_monoid) at) ∙ (sym (slice_get-map online_monoid stores.monoids store) ∙ (ap (λ ms. slice_get ms store) h.monoids ∙ slice_get-map (λ (s : Store). s.monoid) c.declared.stores store)))

dictionary_at : (monoids : List OnlineM) (store : ℕ) → store < length monoids → (m : OnlineM) × (slice_get monoids store ≡ Some m)
dictionary_at [] store h = absurd (omega (arith, h))
dictionary_at (m ∷ monoids) zero h = (m, refl)
dictionary_at (m ∷ monoids) (suc store) h = dictionary_at monoids store (omega (arith, h))

pub same_plus : (c : CheckedProgram) (stores : StoresValue OnlineM) (store : ℕ) → AreStores c online_monoid stores → store < length stores.monoids → add_by online_add (slice_get stores.monoids store) ≡ plus_at c store
same_plus c stores store h there =
    let m = dictionary_at stores.monoids store there in
    ap (add_by online_add) m.1 ∙ ap plus (same_monoid c stores store m.0 h m.1)

pub same_valid : (c : CheckedProgram) (stores : StoresValue OnlineM) (store : ℕ) → AreStores c online_monoid stores → store < length stores.monoids → valid_by online_valid (slice_get stores.monoids store) ≡ valid_at c store
same_valid c stores store h there =
    let m = dictionary_at stores.monoids store there in
    ap (valid_by online_valid) m.1 ∙ ap IsOf (same_monoid c stores store m.0 h m.1)

pub same_count : (c : CheckedProgram) (stores : StoresValue OnlineM) → AreStores c online_monoid stores → length stores.monoids ≡ length c.declared.stores
same_count c stores h = sym (length-map stores.monoids online_monoid) ∙ (ap length h.monoids ∙ length-map c.declared.stores (λ (s : Store). s.monoid))

commuting_in : (stores : List Store) (n : ℕ) → all_commute stores ≡ true → commutes (monoid_in (slice_get stores n)) ≡ true
commuting_in [] n h = refl
commuting_in (s ∷ stores) zero h = left (commutes s.monoid) (all_commute stores) h
  where
    left : (a b : Bool) → (a && b) ≡ true → a ≡ true
    left true b e = refl
    left false b e = e
commuting_in (s ∷ stores) (suc n) h = commuting_in stores n (right (commutes s.monoid) (all_commute stores) h)
  where
    right : (a b : Bool) → (a && b) ≡ true → b ≡ true
    right true b e = e
    right false b e = cc

store_laws : (c : CheckedProgram) → all_commute c.declared.stores ≡ true → (store : ℕ) → CommutingLaws (valid_at c store) (plus_at c store)
store_laws c h store =
    let m = monoid_at c store in
    record {
      semigroup = record { keeps_valid = keeps m; associates = associates m };
      commutes = any_order m (commuting_in c.declared.stores store h);
    }

-- ---- the records

pub in_limit : (o : Option ℕ) → is_batch o ≡ true → unwrap_or o 0 ≤ last_batch
in_limit None h = cc
in_limit (Some batch) h = grind (arith, nat_tests)

-- the parts of a record at its place
pub parts_there : (records : List (Record Agg)) (i : ℕ) (r : Record Agg) → i < length records → r ≡ slice_index_or records i r → parts_of r ≡ parts_at records i
parts_there [] i r h e = absurd (omega (arith, h))
parts_there (x ∷ records) zero r h e = ap parts_of e
parts_there (x ∷ records) (suc i) r h e = parts_there records i r (omega (arith, h)) e

pub limit_there : (d : Dictionaries Agg) (entries : List (Entry Agg)) (i : ℕ) (entry : Entry Agg) → i < length (map entry_record entries) → entry ≡ slice_index_or entries i entry → AllByRecursion (IsRecord d) (map entry_record entries)
    → entry.batch ≤ last_batch
limit_there d entries i entry h e records = (record_at (IsRecord d) entries i entry (subst (λ n. i < n) (length-map entries entry_record) h) e records).batch

-- the batches of records are within the limit
pub few_batches : (d : Dictionaries Agg) (records : List (Record Agg)) → AllByRecursion (IsRecord d) records → AllByRecursion (λ r. r.batch ≤ last_batch) records
few_batches d [] h = tt
few_batches d (r ∷ records) h = (h.0.batch, few_batches d records h.1)

-- ---- one store more

pub more_hold : (V : ℕ → Type 0) (n : ℕ) → ((s : ℕ) → s < n → V s) → V n → (s : ℕ) → s < n + 1 → V s
more_hold V n h one s less = by (split s n (omega (arith, less)))
  where
    split : (s n : ℕ) → s ≤ n → (s < n) ⊎ (n ≡ s)
    split zero zero l = inr refl
    split zero (suc n) l = inl (omega arith)
    split (suc s) zero l = absurd (omega (arith, l))
    split (suc s) (suc n) l = later (split s n (omega (arith, l)))
      where
        later : (s < n) ⊎ (n ≡ s) → (suc s < suc n) ⊎ (suc n ≡ suc s)
        later (inl k) = inl (omega (arith, k))
        later (inr e) = inr (ap suc e)

    by : (s < n) ⊎ (n ≡ s) → V s
    by (inl k) = h s k
    by (inr e) = subst V e one

-- ---- what is fed to one store

is_fed_valid : (o : Option Store) (x : List ℕ × Agg) → is_fed (option_map feeding_of o) x → IsOf (monoid_in o) x.1
is_fed_valid None x h = absurd h
is_fed_valid (Some s) x h = h

all_fed_valid : (o : Option Store) (xs : List (List ℕ × Agg)) → AllByRecursion (is_fed (option_map feeding_of o)) xs → AllByRecursion (λ x. IsOf (monoid_in o) x.1) xs
all_fed_valid o [] h = tt
all_fed_valid o (x ∷ xs) h = (is_fed_valid o x h.0, all_fed_valid o xs h.1)

module _ (c : CheckedProgram) (services : List Rows) (r : Logged) (store : ℕ) (p : Planned) (is : p ≡ planned c) where
  pub fed_same : (lets : List (List Value)) → lets ≡ let_values (planned c) r services → fed_by (slice_get p.stores store) r services lets ≡ fed_at (planned c) services store r
  fed_same lets e = ap (λ q. fed_by (slice_get q.stores store) r services lets) is ∙ ap (fed_by (slice_get (planned c).stores store) r services) e

  pub fed_valid : (xs : List (List ℕ × Agg)) → AllByRecursion (is_fed (slice_get p.stores store)) xs → AllByRecursion (λ x. valid_at c store x.1) xs
  fed_valid xs h =
      all_fed_valid (slice_get c.declared.stores store) xs
      (subst (λ o. AllByRecursion (is_fed o) xs) (ap (λ q. slice_get q.stores store) is ∙ slice_get-map feeding_of c.declared.stores store) h)

-- ---- the whole

placed_valid : (V : Agg → Type 0) (p : ℕ) (xs : List (List ℕ × Agg)) (rest : List (ℕ × (List ℕ × Agg))) → AllByRecursion (λ x. V x.1) xs → AllByRecursion (λ e. V e.value) (map emission_at rest)
    → AllByRecursion (λ e. V e.value) (map emission_at (placed p xs ++ rest))
placed_valid V p [] rest h r = r
placed_valid V p (x ∷ xs) rest h r = (h.0, placed_valid V p xs rest h.1 r)

-- what is emitted is valid where all that is fed is
record_valid : (V : Agg → Type 0) (F : Logged → List (List ℕ × Agg)) (log : List Logged) → AllByRecursion (λ r. AllByRecursion (λ x. V x.1) (F r)) log → AllByRecursion (λ e. V e.value) (map emission_at (by_record F log))
record_valid V F [] h = tt
record_valid V F (r ∷ log) h = placed_valid V r.position (F r) (by_record F log) h.0 (record_valid V F log h.1)

placed_within : (n p : ℕ) (xs : List (List ℕ × Agg)) (rest : List (ℕ × (List ℕ × Agg))) → p < n → AllByRecursion (λ e. e.position < n) (map emission_at rest) → AllByRecursion (λ e. e.position < n) (map emission_at (placed p xs ++ rest))
placed_within n p [] rest h r = r
placed_within n p (x ∷ xs) rest h r = (h, placed_within n p xs rest h r)

-- emissions stand at records of the log
record_within : (F : Logged → List (List ℕ × Agg)) (i n : ℕ) (log : List Logged) → HavePlaces i log → i + length log ≤ n → AllByRecursion (λ e. e.position < n) (map emission_at (by_record F log))
record_within F i n [] h le = tt
record_within F i n (r ∷ log) h le = placed_within n r.position (F r) (by_record F log) (omega (arith, h.0, le)) (record_within F (suc i) n log h.1 (omega (arith, le)))

all_rising : (c : CheckedProgram) (services : List Rows) (log : List Logged) → AreRising (map (record_in c services) log)
all_rising c services [] = tt
all_rising c services (r ∷ log) = (rising_below (plus_at c) (λ store. fed_at (planned c) services store r) (length (planned c).stores), all_rising c services log)

all_batches : (c : CheckedProgram) (services : List Rows) (log : List Logged) → map (λ r. r.batch) (map (record_in c services) log) ≡ map (batch_in c) log
all_batches c services [] = refl
all_batches c services (r ∷ log) = ap (λ l. batch_in c r ∷ l) (all_batches c services log)

-- what holds of all that records feed to a store
pub fed_to : (c : CheckedProgram) (services : List Rows) (store : ℕ) (log : List Logged) → store < length c.declared.stores → AllByRecursion (IsFed c services) log
    → AllByRecursion (λ r. AllByRecursion (λ x. valid_at c store x.1) (fed_at (planned c) services store r)) log
fed_to c services store [] there h = tt
fed_to c services store (r ∷ log) there h = (h.0 store there, fed_to c services store log there h.1)

module _ (c : CheckedProgram) (log : List Logged) (services : List Rows) (stores : StoresValue OnlineM) (records : List (Record Agg))
    (are_stores : AreStores c online_monoid stores) (is : records ≡ map (record_in c services) log)
    (places : HavePlaces 0 log) (commute : all_commute c.declared.stores ≡ true)
    (valid : AllByRecursion (IsFed c services) log) where
  abbrev made : List (Record Agg)
  made = map (record_in c services) log

  abbrev due : ℕ → List (Emission Agg)
  due store = map emission_at (by_record (fed_at (planned c) services store) log)

  count : length (planned c).stores ≡ length c.declared.stores
  count = length-map c.declared.stores feeding_of

  found : (store : ℕ) → store < length c.declared.stores → (key : List ℕ) → AreFound (key_at store key) (λ i. fold_of (plus_at c store) (due store) key (λ p. p == i)) made
  found store there key =
      found_by_record (fed_at (planned c) services store) key (plus_at c store) (key_at store key) (record_in c services) log
      (λ r. found_below (plus_at c) (λ s. fed_at (planned c) services s r) (length (planned c).stores) store (omega (arith, there, count)) key) places

  pub runs : Runs c log services (record { stores = stores; records = records })
  runs = subst (λ rs. Runs c log services (record { stores = stores; records = rs })) (sym is) (record {
    stores = are_stores;
    batches = all_batches c services log;
    parts = λ i r at store there key.
        subst (λ es. find key_order (key_at store key) r.parts ≡ fold_of (plus_at c store) es key (λ p. p == i)) (sym (emitted_by_record c log services store places)) (found_at (key_at store key) _ made (found store there key) i r at);
    folds = λ store there key passes.
        subst (λ es. fold_over (plus_at c store) (values_from (key_at store key) 0 made) passes ≡ fold_of (plus_at c store) es key passes) (sym (emitted_by_record c log services store places))
        (folds_same (valid_at c store) (plus_at c store) (store_laws c commute store) (key_at store key) (of_key key (due store))
        (all_of_key (λ x. valid_at c store x.1) key (due store) (record_valid (valid_at c store) (fed_at (planned c) services store) log (fed_to c services store log there valid))) passes made
        (all_rising c services log) (found store there key)
        (all_of_key (λ x. x.0 < length made) key (due store) (record_within (fed_at (planned c) services store) 0 (length made) log places (omega (arith, length-map log (record_in c services))))));
  })
