-- The parts of the records at positions: their values by key, and that they are valid.
use Rattle.std.proofs.Common.{◌≡◌, ℕ, zero, suc, ◌+◌, ◌<◌, ◌≤◌, Bool, true, false, cond, List, [], ◌∷◌, ◌++◌, length, map, filter, refl, sym, ap, ◌∙◌, arith, append-nil}
use Rattle.std.specs.Prelude.{slice_index, slice_index_or, take}
use Rattle.std.specs.List.{AllByRecursion, flat_map}
use Rattle.std.proofs.lemmas.List.{map-append, take_more}
use Rattle.std.proofs.lemmas.List.Concat.{flat_map-append}
use Rattle.std.proofs.lemmas.List.Elements.{filter-append}
use Rattle.sb_laws.specs.Sums.{sum_of}
use Rattle.sb_laws.specs.Folds.{fold_over}
use Rattle.sb_laws.specs.Tables.{values_at}
use Rattle.sb_laws.proofs.Positions.{ap_both}
use Rattle.sb_feed.specs.declared.key.KeyBytes.{KeyBytes}
use Rattle.sb_feed.specs.declared.parts.Part.{Part}
use Rattle.sb_feed.specs.Feeds.{parts_of, parts_at}
use Rattle.sb_feed.specs.Index.{positions_from}
use Rattle.sb_feed.specs.Jobs.{Record, Dictionaries, AreValid, IsRecord, values_from}
use Rattle.sb_feed.specs.Keys.{key_order, same_key}
use Rattle.sb_feed.specs.Stands.{batch_value, key_values, keyed_values}
use Rattle.sb_feed.proofs.PartSums.{values_append, keyed_append}
use Rattle.sb_job.specs.Emitted.{parts_where}
use Rattle.sb_job.specs.Sums.{key_sum}

module _ {E : Type 0} where
  -- the records have these batches, the first being that of position i
  abbrev pub HaveBatches : (ℕ → ℕ) → ℕ → List (Record E) → Type 0
  HaveBatches b i [] = Unit {0}
  HaveBatches b i (r ∷ records) = (b i ≡ r.batch) × HaveBatches b (suc i) records

  of_record : (key : KeyBytes) (batch i : ℕ) (parts : List (KeyBytes × E)) → key_values key (map (λ (part : KeyBytes × E). record { key = part.0; batch = batch; value = part.1 }) parts)
      ≡ map (λ value. (batch, value)) (values_at key_order key parts)
  of_record key batch i [] = refl
  of_record key batch i (part ∷ parts) = elim (same_key key part.0) as (λ b. map batch_value (cond b (record { key = part.0; batch = batch; value = part.1 } ∷ filter (λ (x : Part E). same_key key x.key) (map (λ (x : KeyBytes × E). record { key = x.0; batch = batch; value = x.1 }) parts)) (filter (λ (x : Part E). same_key key x.key) (map (λ (x : KeyBytes × E). record { key = x.0; batch = batch; value = x.1 }) parts)))
      ≡ map (λ value. (batch, value)) (map (λ (x : KeyBytes × E). x.1) (cond b (part ∷ filter (λ x. same_key key x.0) parts) (filter (λ x. same_key key x.0) parts)))) [
        | true ↦ ap (λ l. (batch, part.1) ∷ l) (of_record key batch i parts)
        | false ↦ of_record key batch i parts
      ]

  onto_placed : (passes : ℕ → Bool) (b : ℕ → ℕ) (i : ℕ) (v : E) (values : List E) (rest : List (ℕ × E)) (t : Bool)
      → cond t (map {B = ℕ × E} (λ value. (b i, value)) values) [] ≡ map {B = ℕ × E} (λ (x : ℕ × E). (b x.0, x.1)) rest
      → cond t (map {B = ℕ × E} (λ value. (b i, value)) (v ∷ values)) [] ≡ map {B = ℕ × E} (λ (x : ℕ × E). (b x.0, x.1)) (cond t ((i, v) ∷ rest) rest)
  onto_placed passes b i v values rest true h = ap (λ l. (b i, v) ∷ l) h
  onto_placed passes b i v values rest false h = h

  placed : (passes : ℕ → Bool) (b : ℕ → ℕ) (i : ℕ) (values : List E)
      → cond (passes i) (map {B = ℕ × E} (λ value. (b i, value)) values) [] ≡ map {B = ℕ × E} (λ (x : ℕ × E). (b x.0, x.1)) (filter (λ x. passes x.0) (map (λ value. (i, value)) values))
  placed passes b i [] = either (passes i)
    where
      either : (t : Bool) → cond {A = List (ℕ × E)} t [] [] ≡ []
      either true = refl
      either false = refl
  placed passes b i (v ∷ values) = onto_placed passes b i v values (filter (λ x. passes x.0) (map (λ value. (i, value)) values)) (passes i) (placed passes b i values)

  if_record : (key : KeyBytes) (r : Record E) (t : Bool) → key_values key (cond t (parts_of r) []) ≡ cond t (map {B = ℕ × E} (λ value. (r.batch, value)) (values_at key_order key r.parts)) []
  if_record key r true = of_record key r.batch 0 r.parts
  if_record key r false = refl

  here : (key : KeyBytes) (passes : ℕ → Bool) (b : ℕ → ℕ) (i : ℕ) (r : Record E) → b i ≡ r.batch
      → key_values key (cond (passes i) (parts_of r) []) ≡ map (λ (x : ℕ × E). (b x.0, x.1)) (filter (λ x. passes x.0) (map (λ value. (i, value)) (values_at key_order key r.parts)))
  here key passes b i r batch =
      if_record key r (passes i)
      ∙ (ap (λ n. cond (passes i) (map {B = ℕ × E} (λ value. (n, value)) (values_at key_order key r.parts)) []) (sym batch) ∙ placed passes b i (values_at key_order key r.parts))

  -- the values of a key in the parts at the positions that pass
  pub values_where : (key : KeyBytes) (passes : ℕ → Bool) (b : ℕ → ℕ) (i : ℕ) (records : List (Record E)) → HaveBatches b i records
      → key_values key (parts_where passes i records) ≡ map (λ (x : ℕ × E). (b x.0, x.1)) (filter (λ x. passes x.0) (values_from key i records))
  values_where key passes b i [] h = refl
  values_where key passes b i (r ∷ records) h =
      let first : List (ℕ × E) = map (λ value. (i, value)) (values_at key_order key r.parts) in
      let test : ℕ × E → Bool = λ x. passes x.0 in
      values_append key (cond (passes i) (parts_of r) []) (parts_where passes (suc i) records)
      ∙ (ap_both ◌++◌ (here key passes b i r h.0) (values_where key passes b (suc i) records h.1)
      ∙ (sym (map-append (λ (x : ℕ × E). (b x.0, x.1)) (filter test first) (filter test (values_from key (suc i) records)))
      ∙ ap (map (λ (x : ℕ × E). (b x.0, x.1))) (sym (filter-append test first (values_from key (suc i) records)))))

  batches_from : (b : ℕ → ℕ) (i : ℕ) (records : List (Record E)) → ((k : ℕ) → k < length records → b (i + k) ≡ slice_index (map (λ r. r.batch) records) k) → HaveBatches b i records
  batches_from b i [] h = tt
  batches_from b i (r ∷ records) h =
      (ap b (omega arith) ∙ h 0 (omega arith), batches_from b (suc i) records (λ k less. ap b (omega arith) ∙ h (suc k) (omega (arith, less))))

  -- the batch of each record of a log
  pub log_batches : (records : List (Record E)) → HaveBatches (slice_index (map (λ r. r.batch) records)) 0 records
  log_batches records = batches_from (slice_index (map (λ r. r.batch) records)) 0 records (λ k less. ap (slice_index (map (λ r. r.batch) records)) (omega arith))

  pub values_placed : (b : ℕ → ℕ) (xs : List (ℕ × E)) → map (λ (y : ℕ × E). y.1) (map {B = ℕ × E} (λ x. (b x.0, x.1)) xs) ≡ map (λ x. x.1) xs
  values_placed b [] = refl
  values_placed b (x ∷ xs) = ap (λ l. x.1 ∷ l) (values_placed b xs)

  onto_values : (part : Part E) (u : Bool) (xs : List (KeyBytes × E)) (ys : List (Part E)) → map (λ (x : KeyBytes × E). x.1) xs ≡ map (λ (x : ℕ × E). x.1) (map batch_value ys)
      → map (λ (x : KeyBytes × E). x.1) (cond u ((part.key, part.value) ∷ xs) xs) ≡ map (λ (x : ℕ × E). x.1) (map batch_value (cond u (part ∷ ys) ys))
  onto_values part true xs ys e = ap (λ l. part.value ∷ l) e
  onto_values part false xs ys e = e

  of_elements : (key : KeyBytes) (parts : List (Part E)) → values_at key_order key (keyed_values parts) ≡ map (λ (x : ℕ × E). x.1) (key_values key parts)
  of_elements key [] = refl
  of_elements key (part ∷ parts) = onto_values part (same_key key part.key) (filter (λ x. same_key key x.0) (keyed_values parts)) (filter (λ x. same_key key x.key) parts) (of_elements key parts)

  -- the sum of a key's parts, of the parts at the positions that pass
  pub key_sum_where : (d : Dictionaries E) (records : List (Record E)) (passes : ℕ → Bool) (key : KeyBytes) → key_sum d key (keyed_values (parts_where passes 0 records)) ≡ fold_over (d.add key.store) (values_from key 0 records) passes
  key_sum_where d records passes key =
      let b = slice_index (map (λ (r : Record E). r.batch) records) in
      ap (sum_of (d.add key.store)) (of_elements key (parts_where passes 0 records)
      ∙ (ap (map (λ (x : ℕ × E). x.1)) (values_where key passes b 0 records (log_batches records)) ∙ values_placed b (filter (λ x. passes x.0) (values_from key 0 records))))

  parts_of_valid : (d : Dictionaries E) (batch : ℕ) (parts : List (KeyBytes × E)) → AreValid d parts → AreValid d (keyed_values (map (λ (part : KeyBytes × E). record { key = part.0; batch = batch; value = part.1 }) parts))
  parts_of_valid d batch [] h = tt
  parts_of_valid d batch (part ∷ parts) h = (h.0, parts_of_valid d batch parts h.1)

  if_valid : (d : Dictionaries E) (r : Record E) (t : Bool) → IsRecord d r → AreValid d (keyed_values (cond t (parts_of r) []))
  if_valid d r true h = parts_of_valid d r.batch r.parts h.valid
  if_valid d r false h = tt

  pub where_valid : (d : Dictionaries E) (passes : ℕ → Bool) (i : ℕ) (records : List (Record E)) → AllByRecursion (IsRecord d) records → AreValid d (keyed_values (parts_where passes i records))
  where_valid d passes i [] h = tt
  where_valid d passes i (r ∷ records) h =
      keyed_append d (cond (passes i) (parts_of r) []) (parts_where passes (suc i) records) (if_valid d r (passes i) h.0) (where_valid d passes (suc i) records h.1)

  -- the parts of a record of the log are valid
  pub at_valid : (d : Dictionaries E) (i : ℕ) (records : List (Record E)) → AllByRecursion (IsRecord d) records → AreValid d (keyed_values (parts_at records i))
  at_valid d i [] h = tt
  at_valid d zero (r ∷ records) h = if_valid d r true h.0
  at_valid d (suc i) (r ∷ records) h = at_valid d i records h.1

  -- these are the parts of the records, the first being that of position i
  HaveParts : (ℕ → List (Part E)) → ℕ → List (Record E) → Type 0
  HaveParts at i [] = Unit {0}
  HaveParts at i (r ∷ records) = (at i ≡ parts_of r) × HaveParts at (suc i) records

  onto_parts : (at : ℕ → List (Part E)) (i : ℕ) (t : Bool) → flat_map at (cond t (i ∷ []) []) ≡ cond t (at i) []
  onto_parts at i true = append-nil (at i)
  onto_parts at i false = refl

  parts_there : (at : ℕ → List (Part E)) (b : ℕ → ℕ) (passes : ℕ → Bool) (i : ℕ) (records : List (Record E)) → HaveBatches b i records → HaveParts at i records
      → flat_map at (positions_from passes i (map (λ r. r.batch) records)) ≡ parts_where (λ k. passes (b k)) i records
  unfolding HaveParts
  parts_there at b passes i [] h k = refl
  parts_there at b passes i (r ∷ records) h k =
      flat_map-append at (cond (passes r.batch) (i ∷ []) []) (positions_from passes (suc i) (map (λ x. x.batch) records))
      ∙ ap_both ◌++◌ (onto_parts at i (passes r.batch) ∙ ap_both (λ n ps. cond (passes n) ps []) (sym h.0) k.0) (parts_there at b passes (suc i) records h.1 k.1)

  parts_from : (at : ℕ → List (Part E)) (i : ℕ) (records : List (Record E)) → ((k : ℕ) → k < length records → at (i + k) ≡ parts_at records k) → HaveParts at i records
  unfolding HaveParts
  parts_from at i [] h = tt
  parts_from at i (r ∷ records) h =
      (ap at (omega arith) ∙ h 0 (omega arith), parts_from at (suc i) records (λ k less. ap at (omega arith) ∙ h (suc k) (omega (arith, less))))

  -- the parts at the positions of the batches that pass
  pub parts_at_batches : (passes : ℕ → Bool) (records : List (Record E))
      → flat_map (parts_at records) (positions_from passes 0 (map (λ r. r.batch) records)) ≡ parts_where (λ i. passes (slice_index (map (λ r. r.batch) records) i)) 0 records
  parts_at_batches passes records =
      parts_there (parts_at records) (slice_index (map (λ r. r.batch) records)) passes 0 records (log_batches records)
      (parts_from (parts_at records) 0 records (λ k less. ap (parts_at records) (omega arith)))

  -- the batches of records are within the limit
  pub few_batches : (d : Dictionaries E) (records : List (Record E)) → AllByRecursion (IsRecord d) records → AllByRecursion (λ b. b ≤ 65535) (map (λ r. r.batch) records)
  few_batches d [] h = tt
  few_batches d (r ∷ records) h = (h.0.batch, few_batches d records h.1)

-- the values of one record's parts more
pub parts_next : {E : Type 0} (at : ℕ → List (Part E)) (n d : ℕ) (positions : List ℕ) → n < length positions
    → keyed_values (flat_map at (take (n + 1) positions)) ≡ keyed_values (flat_map at (take n positions)) ++ keyed_values (at (slice_index_or positions n d))
parts_next {E = E} at n d positions less =
    let f : Part E → KeyBytes × E = λ part. (part.key, part.value) in
    ap (λ l. map f (flat_map at l)) (take_more positions n d less)
    ∙ (ap (map f) (flat_map-append at (take n positions) (slice_index_or positions n d ∷ []) ∙ ap (λ l. flat_map at (take n positions) ++ l) (append-nil (at (slice_index_or positions n d))))
    ∙ map-append f (flat_map at (take n positions)) (at (slice_index_or positions n d)))

-- the values of the parts at positions are those at the first of them, and then those at the rest
pub parts_behind : {E : Type 0} (at : ℕ → List (Part E)) (first second positions : List ℕ) → positions ≡ first ++ second
    → keyed_values (flat_map at first) ++ keyed_values (flat_map at second) ≡ keyed_values (flat_map at positions)
parts_behind {E = E} at first second positions is =
    let f : Part E → KeyBytes × E = λ part. (part.key, part.value) in
    sym (map-append f (flat_map at first) (flat_map at second)) ∙ (ap (map f) (sym (flat_map-append at first second)) ∙ ap (λ l. map f (flat_map at l)) (sym is))

-- they are valid, where the log's records are
pub positions_valid : {E : Type 0} (d : Dictionaries E) (records : List (Record E)) → AllByRecursion (IsRecord d) records → (positions : List ℕ)
    → AreValid d (keyed_values (flat_map (parts_at records) positions))
positions_valid d records h [] = tt
positions_valid d records h (i ∷ positions) =
    keyed_append d (parts_at records i) (flat_map (parts_at records) positions) (at_valid d i records h) (positions_valid d records h positions)

-- behind nothing stands what is added alone
pub alone : {X : Type 0} (before more now : List X) → before ≡ [] → now ≡ before ++ more → now ≡ more
alone before more now none e = e ∙ ap (λ l. l ++ more) none
