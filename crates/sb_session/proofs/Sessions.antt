-- The parts that a session works stand for their chunks.
use Rattle.std.proofs.Common.{◌≡◌, ℕ, suc, ◌+◌, ◌<◌, ◌≤◌, Bool, true, false, cond, ◌&&◌, List, [], ◌∷◌, ◌++◌, length, map, filter, refl, sym, ap, subst, ◌∙◌, arith}
use Rattle.std.specs.Prelude.{◌==◌}
use Rattle.std.specs.List.{AllByRecursion}
use Rattle.sb_laws.specs.Sums.{sum_of}
use Rattle.sb_laws.specs.Folds.{fold_over}
use Rattle.sb_laws.specs.Tables.{values_at}
use Rattle.sb_feed.specs.declared.key.KeyBytes.{KeyBytes}
use Rattle.sb_feed.specs.declared.parts.Part.{Part}
use Rattle.sb_feed.specs.Jobs.{Record, CutLog, Dictionaries, AreValid, IsLogOf, places_of, values_from, log_values, log_fold}
use Rattle.sb_feed.specs.Places.{batch_at, chunk_at, is_in}
use Rattle.sb_feed.specs.Keys.{key_order}
use Rattle.sb_feed.specs.Stands.{sum_at, keyed_values, IsParcelOf}
use Rattle.sb_feed.proofs.PartSums.{fold_filter}
use Rattle.sb_job.specs.Parcels.{shard_parcel}
use Rattle.sb_job.specs.Emitted.{parts_where}
use Rattle.sb_job.proofs.Emitted.{log_batches, values_where, values_placed, where_valid}
use Rattle.sb_job.proofs.Shards.{parcel_for_shard}

filter_where : {A : Type 0} (s t : A → Bool) (xs : List A) → AllByRecursion (λ x. s x ≡ t x) xs → filter s xs ≡ filter t xs
filter_where s t [] h = refl
filter_where {A = A} s t (x ∷ xs) h = ap (λ (b : Bool). cond b (x ∷ filter s xs) (filter s xs)) h.0 ∙ ap (λ (l : List A). cond (t x) (x ∷ l) l) (filter_where s t xs h.1)

and_turn : (x y : Bool) → (x && y) ≡ (y && x)
and_turn true true = refl
and_turn true false = refl
and_turn false true = refl
and_turn false false = refl

module _ {E : Type 0} where
  of_one : (P : ℕ → Type 0) (i : ℕ) (values : List E) → P i → (xs : List (ℕ × E)) → AllByRecursion (λ x. P x.0) xs → AllByRecursion (λ x. P x.0) (map (λ value. (i, value)) values ++ xs)
  of_one P i [] p xs h = h
  of_one P i (v ∷ values) p xs h = (p, of_one P i values p xs h)

  -- what holds of each position of the log holds of those of a key's values
  positions : (P : ℕ → Type 0) (key : KeyBytes) (i : ℕ) (records : List (Record E)) → ((k : ℕ) → i ≤ k → k < i + length records → P k) → AllByRecursion (λ x. P x.0) (values_from key i records)
  positions P key i [] h = tt
  positions P key i (r ∷ records) h =
      of_one P i (values_at key_order key r.parts) (h i (omega arith) (omega arith)) (values_from key (suc i) records) (positions P key (suc i) records (λ k le less. h k (omega (arith, le)) (omega (arith, less))))

  -- tests that agree on the positions of the log
  pub fold_where : (add : E → E → E) (log : CutLog E) (key : KeyBytes) (s t : ℕ → Bool) → ((k : ℕ) → k < length log.records → s k ≡ t k) → fold_over add (log_values log key) s ≡ fold_over add (log_values log key) t
  fold_where add log key s t h =
      ap (λ l. sum_of add (map (λ (x : ℕ × E). x.1) l)) (filter_where (λ (x : ℕ × E). s x.0) (λ x. t x.0) (log_values log key) (positions (λ k. s k ≡ t k) key 0 log.records (λ k le less. h k (omega (arith, less)))))

  onto_filtered : (b : ℕ → ℕ) (x : ℕ × E) (u : Bool) (ys zs : List (ℕ × E)) → ys ≡ map {B = ℕ × E} (λ x. (b x.0, x.1)) zs → cond u ((b x.0, x.1) ∷ ys) ys ≡ map {B = ℕ × E} (λ x. (b x.0, x.1)) (cond u (x ∷ zs) zs)
  onto_filtered b x true ys zs e = ap (λ l. (b x.0, x.1) ∷ l) e
  onto_filtered b x false ys zs e = e

  filter_placed : (b : ℕ → ℕ) (t : ℕ → Bool) (xs : List (ℕ × E)) → filter (λ (y : ℕ × E). t y.0) (map {B = ℕ × E} (λ x. (b x.0, x.1)) xs) ≡ map {B = ℕ × E} (λ x. (b x.0, x.1)) (filter (λ x. t (b x.0)) xs)
  filter_placed b t [] = refl
  filter_placed b t (x ∷ xs) = onto_filtered b x (t (b x.0)) (filter (λ (y : ℕ × E). t y.0) (map {B = ℕ × E} (λ x. (b x.0, x.1)) xs)) (filter (λ x. t (b x.0)) xs) (filter_placed b t xs)

  -- the sum of a key's parts of a batch, of the parts at the positions that pass
  sum_where : (add : ℕ → E → E → E) (log : CutLog E) (passes : ℕ → Bool) (key : KeyBytes) (j : ℕ)
      → sum_at add key j (parts_where passes 0 log.records) ≡ log_fold add log key (λ i. passes i && (batch_at (places_of log) i == j))
  sum_where add log passes key j =
      let b = batch_at (places_of log) in
      let xs : List (ℕ × E) = filter (λ x. passes x.0) (log_values log key) in
      ap (λ l. fold_over (add key.store) l (λ n. n == j)) (values_where key passes b 0 log.records (log_batches log.records))
      ∙ (ap (λ l. sum_of (add key.store) (map (λ (x : ℕ × E). x.1) l)) (filter_placed b (λ n. n == j) xs)
      ∙ (ap (sum_of (add key.store)) (values_placed b (filter (λ x. b x.0 == j) xs))
      ∙ fold_filter (add key.store) passes (λ i. b i == j) (log_values log key)))

  -- the parts at the positions of chunks stand for these, in the parcel of each shard
  pub is_parcel : (d : Dictionaries E) (log : CutLog E) (passes : ℕ → Bool) (chunks : List ℕ) (parts : List (Part E)) (shard : ℕ) → IsLogOf d log → parts ≡ parts_where passes 0 log.records
      → ((i : ℕ) → i < length log.records → passes i ≡ is_in chunks (chunk_at (places_of log) i)) → IsParcelOf d log shard (shard_parcel log.shards (record { chunks = chunks; parts = parts }) shard)
  is_parcel d log passes chunks parts shard valid are same =
      parcel_for_shard d log (record { chunks = chunks; parts = parts }) shard (subst (λ l. AreValid d (keyed_values l)) (sym are) (where_valid d passes 0 log.records valid))
      (λ key j. ap (sum_at d.add key j) are ∙ (sum_where d.add log passes key j
      ∙ fold_where (d.add key.store) log key (λ i. passes i && (batch_at (places_of log) i == j)) (λ i. batch_at (places_of log) i == j && is_in chunks (chunk_at (places_of log) i))
      (λ i less. and_turn (passes i) (batch_at (places_of log) i == j) ∙ ap (λ t. batch_at (places_of log) i == j && t) (same i less))))
