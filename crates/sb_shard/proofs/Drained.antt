-- The base, the sums of all rows and those of the parts that count make the folds over the published batches and the cover.
use Rattle.std.proofs.Common.{◌≡◌, ℕ, zero, suc, ◌+◌, ◌<◌, ◌≤◌, Bool, true, false, ◌&&◌, ◌||◌, List, [], ◌∷◌, ◌++◌, map, filter, refl, sym, ap, subst, ◌∙◌, cond, append_assoc, arith}
use Rattle.std.specs.Prelude.{nat_lt, nat_le, ◌==◌, slice_index, IsTrue}
use Rattle.std.specs.List.{AllByRecursion, flat_map}
use Rattle.std.specs.FinMap.{find, is_sorted}
use Rattle.std.proofs.lemmas.Bool.Decides.{nat_tests}
use Rattle.std.proofs.lemmas.List.{map-append}
use Rattle.std.proofs.lemmas.List.Elements.{filter-append}
use Rattle.sb_laws.specs.Sums.{sum_of, both_sums, SemigroupLaws}
use Rattle.sb_laws.specs.Folds.{fold_over, IsSplit}
use Rattle.sb_laws.specs.Tables.{values_at}
use Rattle.sb_laws.proofs.Sums.{sum_append, valid_append, valid_left, valid_right}
use Rattle.sb_laws.proofs.Positions.{ap_both, fold_same, fold_splits, kept_valid}
use Rattle.sb_feed.specs.declared.key.KeyBytes.{KeyBytes}
use Rattle.sb_feed.specs.Keys.{key_order, same_key}
use Rattle.sb_feed.specs.declared.parts.Part.{Part}
use Rattle.sb_job.specs.Sums.{key_sum}
use Rattle.sb_job.specs.ByBatch.{rows_from}
use Rattle.sb_job.proofs.Listed.{find_rows, rows_rise, all_valid, lists_valid, values_both, lists_values}
use Rattle.sb_feed.specs.Places.{batch_at, chunk_at, is_of_shard, is_in, is_named}
use Rattle.sb_feed.specs.Jobs.{Record, CutLog, Dictionaries, Commute, IsRecord, IsLogOf, AreValid, meant, meaning_of, places_of, log_values, log_fold}
use Rattle.sb_feed.specs.Stands.{IsShardOf, batch_value, keyed_values, key_values}
use Rattle.sb_feed.proofs.LogValues.{log_values_valid}
use Rattle.sb_feed.proofs.PartSums.{sum_filter, values_valid, keyed_filter}
use Rattle.sb_offline.specs.Offlines as offline
use Rattle.sb_offline.specs.Offlines.{base_values}
use Rattle.sb_online.specs.Onlines.{parts_of, parts_from}
use Rattle.sb_shard.specs.Shards.{ShardValue, kept_by, shard_sums, published_to}
use Rattle.sb_shard.specs.Asks.{Drains}
use Rattle.sb_shard.proofs.Merged.{fold_found, same_below, all_kept}

-- the values of numbered values
abbrev values : {E : Type 0} → List (ℕ × E) → List E
values pairs = map (λ pair. pair.1) pairs

-- the positions of a batch from the floor on are those that are published or those that are online
batch_split : (b j f p : ℕ) (o c : Bool) → IsSplit (b == j && (o && ((nat_le f b && nat_lt b p) || (nat_le p b && c)))) (o && (b == j && (nat_le f j && nat_lt j p))) (o && (b == j && (nat_le p j && c)))
batch_split b j f p o c = cases o (b == j) refl
  where
    here : (k l m : Bool) → nat_lt j p ≡ l → nat_le p j ≡ m → IsSplit ((k && l) || (m && c)) (k && l) (m && c)
    here true true true x y = absurd (grind (arith, nat_tests))
    here true true false x y = tt
    here true false true x y = either c
      where
        either : (t : Bool) → IsSplit t false t
        either true = tt
        either false = tt
    here true false false x y = tt
    here false l true x y = either c
      where
        either : (t : Bool) → IsSplit t false t
        either true = tt
        either false = tt
    here false l false x y = tt

    cases : (o m : Bool) → (b == j) ≡ m → IsSplit (m && (o && ((nat_le f b && nat_lt b p) || (nat_le p b && c)))) (o && (m && (nat_le f j && nat_lt j p))) (o && (m && (nat_le p j && c)))
    cases false false e = tt
    cases false true e = tt
    cases true false e = tt
    cases true true e =
        let is : j ≡ b = grind (arith, nat_tests) in
        subst (λ n. IsSplit ((nat_le f n && nat_lt n p) || (nat_le p n && c)) (nat_le f j && nat_lt j p) (nat_le p j && c)) is (here (nat_le f j) (nat_lt j p) (nat_le p j) refl refl)

-- the positions that are named are those below the floor and those from it on
base_split : (b f p : ℕ) (o k c : Bool) → k ≡ true → f ≤ p → IsSplit (o && (k && (nat_lt b p || c))) (o && nat_lt b f) (o && (k && ((nat_le f b && nat_lt b p) || (nat_le p b && c))))
base_split b f p false k c e le = tt
base_split b f p true false c e le = cc
base_split b f p true true c e le = cases (nat_lt b p) (nat_lt b f) (nat_le f b) (nat_le p b) c refl refl refl refl
  where
    cases : (l m n r c : Bool) → nat_lt b p ≡ l → nat_lt b f ≡ m → nat_le f b ≡ n → nat_le p b ≡ r → IsSplit (l || c) m ((n && l) || (r && c))
    cases true true true r c x y z w = absurd (grind (arith, nat_tests))
    cases true true false true c x y z w = absurd (grind (arith, nat_tests))
    cases true true false false c x y z w = tt
    cases true false true r c x y z w = tt
    cases true false false r c x y z w = absurd (grind (arith, nat_tests))
    cases false true n r c x y z w = absurd (grind (arith, nat_tests, le))
    cases false false n false c x y z w = absurd (grind (arith, nat_tests))
    cases false false true true true x y z w = tt
    cases false false true true false x y z w = tt
    cases false false false true true x y z w = tt
    cases false false false true false x y z w = tt

-- a number above those of all values, and above that of any batch
abbrev most : {E : Type 0} → List (ℕ × E) → ℕ
most [] = 65535
most (x ∷ xs) = x.0 + most xs

all_weaker : {E : Type 0} (m n : ℕ) (xs : List (ℕ × E)) → m ≤ n → AllByRecursion (λ x. x.0 ≤ m) xs → AllByRecursion (λ x. x.0 ≤ n) xs
all_weaker m n [] le h = tt
all_weaker m n (x ∷ xs) le h = (omega (arith, le, h.0), all_weaker m n xs le h.1)

below_most : {E : Type 0} (xs : List (ℕ × E)) → AllByRecursion (λ x. x.0 ≤ most xs) xs
below_most [] = tt
below_most (x ∷ xs) = (omega arith, all_weaker (most xs) (x.0 + most xs) xs (omega arith) (below_most xs))

limit_below : {E : Type 0} (xs : List (ℕ × E)) → 65535 ≤ most xs
limit_below [] = omega arith
limit_below (x ∷ xs) = let rest = limit_below xs in omega (arith, rest)

batch_small : {E : Type 0} (d : Dictionaries E) (records : List (Record E)) (i : ℕ) → AllByRecursion (IsRecord d) records → slice_index (map (λ r. r.batch) records) i ≤ 65535
batch_small d [] i h = omega arith
batch_small d (r ∷ records) zero h = h.0.batch
batch_small d (r ∷ records) (suc i) h = batch_small d records i h.1

all_named : (b n : ℕ) (o w : Bool) → b ≤ 65535 → 65535 ≤ n → (nat_lt b (suc n) && (o && w)) ≡ (o && (nat_le b 65535 && w))
all_named b n o w small le =
    let below : nat_lt b (suc n) ≡ true = grind (arith, nat_tests) in
    let within : nat_le b 65535 ≡ true = grind (arith, nat_tests) in
    rw (below, within) refl

fold_append : {E : Type 0} (V : E → Type 0) (add : E → E → E) (laws : SemigroupLaws V add) (xs ys : List (ℕ × E)) (s : ℕ → Bool) → AllByRecursion (λ x. V x.1) xs → AllByRecursion (λ x. V x.1) ys
    → fold_over add (xs ++ ys) s ≡ both_sums add (fold_over add xs s) (fold_over add ys s)
fold_append V add laws xs ys s h k =
    ap (λ l. sum_of add (map (λ x. x.1) l)) (filter-append (λ x. s x.0) xs ys)
    ∙ (ap (sum_of add) (map-append (λ x. x.1) (filter (λ x. s x.0) xs) (filter (λ x. s x.0) ys))
    ∙ sum_append V add laws _ _ (kept_valid V xs s h) (kept_valid V ys s k))

module _ {E : Type 0} (d : Dictionaries E) (held : ShardValue E) (kept : AreValid d (kept_by held)) (log : CutLog E) (shard : ℕ) (commute : Commute d) (of : IsLogOf d log) (stands : IsShardOf d log shard (shard_sums d.add held)) where
  offline_kept : AreValid d (offline.kept_by held.offline)
  offline_kept = valid_left _ (offline.kept_by held.offline) (keyed_values (parts_of held.online)) kept

  of_rows : (key : KeyBytes) → AllByRecursion (λ (x : ℕ × E). d.valid key.store x.1) (rows_from key 0 held.offline.rows)
  of_rows key = lists_valid d key 0 held.offline.rows (valid_right _ (base_values held.offline) (flat_map (λ rows. rows) held.offline.rows) offline_kept)

  of_parts : (key : KeyBytes) → AllByRecursion (λ (x : ℕ × E). d.valid key.store x.1) (key_values key (parts_from (published_to held) (parts_of held.online)))
  of_parts key =
      values_valid d key (parts_from (published_to held) (parts_of held.online))
      (keyed_filter d (λ part. nat_le (published_to held) part.batch) (parts_of held.online) (valid_right _ (offline.kept_by held.offline) (keyed_values (parts_of held.online)) kept))

  seconds : (key : KeyBytes) (pairs : List (ℕ × E)) → AllByRecursion (λ pair. d.valid key.store pair.1) pairs → AllByRecursion (d.valid key.store) (values pairs)
  seconds key [] h = tt
  seconds key (x ∷ xs) h = (h.0, seconds key xs h.1)

  -- the rows of a key and its parts that count make the fold from the floor on
  later_sum : (key : KeyBytes) → key.store < d.stores → sum_of (d.add key.store) (values (rows_from key 0 held.offline.rows) ++ values (key_values key (parts_from (published_to held) (parts_of held.online))))
      ≡ log_fold d.add log key (λ i. is_of_shard (places_of log) shard key && (nat_le (batch_at (places_of log) i) 65535
      && ((nat_le held.offline.floor (batch_at (places_of log) i) && nat_lt (batch_at (places_of log) i) (published_to held)) || (nat_le (published_to held) (batch_at (places_of log) i) && is_in held.online.cover (chunk_at (places_of log) i)))))
  later_sum key known =
      let v = d.valid key.store in
      let a = d.add key.store in
      let l = commute key.store known in
      let xs = log_values log key in
      let valid = log_values_valid d key log of in
      let b = batch_at (places_of log) in
      let f = held.offline.floor in
      let p = published_to held in
      let w : ℕ → Bool = λ i. (nat_le f (b i) && nat_lt (b i) p) || (nat_le p (b i) && is_in held.online.cover (chunk_at (places_of log) i)) in
      let rows = rows_from key 0 held.offline.rows in
      let parts = key_values key (parts_from p (parts_of held.online)) in
      let pairs = rows ++ parts in
      let of_pairs = valid_append (λ (x : ℕ × E). v x.1) rows parts (of_rows key) (of_parts key) in
      let n = most pairs in
      ap (sum_of a) (sym (map-append (λ (x : ℕ × E). x.1) rows parts))
      ∙ (ap (λ (l : List (ℕ × E)). sum_of a (map (λ x. x.1) l)) (all_kept v a l n pairs (below_most pairs))
      ∙ (same_below v a l (suc n) pairs xs b (λ i. is_of_shard (places_of log) shard key && w i) of_pairs valid (λ j less.
      fold_append v a l.semigroup rows parts (λ k. k == j) (of_rows key) (of_parts key)
      ∙ (ap_both (both_sums a)
      (fold_found a j rows (rows_rise key 0 held.offline.rows) ∙ (find_rows key j 0 j held.offline.rows (omega arith) ∙ stands.folds.published key j known))
      (sum_filter d.add (λ k. nat_le p k) key j (parts_of held.online) ∙ stands.folds.online key j known)
      ∙ sym (fold_splits v a l xs _ _ _ valid (λ i. batch_split (b i) j f p (is_of_shard (places_of log) shard key) (is_in held.online.cover (chunk_at (places_of log) i))))))
      ∙ fold_same a xs _ _ (λ i. all_named (b i) n (is_of_shard (places_of log) shard key) (w i) (batch_small d log.records i of) (limit_below pairs))))

  -- with the base they make the fold over what is named
  drained_sum : (key : KeyBytes) → key.store < d.stores
      → sum_of (d.add key.store) (values_at key_order key (base_values held.offline) ++ (values (rows_from key 0 held.offline.rows) ++ values (key_values key (parts_from (published_to held) (parts_of held.online)))))
      ≡ log_fold d.add log key (λ i. is_of_shard (places_of log) shard key && is_named (places_of log) 65535 (published_to held) held.online.cover i)
  drained_sum key known =
      let v = d.valid key.store in
      let a = d.add key.store in
      let l = commute key.store known in
      let b = batch_at (places_of log) in
      let rows = rows_from key 0 held.offline.rows in
      let parts = key_values key (parts_from (published_to held) (parts_of held.online)) in
      let base = values_at key_order key (base_values held.offline) in
      let within : (i : ℕ) → nat_le (b i) 65535 ≡ true = λ i. small (b i) (batch_small d log.records i of) in
      sum_append v a l.semigroup base (values rows ++ values parts) (all_valid d key (base_values held.offline) (valid_left _ (base_values held.offline) (flat_map (λ rows. rows) held.offline.rows) offline_kept))
      (valid_append v (values rows) (values parts) (seconds key rows (of_rows key)) (seconds key parts (of_parts key)))
      ∙ (ap_both (both_sums a) (stands.folds.base key known) (later_sum key known)
      ∙ sym (fold_splits v a l (log_values log key) _ _ _ (log_values_valid d key log of) (λ i.
      base_split (b i) held.offline.floor (published_to held) (is_of_shard (places_of log) shard key) (nat_le (b i) 65535) (is_in held.online.cover (chunk_at (places_of log) i)) (within i) stands.folds.floor)))
    where
      small : (n : ℕ) → n ≤ 65535 → nat_le n 65535 ≡ true
      small n h = grind (arith, nat_tests)

module _ {E : Type 0} (key : KeyBytes) where
  parts_values : (parts : List (Part E)) → values_at key_order key (keyed_values parts) ≡ values (key_values key parts)
  parts_values [] = refl
  parts_values (part ∷ parts) =
      elim (same_key key part.key) as (λ t. map (λ (x : KeyBytes × E). x.1) (cond t ((part.key, part.value) ∷ filter (λ x. same_key key x.0) (keyed_values parts)) (filter (λ x. same_key key x.0) (keyed_values parts)))
      ≡ values (map batch_value (cond t (part ∷ filter (λ p. same_key key p.key) parts) (filter (λ p. same_key key p.key) parts)))) [
        | true ↦ ap (λ l. part.value ∷ l) (parts_values parts)
        | false ↦ parts_values parts
      ]

-- valid rows with the sums of what is kept offline and of the parts that count drain the shard
pub drained : {M E : Type 0} (valid : M → E → Type 0) (add : M → E → E → E) (monoids : List M) (held : ShardValue E) (rows : List (KeyBytes × E)) → AreValid (meant valid add monoids) (kept_by held)
    → AllByRecursion (λ rows. IsTrue (is_sorted key_order rows)) held.offline.rows → AreValid (meant valid add monoids) rows
    → ((key : KeyBytes) → find key_order key rows ≡ key_sum (meant valid add monoids) key (offline.kept_by held.offline ++ keyed_values (parts_from (published_to held) (parts_of held.online)))) → Drains valid add monoids held rows
drained valid add monoids held rows kept rising elements sums job shard same commuting stands =
    let late = parts_from (published_to held) (parts_of held.online) in
    let lists = flat_map (λ rows. rows) held.offline.rows in
    record {
      elements = subst (λ ms. AreValid (meant valid add ms) rows) same elements;
      sums = λ key known.
          sums key
          ∙ (ap (sum_of ((meant valid add monoids).add key.store))
          (values_both key (base_values held.offline ++ lists) (keyed_values late)
          ∙ (ap_both (λ xs ys. xs ++ ys) (values_both key (base_values held.offline) lists ∙ ap (λ ys. values_at key_order key (base_values held.offline) ++ ys) (lists_values key 0 held.offline.rows rising)) (parts_values key late)
          ∙ append_assoc (values_at key_order key (base_values held.offline)) (values (rows_from key 0 held.offline.rows)) (values (key_values key late))))
          ∙ (ap (λ ms. sum_of ((meant valid add ms).add key.store) (values_at key_order key (base_values held.offline) ++ (values (rows_from key 0 held.offline.rows) ++ values (key_values key late)))) same
          ∙ drained_sum (meaning_of valid add job) held (subst (λ ms. AreValid (meant valid add ms) (kept_by held)) same kept) job.log shard commuting.commute commuting.records stands key known));
    }
