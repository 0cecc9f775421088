-- An expiry keeps what a shard stands for: the sums below the floor are in the base.
use Rattle.std.proofs.Common.{◌≡◌, ◌⊎◌, inl, inr, ℕ, zero, suc, ◌+◌, ◌<◌, ◌≤◌, Bool, true, false, cond, ◌&&◌, List, [], ◌∷◌, map, filter, length, get_or, take, max, Some, None, refl, sym, ap, ◌∙◌, arith}
use Rattle.std.specs.Prelude.{nat_lt, nat_le, ◌==◌}
use Rattle.std.specs.List.{AllByRecursion, flat_map}
use Rattle.std.specs.FinMap.{find}
use Rattle.std.proofs.lemmas.Bool.Decides.{nat_tests}
use Rattle.sb_laws.specs.Sums.{sum_of, both_sums}
use Rattle.sb_laws.specs.Folds.{IsSplit}
use Rattle.sb_laws.specs.Tables.{values_at}
use Rattle.sb_laws.proofs.Sums.{sum_append, valid_left, valid_right}
use Rattle.sb_laws.proofs.Positions.{ap_both, fold_same, fold_if, fold_splits}
use Rattle.sb_laws.proofs.Sets.{at_equal}
use Rattle.sb_feed.specs.declared.key.KeyBytes.{KeyBytes}
use Rattle.sb_feed.specs.Keys.{key_order}
use Rattle.sb_feed.specs.Places.{batch_at, chunk_at, is_of_shard, is_in}
use Rattle.sb_feed.specs.Jobs.{CutLog, Dictionaries, Commute, IsLogOf, AreValid, places_of, log_values, log_fold}
use Rattle.sb_feed.specs.Stands.{keyed_values, IsShardOf}
use Rattle.sb_feed.proofs.LogValues.{log_values_valid}
use Rattle.sb_job.specs.ByBatch.{onto, rows_from}
use Rattle.sb_job.proofs.Listed.{rows_rise, find_rows, all_valid, lists_valid}
use Rattle.sb_offline.specs.Offlines as offline
use Rattle.sb_offline.specs.Offlines.{OfflineValue, base_values}
use Rattle.sb_offline.specs.Expiries.{sums_below}
use Rattle.sb_offline.proofs.Moving.{below_valid}
use Rattle.sb_online.specs.Onlines as online
use Rattle.sb_online.specs.Onlines.{parts_of}
use Rattle.sb_shard.specs.Shards.{ShardValue, shard_sums, kept_by, published_to}
use Rattle.sb_shard.specs.Events.{MayExpire, IsOnlyExpired}
use Rattle.sb_shard.proofs.Merged.{fold_found, same_below}

-- below the new floor: below the old one, or published and below the one that is asked for
floor_split : (o : Bool) (b f g p asked : ℕ) → g ≡ max f asked → f ≤ p → asked ≤ p → IsSplit (o && nat_lt b g) (o && nat_lt b f) (nat_lt b asked && (o && (nat_le f b && nat_lt b p)))
floor_split o b f g p asked e h k = cases o (nat_lt b g) (nat_lt b f) (nat_lt b asked) (nat_le f b) (nat_lt b p) refl refl refl refl refl
  where
    cases : (o s t u v w : Bool) → nat_lt b g ≡ s → nat_lt b f ≡ t → nat_lt b asked ≡ u → nat_le f b ≡ v → nat_lt b p ≡ w → IsSplit (o && s) (o && t) (u && (o && (v && w)))
    cases false s t true v w x y z i j = tt
    cases false s t false v w x y z i j = tt
    cases true true true u true w x y z i j = absurd (grind (arith, nat_tests))
    cases true true true true false w x y z i j = tt
    cases true true true false false w x y z i j = tt
    cases true true false true true true x y z i j = tt
    cases true true false true true false x y z i j = absurd (grind (arith, nat_tests, k))
    cases true true false true false w x y z i j = absurd (grind (arith, nat_tests))
    cases true true false false v w x y z i j = absurd (neither (not_below b f y) (not_below b asked z) (below b g x))
      where
        below : (m n : ℕ) → nat_lt m n ≡ true → m < n
        below m n q = grind (arith, nat_tests)

        not_below : (m n : ℕ) → nat_lt m n ≡ false → n ≤ m
        not_below m n q = grind (arith, nat_tests)

        neither : f ≤ b → asked ≤ b → b < g → ⊥
        neither q r s = omega (arith, q, r, s, e)
    cases true false true u v w x y z i j = absurd (above (below b f y) (not_below b g x))
      where
        below : (m n : ℕ) → nat_lt m n ≡ true → m < n
        below m n q = grind (arith, nat_tests)

        not_below : (m n : ℕ) → nat_lt m n ≡ false → n ≤ m
        not_below m n q = grind (arith, nat_tests)

        above : b < f → g ≤ b → ⊥
        above q r = omega (arith, q, r, e)
    cases true false false true v w x y z i j = absurd (above (below b asked z) (not_below b g x))
      where
        below : (m n : ℕ) → nat_lt m n ≡ true → m < n
        below m n q = grind (arith, nat_tests)

        not_below : (m n : ℕ) → nat_lt m n ≡ false → n ≤ m
        not_below m n q = grind (arith, nat_tests)

        above : b < asked → g ≤ b → ⊥
        above q r = omega (arith, q, r, e)
    cases true false false false v w x y z i j = tt

-- from the new floor on: from the old one on, and from the one that is asked for on
floor_from : (o m : Bool) (j f g asked : ℕ) (w : Bool) → g ≡ max f asked → (nat_le asked j && (o && (m && (nat_le f j && w)))) ≡ (o && (m && (nat_le g j && w)))
floor_from o m j f g asked w e = inwards (nat_le asked j) o m (nat_le f j) w ∙ ap (λ t. o && (m && (t && w))) (cases (nat_le asked j) (nat_le f j) (nat_le g j) refl refl refl)
  where
    inwards : (t a b u c : Bool) → (t && (a && (b && (u && c)))) ≡ (a && (b && ((t && u) && c)))
    inwards true a b u c = refl
    inwards false true true u c = refl
    inwards false true false u c = refl
    inwards false false b u c = refl

    from : (m n : ℕ) → nat_le m n ≡ true → m ≤ n
    from m n q = grind (arith, nat_tests)

    not_from : (m n : ℕ) → nat_le m n ≡ false → n < m
    not_from m n q = grind (arith, nat_tests)

    cases : (s t u : Bool) → nat_le asked j ≡ s → nat_le f j ≡ t → nat_le g j ≡ u → (s && t) ≡ u
    cases true true true x y z = refl
    cases true true false x y z = let a = from asked j x in let b = from f j y in let c = not_from g j z in absurd (omega (arith, a, b, c, e))
    cases true false true x y z = let b = not_from f j y in let c = from g j z in absurd (omega (arith, b, c, e))
    cases true false false x y z = refl
    cases false t true x y z = let a = not_from asked j x in let c = from g j z in absurd (omega (arith, a, c, e))
    cases false t false x y z = refl

short : {A : Type 0} (n : ℕ) (xs : List A) → length (take n xs) ≤ n
short zero [] = omega arith
short zero (x ∷ xs) = omega arith
short (suc n) [] = omega arith
short (suc n) (x ∷ xs) = let rest = short n xs in omega (arith, rest)

taken_at : {A : Type 0} (n j : ℕ) (lists : List (List A)) → j < n → get_or (take n lists) j [] ≡ get_or lists j []
taken_at zero j lists h = absurd (omega (arith, h))
taken_at (suc n) j [] h = refl
taken_at (suc n) zero (rows ∷ lists) h = refl
taken_at (suc n) (suc j) (rows ∷ lists) h = taken_at n j lists (omega (arith, h))

module _ {E : Type 0} (key : KeyBytes) where
  -- the numbers of lists are below the number of the next one
  kept_below : (m i : ℕ) (lists : List (List (KeyBytes × E))) → i + length lists ≤ m → filter (λ x. nat_lt x.0 m) (rows_from key i lists) ≡ rows_from key i lists
  kept_below m i [] h = refl
  kept_below m i (rows ∷ lists) h =
      let rest = kept_below m (suc i) lists (omega (arith, h)) in
      let below : i < m = omega (arith, h) in
      let here : nat_lt i m ≡ true = grind (arith, nat_tests) in
      elim (find key_order key rows) as (λ o. filter (λ (x : ℕ × E). nat_lt x.0 m) (onto i o (rows_from key (suc i) lists)) ≡ onto i o (rows_from key (suc i) lists)) [
        | None ↦ rest
        | Some v ↦ ap (λ t. cond t ((i, v) ∷ filter (λ (x : ℕ × E). nat_lt x.0 m) (rows_from key (suc i) lists)) (filter (λ (x : ℕ × E). nat_lt x.0 m) (rows_from key (suc i) lists))) here ∙ ap (λ l. (i, v) ∷ l) rest
      ]

swap_front : (a b c : Bool) → (a && (b && c)) ≡ (b && (a && c))
swap_front true true c = refl
swap_front true false c = refl
swap_front false true c = refl
swap_front false false c = refl

module _ {E : Type 0} (d : Dictionaries E) (asked : ℕ) (before after : ShardValue E) (expired : IsOnlyExpired d.add asked before after) (log : CutLog E) (shard : ℕ) (commute : Commute d) (of : IsLogOf d log) (may : MayExpire log.lag asked (published_to before)) (stands : IsShardOf d log shard (shard_sums d.add before)) where
  kept : AreValid d (offline.kept_by before.offline)
  kept = valid_left _ (offline.kept_by before.offline) (keyed_values (parts_of before.online)) stands.valid

  rows_kept : AreValid d (flat_map (λ rows. rows) before.offline.rows)
  rows_kept = valid_right _ (base_values before.offline) (flat_map (λ rows. rows) before.offline.rows) kept

  -- the published sums below the floor are the fold over their batches
  moved : (key : KeyBytes) → key.store < d.stores → sum_of (d.add key.store) (sums_below before.offline key asked)
      ≡ log_fold d.add log key (λ i. nat_lt (batch_at (places_of log) i) asked && (is_of_shard (places_of log) shard key && (nat_le before.offline.floor (batch_at (places_of log) i) && nat_lt (batch_at (places_of log) i) (published_to before))))
  moved key known =
      let v = d.valid key.store in
      let a = d.add key.store in
      let xs = log_values log key in
      let b = batch_at (places_of log) in
      let lists = take asked before.offline.rows in
      let pairs = rows_from key 0 lists in
      let within : 0 + length lists ≤ asked = omega (arith, short asked before.offline.rows) in
      let rows = lists_valid d key 0 lists (below_valid _ asked before.offline.rows rows_kept) in
      ap (λ (l : List (ℕ × E)). sum_of a (map (λ x. x.1) l)) (sym (kept_below key asked 0 lists within))
      ∙ same_below v a (commute key.store known) asked pairs xs b (λ i. is_of_shard (places_of log) shard key && (nat_le before.offline.floor (b i) && nat_lt (b i) (published_to before))) rows (log_values_valid d key log of) (λ j less.
      fold_found a j pairs (rows_rise key 0 lists)
      ∙ (find_rows key j 0 j lists (omega arith)
      ∙ (ap (find key_order key) (taken_at asked j before.offline.rows less)
      ∙ (stands.folds.published key j known
      ∙ fold_same a xs _ _ (λ i. ap (λ t. is_of_shard (places_of log) shard key && t) (at_equal (b i) j (λ k. nat_le before.offline.floor k && nat_lt k (published_to before))) ∙ swap_front (is_of_shard (places_of log) shard key) (b i == j) _)))))

  expired_base : (key : KeyBytes) → key.store < d.stores
      → offline.base_sum d.add after.offline key ≡ log_fold d.add log key (λ i. is_of_shard (places_of log) shard key && nat_lt (batch_at (places_of log) i) after.offline.floor)
  expired_base key known =
      let v = d.valid key.store in
      let a = d.add key.store in
      let l = commute key.store known in
      let xs = log_values log key in
      let b = batch_at (places_of log) in
      expired.offline.base key
      ∙ (sum_append v a l.semigroup (values_at key_order key (base_values before.offline)) (sums_below before.offline key asked)
      (all_valid d key (base_values before.offline) (valid_left _ (base_values before.offline) (flat_map (λ rows. rows) before.offline.rows) kept))
      (seconds (rows_from key 0 (take asked before.offline.rows)) (lists_valid d key 0 (take asked before.offline.rows) (below_valid _ asked before.offline.rows rows_kept)))
      ∙ (ap_both (both_sums a) (stands.folds.base key known) (moved key known)
      ∙ sym (fold_splits v a l xs _ _ _ (log_values_valid d key log of) (λ i. floor_split (is_of_shard (places_of log) shard key) (b i) before.offline.floor after.offline.floor (published_to before) asked expired.offline.floor stands.folds.floor expired.within))))
    where
      seconds : (pairs : List (ℕ × E)) → AllByRecursion (λ pair. d.valid key.store pair.1) pairs → AllByRecursion (d.valid key.store) (map (λ pair. pair.1) pairs)
      seconds [] h = tt
      seconds (x ∷ xs) h = (h.0, seconds xs h.1)

  expired_published : (key : KeyBytes) (j : ℕ) → key.store < d.stores
      → offline.published_sum after.offline key j ≡ log_fold d.add log key (λ i. is_of_shard (places_of log) shard key && (batch_at (places_of log) i == j && (nat_le after.offline.floor j && nat_lt j (published_to after))))
  expired_published key j known =
      let a = d.add key.store in
      let xs = log_values log key in
      expired.offline.published key j
      ∙ (ap (λ x. cond (nat_le asked j) x None) (stands.folds.published key j known)
      ∙ (sym (fold_if a xs (nat_le asked j) _)
      ∙ fold_same a xs _ _ (λ i.
      floor_from (is_of_shard (places_of log) shard key) (batch_at (places_of log) i == j) j before.offline.floor after.offline.floor asked (nat_lt j (published_to before)) expired.offline.floor
      ∙ ap (λ n. is_of_shard (places_of log) shard key && (batch_at (places_of log) i == j && (nat_le after.offline.floor j && nat_lt j n))) (sym expired.offline.published_to))))

  expired_lag : MayExpire log.lag asked (published_to before) → (before.offline.floor ≡ 0) ⊎ (before.offline.floor + log.lag ≤ published_to before) → (after.offline.floor ≡ 0) ⊎ (after.offline.floor + log.lag ≤ published_to after)
  expired_lag (inl e) lag = inr (omega (arith, e, expired.within, stands.folds.floor, expired.offline.floor, expired.offline.published_to))
  expired_lag (inr (inl e)) (inl f) = inl (omega (arith, e, f, expired.offline.floor))
  expired_lag (inr (inl e)) (inr f) = inr (omega (arith, e, f, expired.offline.floor, expired.offline.published_to))
  expired_lag (inr (inr e)) (inl f) = inr (omega (arith, e, f, expired.offline.floor, expired.offline.published_to))
  expired_lag (inr (inr e)) (inr f) = inr (omega (arith, e, f, expired.offline.floor, expired.offline.published_to))

  -- the shard stands for the log after an expiry
  pub stands_expired : AreValid d (kept_by after) → IsShardOf d log shard (shard_sums d.add after)
  stands_expired valid = record {
    folds = record {
      floor = omega (arith, expired.within, stands.folds.floor, expired.offline.floor, expired.offline.published_to);
      last = omega (arith, stands.folds.last, expired.offline.published_to);
      lag = expired_lag may stands.folds.lag;
      base = expired_base;
      published = expired_published;
      online = λ key j known.
          ap_both (λ n o. online.sum_from d.add o n key j) expired.offline.published_to expired.online
          ∙ (stands.folds.online key j known
          ∙ fold_same (d.add key.store) (log_values log key) _ _ (λ i.
          ap_both (λ n o. is_of_shard (places_of log) shard key && (batch_at (places_of log) i == j && (nat_le n j && is_in o.cover (chunk_at (places_of log) i)))) (sym expired.offline.published_to) (sym expired.online)));
    };
    valid = valid;
  }
