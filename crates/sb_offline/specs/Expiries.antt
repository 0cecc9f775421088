-- What an expiry changes.
use Rattle.std.specs.Prelude.{◌≡◌, ℕ, zero, suc, ◌+◌, max, nat_le, IsTrue, List, [], ◌∷◌, ◌++◌, map, take, Option, None, if◌then◌else◌}
use Rattle.std.specs.List.{AllByRecursion, flat_map}
use Rattle.std.specs.FinMap.{is_sorted}
use Rattle.sb_laws.specs.Sums.{sum_of}
use Rattle.sb_laws.specs.Tables.{values_at}
use Rattle.sb_feed.specs.declared.key.KeyBytes.{KeyBytes}
use Rattle.sb_feed.specs.Keys.{key_order}
use Rattle.sb_job.specs.ByBatch.{rows_from}
use Rattle.sb_offline.specs.Offlines.{OfflineValue, published_to, base_values, base_sum, published_sum}

-- the sums of a key of the published batches below a number, in rising order of the batches
abbrev pub sums_below : {E : Type 0} → OfflineValue E → KeyBytes → ℕ → List E
sums_below held key n = map (λ pair. pair.1) (rows_from key 0 (take n held.rows))

-- The floor is raised, unless it was higher. The base has the sums of the batches below it in addition, each on the right of what was there, and no published sum is left there.
pub record IsExpired {E : Type 0} (add : ℕ → E → E → E) (asked : ℕ) (before after : OfflineValue E) : Type 0 where
  pub floor : after.floor ≡ max before.floor asked
  pub published_to : published_to after ≡ published_to before
  pub base : (key : KeyBytes) → base_sum add after key ≡ sum_of (add key.store) (values_at key_order key (base_values before) ++ sums_below before key asked)
  pub published : (key : KeyBytes) (j : ℕ) → published_sum after key j ≡ (if nat_le asked j then published_sum before key j else None)

-- the rows of the first lists, one list after the other
abbrev pub rows_below : {A : Type 0} → ℕ → List (List A) → List A
rows_below n lists = flat_map (λ rows. rows) (take n lists)

-- the lists, of which the first are emptied
abbrev pub emptied : {A : Type 0} → ℕ → List (List A) → List (List A)
emptied zero lists = lists
emptied (suc n) [] = []
emptied (suc n) (rows ∷ lists) = [] ∷ emptied n lists

-- the rows below the floor wait to be added to the base; they rise
pub record IsRaised {E : Type 0} (asked : ℕ) (before after : OfflineValue E) : Type 0 where
  pub base : after.base ≡ before.base
  pub waiting : after.waiting ≡ before.waiting ++ rows_below asked before.rows
  pub rows : after.rows ≡ emptied asked before.rows
  pub floor : after.floor ≡ max before.floor asked
  pub rising : AllByRecursion (λ rows. IsTrue (is_sorted key_order rows)) (take asked before.rows)

-- the base sums are the same, however many of the waiting values were added
pub record IsSettled {E : Type 0} (add : ℕ → E → E → E) (before after : OfflineValue E) : Type 0 where
  pub sums : (key : KeyBytes) → base_sum add after key ≡ base_sum add before key
  pub rows : after.rows ≡ before.rows
  pub floor : after.floor ≡ before.floor
