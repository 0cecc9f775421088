-- What the offline store of a shard keeps, and the sums that it holds by it.
use Rattle.std.specs.Prelude.{◌≡◌, ◌⊎◌, ◌↔◌, ℕ, ◌≤◌, List, [], ◌++◌, take, length, get_or, Option, IsSome, IsTrue}
use Rattle.std.specs.List.{AllByRecursion, IsDistinct, flat_map, list_any}
use Rattle.std.specs.List.Sorted.{IsStrictlySortedBy}
use Rattle.std.specs.Map.{keys_of}
use Rattle.std.specs.FinMap.{find}
use Rattle.sb_laws.specs.Sums.{sum_of}
use Rattle.sb_laws.specs.Tables.{values_at}
use Rattle.sb_feed.specs.declared.key.KeyBytes.{KeyBytes}
use Rattle.sb_feed.specs.Keys.{key_order, same_key}

-- the sums of moved rows, and moved rows that aren't added to them yet; the rows of each published batch, from 0 on; the floor
pub record OfflineValue (E : Type 0) : Type 0 where
  pub base : List (KeyBytes × E)
  pub waiting : List (KeyBytes × E)
  pub rows : List (List (KeyBytes × E))
  pub floor : ℕ

-- the number of published batches
abbrev pub published_to : {E : Type 0} → OfflineValue E → ℕ
published_to held = length held.rows

-- the values that make the base, in the order in which they are added
abbrev pub base_values : {E : Type 0} → OfflineValue E → List (KeyBytes × E)
base_values held = held.base ++ held.waiting

abbrev pub base_sum : {E : Type 0} → (ℕ → E → E → E) → OfflineValue E → KeyBytes → Option E
base_sum add held key = sum_of (add key.store) (values_at key_order key (base_values held))

abbrev pub published_sum : {E : Type 0} → OfflineValue E → KeyBytes → ℕ → Option E
published_sum held key j = find key_order key (get_or held.rows j [])

-- all values that are kept, with their keys
abbrev pub kept_by : {E : Type 0} → OfflineValue E → List (KeyBytes × E)
kept_by held = base_values held ++ flat_map (λ rows. rows) held.rows

-- the floor is within the published batches, no rows are left below it, and no key has two sums in the base
pub record IsOffline {E : Type 0} (held : OfflineValue E) : Type 0 where
  pub floor : held.floor ≤ length held.rows
  pub below : AllByRecursion (λ rows. rows ≡ []) (take held.floor held.rows)
  pub apart : IsDistinct same_key (keys_of held.base)

-- the store has a base or a published sum of the key
abbrev pub HasSum : {E : Type 0} → (ℕ → E → E → E) → OfflineValue E → KeyBytes → Type 0
HasSum add held key = IsSome (base_sum add held key) ⊎ ((j : ℕ) × IsSome (published_sum held key j))

-- exactly the keys with a sum, rising
pub record HasKeys {E : Type 0} (add : ℕ → E → E → E) (held : OfflineValue E) (keys : List KeyBytes) : Type 0 where
  pub rising : IsStrictlySortedBy key_order keys
  pub each : (key : KeyBytes) → IsTrue (list_any (same_key key) keys) ↔ HasSum add held key
