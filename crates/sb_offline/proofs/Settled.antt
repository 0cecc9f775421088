-- An expiry: rows that wait for the base, and those that are added to it.
use Rattle.std.proofs.Common.{◌≡◌, ℕ, zero, suc, ◌+◌, ◌<◌, ◌≤◌, false, List, [], ◌∷◌, ◌++◌, length, get_or, take, drop, Option, None, refl, sym, ap, subst, ◌∙◌, append_assoc, append-nil, arith}
use Rattle.std.specs.Prelude.{IsTrue, max, is_err, OnOk}
use Rattle.std.specs.List.{AllByRecursion, IsDistinct, flat_map}
use Rattle.std.specs.Map.{keys_of}
use Rattle.std.specs.Ordering.{nat_cmp}
use Rattle.std.specs.FinMap.{find, is_sorted}
use Rattle.std.specs.declared.result.Result.{Result}
use Rattle.std.specs.declared.result.Result.TheVariants.{Ok, Err}
use Rattle.std.proofs.lemmas.List.{take-append-drop, length-append}
use Rattle.sb_laws.specs.Sums.{sum_of}
use Rattle.sb_laws.specs.Tables.{values_at}
use Rattle.sb_laws.proofs.Sums.{valid_append, valid_left, valid_right}
use Rattle.sb_laws.proofs.Halves.{valid_drop}
use Rattle.sb_laws.proofs.Positions.{ap_both}
use Rattle.sb_feed.specs.declared.key.KeyBytes.{KeyBytes}
use Rattle.sb_feed.specs.Keys.{key_order, same_key}
use Rattle.sb_feed.specs.Jobs.{Dictionaries, AreValid}
use Rattle.sb_feed.specs.Stands.{HasSums}
use Rattle.sb_job.specs.Sums.{HasKeySums}
use Rattle.sb_job.specs.ByBatch.{one_or_none, rows_from}
use Rattle.sb_job.proofs.Listed.{values_both, distinct_value, sum_before, lists_values, find_listed, listed_valid}
use Rattle.sb_offline.specs.Offlines.{OfflineValue, IsOffline, base_values, base_sum, published_sum, kept_by}
use Rattle.sb_offline.specs.Expiries.{rows_below, emptied, IsRaised, IsSettled, IsExpired}
use Rattle.sb_offline.proofs.Moving.{emptied_below, nothing_below, emptied_length, emptied_is, emptied_valid, below_valid, emptied_find, none_found, below_more, below_grows}

-- what holds of what succeeds
pub holds : {T R : Type 0} {P : Type 0} (r : Result T R) → is_err r ≡ false → OnOk r P → P
holds (Ok _) e h = h
holds (Err _) e h = cc

module _ {E : Type 0} (d : Dictionaries E) (key : KeyBytes) where
  -- the base is the same, however many of the waiting values are added
  pub base_same : (old new waiting : List (KeyBytes × E)) (n : ℕ) → IsDistinct same_key (keys_of new) → HasKeySums d (old ++ take n waiting) new
      → sum_of (d.add key.store) (values_at key_order key (new ++ drop n waiting)) ≡ sum_of (d.add key.store) (values_at key_order key (old ++ waiting))
  base_same old new waiting n apart has =
      let a = d.add key.store in
      let later = values_at key_order key (drop n waiting) in
      ap (sum_of a) (values_both key new (drop n waiting) ∙ ap (λ l. l ++ later) (distinct_value key new apart))
      ∙ (ap (λ o. sum_of a (one_or_none o ++ later)) (has key)
      ∙ (sum_before a (values_at key_order key (old ++ take n waiting)) later
      ∙ ap (sum_of a) (sym (values_both key (old ++ take n waiting) (drop n waiting)) ∙ ap (values_at key_order key) (append_assoc old (take n waiting) (drop n waiting) ∙ ap (λ l. old ++ l) (take-append-drop n waiting)))))

  -- what is found in the base, with what waits
  pub base_found : (base waiting : List (KeyBytes × E)) (found : Option E) → IsDistinct same_key (keys_of base) → found ≡ find key_order key base
      → sum_of (d.add key.store) (one_or_none found ++ values_at key_order key waiting) ≡ sum_of (d.add key.store) (values_at key_order key (base ++ waiting))
  base_found base waiting found apart e =
      let a = d.add key.store in
      ap (λ o. sum_of a (one_or_none o ++ values_at key_order key waiting)) e
      ∙ sym (ap (sum_of a) (values_both key base waiting ∙ ap (λ l. l ++ values_at key_order key waiting) (distinct_value key base apart)))

  -- of the rows from the floor on and up to a batch
  pub published_has : (held : OfflineValue E) (upto : ℕ) (sums : List (ℕ × E)) → IsOffline held → AreValid d (kept_by held) → sums ≡ rows_from key held.floor (drop held.floor (take (upto + 1) held.rows))
      → HasSums (d.valid key.store) upto (published_sum held key) sums
  published_has held upto sums is valid e = subst (HasSums (d.valid key.store) upto (published_sum held key)) (sym e) (record {
    each = λ j. find_listed key j held.floor upto held.rows ∙ none_found key held.floor j _ held.rows is.below;
    valid = listed_valid d key held.floor upto held.rows (valid_right _ (base_values held) (flat_map (λ rows. rows) held.rows) valid);
  })

fewer_below : {A : Type 0} (m n : ℕ) (lists : List (List A)) → m ≤ n → AllByRecursion (λ rows. rows ≡ []) (take n lists) → AllByRecursion (λ rows. rows ≡ []) (take m lists)
fewer_below zero n [] h none = tt
fewer_below zero n (rows ∷ lists) h none = tt
fewer_below (suc m) zero lists h none = absurd (omega (arith, h))
fewer_below (suc m) (suc n) [] h none = tt
fewer_below (suc m) (suc n) (rows ∷ lists) h none = (none.0, fewer_below m n lists (omega (arith, h)) none.1)

pub nothing_rises : {E : Type 0} (lists : List (List (KeyBytes × E))) → AllByRecursion (λ rows. rows ≡ []) lists → AllByRecursion (λ rows. IsTrue (is_sorted key_order rows)) lists
nothing_rises [] h = tt
nothing_rises (rows ∷ lists) h = (ap (is_sorted key_order) h.0, nothing_rises lists h.1)

-- a floor that isn't higher changes nothing
pub raised_none : {E : Type 0} (asked : ℕ) (held : OfflineValue E) → IsOffline held → asked ≤ held.floor → IsRaised asked held held
raised_none asked held is le =
    let none = fewer_below asked held.floor held.rows le is.below in
    record {
      base = refl;
      waiting = sym (ap (λ l. held.waiting ++ l) (nothing_below asked held.rows none) ∙ append-nil held.waiting);
      rows = sym (emptied_below asked held.rows none);
      floor = omega (arith, le);
      rising = nothing_rises (take asked held.rows) none;
    }

module _ {E : Type 0} (d : Dictionaries E) (asked : ℕ) (before raised after : OfflineValue E) where
  abbrev IsFine : KeyBytes × E → Type 0
  IsFine row = (row.0.store < d.stores) × d.valid row.0.store row.1

  pub raised_valid : IsRaised asked before raised → AreValid d (kept_by before) → AreValid d (kept_by raised)
  raised_valid up h =
      let rows = valid_right IsFine (base_values before) (flat_map (λ l. l) before.rows) h in
      let both = valid_left IsFine (base_values before) (flat_map (λ l. l) before.rows) h in
      let moved = rows_below asked before.rows in
      rw (up.base, up.waiting, up.rows)
      (valid_append IsFine (before.base ++ (before.waiting ++ moved)) (flat_map (λ l. l) (emptied asked before.rows))
      (valid_append IsFine before.base (before.waiting ++ moved) (valid_left IsFine before.base before.waiting both)
      (valid_append IsFine before.waiting moved (valid_right IsFine before.base before.waiting both) (below_valid IsFine asked before.rows rows)))
      (emptied_valid IsFine asked before.rows rows))

  pub expired : IsRaised asked before raised → IsSettled d.add raised after → IsExpired d.add asked before after
  expired up settled = record {
    floor = settled.floor ∙ up.floor;
    published_to = ap length (settled.rows ∙ up.rows) ∙ emptied_length asked before.rows;
    base = λ key. settled.sums key ∙ ap (sum_of (d.add key.store))
        (ap_both (λ b w. values_at key_order key (b ++ w)) up.base up.waiting
        ∙ (ap (values_at key_order key) (sym (append_assoc before.base before.waiting (rows_below asked before.rows)))
        ∙ (values_both key (before.base ++ before.waiting) (rows_below asked before.rows)
        ∙ ap (λ l. values_at key_order key (before.base ++ before.waiting) ++ l) (lists_values key 0 (take asked before.rows) up.rising))));
    published = λ key j. ap (λ lists. find key_order key (get_or lists j [])) (settled.rows ∙ up.rows) ∙ emptied_find key asked j before.rows;
  }

-- what is kept is valid after some of the waiting values are added
pub settled_valid : {E : Type 0} (d : Dictionaries E) (held : OfflineValue E) (base waiting : List (KeyBytes × E)) (n : ℕ) → AreValid d (kept_by held) → AreValid d base → waiting ≡ drop n held.waiting
    → AreValid d ((base ++ waiting) ++ flat_map (λ rows. rows) held.rows)
settled_valid {E} d held base waiting n h new e =
    let P : KeyBytes × E → Type 0 = λ row. (row.0.store < d.stores) × d.valid row.0.store row.1 in
    valid_append P (base ++ waiting) (flat_map (λ l. l) held.rows)
    (valid_append P base waiting new (subst (AreValid d) (sym e) (valid_drop P n held.waiting (valid_right P held.base held.waiting (valid_left P (base_values held) (flat_map (λ l. l) held.rows) h)))))
    (valid_right P (base_values held) (flat_map (λ l. l) held.rows) h)

-- the store after the floor is raised
pub raised_is : {E : Type 0} (asked : ℕ) (held : OfflineValue E) (lists : List (List (KeyBytes × E))) → IsOffline held → lists ≡ emptied asked held.rows → asked ≤ length held.rows
    → (asked ≤ length lists) × AllByRecursion (λ rows. rows ≡ []) (take asked lists)
raised_is asked held lists is e le = (omega (arith, ap length e, emptied_length asked held.rows, le), subst (λ l. AllByRecursion (λ rows. rows ≡ []) (take asked l)) (sym e) (emptied_is asked held.rows))

-- within the room that was made there is room for each list
pub has_room : {A : Type 0} (lists : List (List A)) (b to : ℕ) (d : List A) (len room more start : ℕ) → start + length (rows_below to lists) ≤ room → b < to → to ≤ length lists
    → len ≡ start + length (rows_below b lists) → more ≡ length (get_or lists b d) → room < len + more → ⊥
has_room lists b to d len room more start fits below within is count full =
    let step = ap length (below_more b d lists (omega (arith, below, within))) ∙ length-append (rows_below b lists) (get_or lists b d) in
    let grows = below_grows (suc b) to lists (omega (arith, below)) in
    absurd (omega (arith, fits, is, count, full, step, grows))
