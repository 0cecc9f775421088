-- The values of a key in a log are its store's.
use Rattle.std.proofs.Common.{◌≡◌, ℕ, suc, true, false, cond, List, [], ◌∷◌, map, filter, sym, refl, subst}
use Rattle.std.specs.List.{AllByRecursion}
use Rattle.sb_laws.specs.Tables.{values_at}
use Rattle.sb_laws.proofs.Sums.{valid_append}
use Rattle.sb_feed.specs.declared.key.KeyBytes.{KeyBytes}
use Rattle.sb_feed.specs.Keys.{key_order, same_key}
use Rattle.sb_feed.specs.Jobs.{Record, CutLog, Dictionaries, AreValid, IsRecord, IsLogOf, values_from, log_values}
use Rattle.sb_feed.proofs.PartSums.{same_is_equal}

module _ {E : Type 0} (d : Dictionaries E) (key : KeyBytes) where
  placed_valid : (i : ℕ) (values : List E) → AllByRecursion (d.valid key.store) values → AllByRecursion (λ (x : ℕ × E). d.valid key.store x.1) (map (λ value. (i, value)) values)
  placed_valid i [] h = tt
  placed_valid i (x ∷ xs) h = (h.0, placed_valid i xs h.1)

  at_valid : (parts : List (KeyBytes × E)) → AreValid d parts → AllByRecursion (d.valid key.store) (values_at key_order key parts)
  at_valid [] h = tt
  at_valid (x ∷ xs) h = elim (same_key key x.0) as (λ b. (same_key key x.0 ≡ b) → AllByRecursion (d.valid key.store) (map (λ (part : KeyBytes × E). part.1) (cond b (x ∷ filter (λ part. same_key key part.0) xs) (filter (λ part. same_key key part.0) xs)))) [
    | true ↦ λ e. (subst (λ (k : KeyBytes). d.valid k.store x.1) (sym (same_is_equal key x.0 e)) h.0.1, at_valid xs h.1)
    | false ↦ λ e. at_valid xs h.1
  ] refl

  from_valid : (i : ℕ) (records : List (Record E)) → AllByRecursion (IsRecord d) records → AllByRecursion (λ (x : ℕ × E). d.valid key.store x.1) (values_from key i records)
  from_valid i [] h = tt
  from_valid i (r ∷ records) h =
      valid_append (λ (x : ℕ × E). d.valid key.store x.1) (map (λ value. (i, value)) (values_at key_order key r.parts)) (values_from key (suc i) records)
      (placed_valid i (values_at key_order key r.parts) (at_valid r.parts h.0.valid)) (from_valid (suc i) records h.1)

  pub log_values_valid : (log : CutLog E) → IsLogOf d log → AllByRecursion (λ (x : ℕ × E). d.valid key.store x.1) (log_values log key)
  log_values_valid log h = from_valid 0 log.records h
