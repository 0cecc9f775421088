-- A value added at its place among parts whose keys rise.
use Rattle.std.proofs.Common.{◌≡◌, ◌∙◌, ℕ, zero, suc, ◌<◌, cond, List, [], ◌∷◌, map, length, Some, refl, sym, ap, subst, T}
use Rattle.std.specs.Prelude.{IsTrue, slice_get, slice_set, slice_index_or}
use Rattle.std.specs.FinMap.{find, is_sorted}
use Rattle.std.specs.FinMap.Entries.{by_order, below_all}
use Rattle.std.specs.List.{AllByRecursion, insert}
use Rattle.std.specs.Cmp.{IsTotalOrder}
use Rattle.std.specs.Ordering.{is_eq}
use Rattle.std.specs.declared.cmp.Ordering.{Ordering}
use Rattle.std.specs.declared.cmp.Ordering.TheVariants.{Less, Equal, Greater}
use Rattle.std.proofs.lemmas.Cmp.{on_total}
use Rattle.sb_laws.specs.Sums.{IsValid}
use Rattle.sb_laws.specs.Tables.{add_to}
use Rattle.sb_laws.proofs.Tables.{first, second, less, truly}
use Rattle.sb_gather.specs.Entries.{IsRising, entry_added}
use Rattle.sb_gather.specs.EntryLaws.{less_back}
use Rattle.sb_gather.specs.Maps.{by_key, values_added}
use Rattle.sb_gather.specs.Places.{IsHere, IsGap}
use Rattle.sb_gather.specs.Tops.{IsRanked}
use Rattle.sb_gather.proofs.Search.{same_some, holds_at, got, ranked_rising, added_here, added_in_gap}
use Rattle.sb_feed.specs.declared.key.KeyBytes.{KeyBytes}
use Rattle.sb_feed.specs.Jobs.{Record, AreValid, Dictionaries}
use Rattle.sb_feed.specs.Keys.{key_order, key_order-IsAntisymmetric}
use Rattle.sb_feed.proofs.KeyTies.{key_order_total}
use Rattle.sb_plan.specs.declared.parts.Entry.{Entry}
use Rattle.sb_plan.specs.Entries.{entry_record}

module _ {E : Type 0} where
  abbrev by_keys : KeyBytes × E → KeyBytes × E → Ordering
  by_keys = by_key key_order

  keys_total : IsTotalOrder by_keys
  keys_total = on_total (λ part. part.0) key_order_total

  above : (k : KeyBytes × E) (parts : List (KeyBytes × E)) → T (below_all key_order k.0 parts) → AllByRecursion (λ y. by_keys k y ≡ Less) parts
  above k [] h = tt
  above k (p ∷ parts) h = (less _ (first _ _ h), above k parts (second _ _ h))

  rising : (parts : List (KeyBytes × E)) → T (is_sorted key_order parts) → IsRising by_keys parts
  rising [] h = tt
  rising (p ∷ parts) h = (above p parts (first _ _ h), rising parts (second _ _ h))

  pub ranked : (parts : List (KeyBytes × E)) → IsTrue (is_sorted key_order parts) → IsRanked by_keys parts
  ranked parts h = ranked_rising by_keys keys_total parts (rising parts (truly _ h))

  -- what stands at a key is what is found there
  found_here : (key : KeyBytes) (parts : List (KeyBytes × E)) (at : ℕ) (p : KeyBytes × E) → IsRising by_keys parts → slice_get parts at ≡ Some p → key_order key p.0 ≡ Equal
      → find key_order key parts ≡ Some p.1
  found_here key [] at p h e q = cc
  found_here key (x ∷ parts) zero p h e q =
      let same = same_some x p e in
      ap (λ r. cond (is_eq r) (Some x.1) (find key_order key parts)) (ap (λ (y : KeyBytes × E). key_order key y.0) same ∙ q) ∙ ap (λ (y : KeyBytes × E). Some y.1) same
  found_here key (x ∷ parts) (suc at) p h e q =
      let up : key_order key x.0 ≡ Greater = key_order_total.congr key p.0 x.0 q ∙ less_back by_keys keys_total x p (holds_at (λ y. by_keys x y ≡ Less) parts at p h.0 e) in
      ap (λ r. cond (is_eq r) (Some x.1) (find key_order key parts)) up ∙ found_here key parts at p h.1 e q

  pub valid_here : (V : E → Type 0) (part : KeyBytes × E) (parts : List (KeyBytes × E)) (at : ℕ) (p : KeyBytes × E) → IsTrue (is_sorted key_order parts) → IsValid V (find key_order part.0 parts)
      → IsHere by_keys part parts at → p ≡ slice_index_or parts at p → V p.1
  valid_here V part parts at p up valid here e =
      let there : slice_get parts at ≡ Some p = got parts at p here.0 e in
      subst (IsValid V) (found_here part.0 parts at p (rising parts (truly _ up)) there (here.1 p there)) valid

  module _ (add : E → E → E) where
    added_as : (part : KeyBytes × E) (parts : List (KeyBytes × E)) → entry_added by_keys (values_added add) part parts ≡ add_to key_order add part.0 part.1 parts
    added_as part [] = refl
    added_as part (x ∷ parts) = ap (λ rest. by_order (key_order part.0 x.0) (part ∷ x ∷ parts) ((x.0, add x.1 part.1) ∷ parts) (x ∷ rest)) (added_as part parts)

    pub added_there : (part : KeyBytes × E) (parts : List (KeyBytes × E)) (at : ℕ) (p : KeyBytes × E) → IsTrue (is_sorted key_order parts) → IsHere by_keys part parts at → p ≡ slice_index_or parts at p
        → slice_set parts at (p.0, add p.1 part.1) ≡ add_to key_order add part.0 part.1 parts
    added_there part parts at p up here e =
        let there : slice_get parts at ≡ Some p = got parts at p here.0 e in
        sym (added_here by_keys keys_total (values_added add) part parts at p (rising parts (truly _ up)) there (here.1 p there)) ∙ added_as part parts

    pub added_between : (part : KeyBytes × E) (parts : List (KeyBytes × E)) (at : ℕ) → IsGap by_keys part parts at → insert parts at part ≡ add_to key_order add part.0 part.1 parts
    added_between part parts at gap = sym (added_in_gap by_keys keys_total (values_added add) part parts at gap.1.0 gap.1.1) ∙ added_as part parts

  -- what holds of all records holds of the one at a place
  pub record_at : (P : Record E → Type 0) (entries : List (Entry E)) (place : ℕ) (entry : Entry E) → place < length entries → entry ≡ slice_index_or entries place entry
      → AllByRecursion P (map entry_record entries) → P (entry_record entry)
  record_at P entries place entry there e h = at entries place (got entries place entry there e) h
    where
      at : (es : List (Entry E)) (i : ℕ) → slice_get es i ≡ Some entry → AllByRecursion P (map entry_record es) → P (entry_record entry)
      at [] i is h = cc
      at (x ∷ es) zero is h = subst (λ y. P (entry_record y)) (same_some x entry is) h.0
      at (x ∷ es) (suc i) is h = at es i is h.1

  -- what is found at a key is an element of the key's store
  pub found_valid : (d : Dictionaries E) (key : KeyBytes) (parts : List (KeyBytes × E)) → AreValid d parts → IsValid (d.valid key.store) (find key_order key parts)
  found_valid d key [] h = tt
  found_valid d key (p ∷ parts) h = elim (key_order key p.0) as (λ r. key_order key p.0 ≡ r → IsValid (d.valid key.store) (cond (is_eq r) (Some p.1) (find key_order key parts))) [
    | Less ↦ λ e. found_valid d key parts h.1
    | Equal ↦ λ e. subst (λ (k : KeyBytes). d.valid k.store p.1) (sym (key_order-IsAntisymmetric key p.0 e)) h.0.1
    | Greater ↦ λ e. found_valid d key parts h.1
  ] refl
