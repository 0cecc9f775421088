-- What parts keep where values are added to them.
use Rattle.std.proofs.Common.{◌≡◌, ℕ, ◌<◌, true, false, cond, List, [], ◌∷◌, map, filter, length, Some, refl, sym, ap, subst}
use Rattle.std.specs.Prelude.{slice_get}
use Rattle.std.specs.FinMap.Entries.{by_order}
use Rattle.std.specs.List.{AllByRecursion}
use Rattle.std.specs.Str.{bytes_eq}
use Rattle.std.specs.declared.cmp.Ordering.TheVariants.{Less, Equal, Greater}
use Rattle.sb_laws.specs.Tables.{add_to}
use Rattle.sb_feed.specs.declared.key.KeyBytes.{KeyBytes}
use Rattle.sb_feed.specs.Jobs.{meant, valid_by, AreValid}
use Rattle.sb_feed.specs.Keys.{key_order, key_order-IsAntisymmetric}
use Rattle.sb_plan.specs.Emitted.{Emission, of_key}
use Rattle.sb_plan.specs.Parts.{key_at, with_fed}

module _ {E : Type 0} where
  -- what holds of emissions holds of a key's values
  pub all_of_key : (P : ℕ × E → Type 0) (key : List ℕ) (all : List (Emission E)) → AllByRecursion (λ e. P (e.position, e.value)) all → AllByRecursion P (of_key key all)
  all_of_key P key [] h = tt
  all_of_key P key (e ∷ all) h = elim (bytes_eq e.key key) as (λ b. AllByRecursion P (map (λ (x : Emission E). (x.position, x.value)) (cond b (e ∷ filter (λ x. bytes_eq x.key key) all) (filter (λ x. bytes_eq x.key key) all)))) [
    | true ↦ (h.0, all_of_key P key all h.1)
    | false ↦ all_of_key P key all h.1
  ]

module _ {M E : Type 0} (valid : M → E → Type 0) (add : M → E → E → E) (monoids : List M) (store : ℕ) (m : M) (at : slice_get monoids store ≡ Some m) (there : store < length monoids)
    (keeps : (a b : E) → valid m a → valid m b → valid m (add m a b)) where
  pub parts_valid : (text : List ℕ) (value : E) (parts : List (KeyBytes × E)) → valid m value → AreValid (meant valid add monoids) parts → AreValid (meant valid add monoids) (add_to key_order (add m) (key_at store text) value parts)
  parts_valid text value [] v h = ((there, subst (λ o. valid_by valid o value) (sym at) v), tt)
  parts_valid text value (p ∷ parts) v h =
      elim (key_order (key_at store text) p.0) as (λ o. key_order (key_at store text) p.0 ≡ o → AreValid (meant valid add monoids)
      (by_order o ((key_at store text, value) ∷ p ∷ parts) ((p.0, add m p.1 value) ∷ parts) (p ∷ add_to key_order (add m) (key_at store text) value parts))) [
        | Less ↦ λ e. ((there, subst (λ o. valid_by valid o value) (sym at) v), h)
        | Equal ↦ λ e.
            let same : store ≡ p.0.store = ap (λ k. k.store) (key_order-IsAntisymmetric (key_at store text) p.0 e) in
            let mine : slice_get monoids p.0.store ≡ Some m = subst (λ s. slice_get monoids s ≡ Some m) same at in
            let old : valid m p.1 = subst (λ o. valid_by valid o p.1) mine h.0.1 in
            ((h.0.0, subst (λ o. valid_by valid o (add m p.1 value)) (sym mine) (keeps p.1 value old v)), h.1)
        | Greater ↦ λ e. (h.0, parts_valid text value parts v h.1)
      ] refl

  -- parts stay valid with valid elements
  pub with_fed_valid : (fed : List (List ℕ × E)) (parts : List (KeyBytes × E)) → AllByRecursion (λ x. valid m x.1) fed → AreValid (meant valid add monoids) parts → AreValid (meant valid add monoids) (with_fed (add m) store fed parts)
  with_fed_valid [] parts v h = h
  with_fed_valid (x ∷ fed) parts v h = with_fed_valid fed (add_to key_order (add m) (key_at store x.0) x.1 parts) v.1 (parts_valid x.0 x.1 parts v.0 h)
