-- What the dictionaries of a family mean is what the type of its dictionaries says of each.
use Rattle.std.proofs.Common.{◌≡◌, ℕ, zero, suc, ◌<◌, List, [], ◌∷◌, length, Some, refl, subst, sym, arith}
use Rattle.std.specs.Prelude.{slice_get}
use Rattle.sb_laws.specs.Sums.{SemigroupLaws, CommutingLaws}
use Rattle.sb_feed.specs.Jobs.{meant, valid_by, add_by, Commute}

dictionary_at : {M : Type 0} (monoids : List M) (store : ℕ) → store < length monoids → (m : M) × (slice_get monoids store ≡ Some m)
dictionary_at [] store h = absurd (omega (arith, h))
dictionary_at (m ∷ monoids) zero h = (m, refl)
dictionary_at (m ∷ monoids) (suc store) h = dictionary_at monoids store (omega (arith, h))

module _ {M E : Type 0} (valid : M → E → Type 0) (add : M → E → E → E) where
  -- where each dictionary of the type is a semigroup, so is that of each store
  pub stores_add : ((m : M) → SemigroupLaws (valid m) (add m)) → (monoids : List M) (store : ℕ) → store < length monoids
      → SemigroupLaws ((meant valid add monoids).valid store) ((meant valid add monoids).add store)
  stores_add laws monoids store h =
      let at = dictionary_at monoids store h in
      subst (λ o. SemigroupLaws (valid_by valid o) (add_by add o)) (sym at.1) (laws at.0)

  -- where each commutes, that of each store does
  pub stores_commute : ((m : M) → CommutingLaws (valid m) (add m)) → (monoids : List M) → Commute (meant valid add monoids)
  stores_commute laws monoids store h =
      let at = dictionary_at monoids store h in
      subst (λ o. CommutingLaws (valid_by valid o) (add_by add o)) (sym at.1) (laws at.0)
