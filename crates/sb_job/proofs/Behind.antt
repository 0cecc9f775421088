-- Sums of values that come behind others.
use Rattle.std.proofs.Common.{◌≡◌, ◌⊎◌, inl, inr, ℕ, ◌<◌, ◌≤◌, true, false, cond, List, [], ◌∷◌, ◌++◌, map, filter, Option, Some, None, refl, sym, ap, subst, ◌∙◌, arith}
use Rattle.std.specs.List.{AllByRecursion, IsDistinct}
use Rattle.std.specs.Map.{keys_of}
use Rattle.std.specs.FinMap.{find}
use Rattle.std.proofs.lemmas.Bool.{cases_lt}
use Rattle.sb_laws.specs.Sums.{IsValid, SemigroupLaws, both_sums, sum_of}
use Rattle.sb_laws.specs.Tables.{values_at}
use Rattle.sb_laws.proofs.Sums.{sum_append, sum_valid}
use Rattle.sb_feed.specs.declared.key.KeyBytes.{KeyBytes}
use Rattle.sb_feed.specs.Keys.{key_order, same_key}
use Rattle.sb_feed.specs.Jobs.{AreValid, Dictionaries}
use Rattle.sb_feed.proofs.PartSums.{same_is_equal}
use Rattle.sb_job.specs.ByBatch.{one_or_none}
use Rattle.sb_job.specs.Sums.{HasKeySums, key_sum}
use Rattle.sb_job.proofs.Listed.{all_valid, distinct_value, one_sum, values_both}

one_valid : {E : Type 0} (V : E → Type 0) (o : Option E) → IsValid V o → AllByRecursion V (one_or_none o)
one_valid V None h = tt
one_valid V (Some v) h = (h, tt)

-- values are added behind others one by one, or summed up
added_behind : {E : Type 0} (V : E → Type 0) (add : E → E → E) → SemigroupLaws V add → (xs ys : List E) (o : Option E) → AllByRecursion V xs → AllByRecursion V ys → o ≡ sum_of add ys
    → sum_of add (xs ++ one_or_none o) ≡ sum_of add (xs ++ ys)
added_behind V add laws xs ys o vx vy is =
    sum_append V add laws xs (one_or_none o) vx (one_valid V o (subst (IsValid V) (sym is) (sum_valid V add laws ys vy)))
    ∙ (ap (both_sums add (sum_of add xs)) (sym (one_sum add o) ∙ is) ∙ sym (sum_append V add laws xs ys vx vy))

module _ {E : Type 0} (d : Dictionaries E) where
  -- a store that isn't there has no values
  none_there : (key : KeyBytes) (rows : List (KeyBytes × E)) → d.stores ≤ key.store → AreValid d rows → values_at key_order key rows ≡ []
  none_there key [] above h = refl
  none_there key (x ∷ xs) above h = elim (same_key key x.0) as (λ b. (same_key key x.0 ≡ b) → map (λ (y : KeyBytes × E). y.1) (cond b (x ∷ filter (λ y. same_key key y.0) xs) (filter (λ y. same_key key y.0) xs)) ≡ []) [
    | true ↦ λ e. absurd (let store : key.store ≡ x.0.store = ap (λ (k : KeyBytes). k.store) (same_is_equal key x.0 e) in let less = h.0.0 in omega (arith, store, less, above))
    | false ↦ λ e. none_there key xs above h.1
  ] refl

  module _ (laws : (store : ℕ) → store < d.stores → SemigroupLaws (d.valid store) (d.add store)) (values later more : List (KeyBytes × E))
      (valid : AreValid d values) (valid_later : AreValid d later) (apart : IsDistinct same_key (keys_of more)) (has : HasKeySums d later more) where
    at_key : (key : KeyBytes) → (key.store < d.stores) ⊎ (d.stores ≤ key.store)
        → sum_of (d.add key.store) (values_at key_order key values ++ one_or_none (find key_order key more)) ≡ sum_of (d.add key.store) (values_at key_order key values ++ values_at key_order key later)
    at_key key (inl there) =
        added_behind (d.valid key.store) (d.add key.store) (laws key.store there) (values_at key_order key values) (values_at key_order key later) (find key_order key more)
        (all_valid d key values valid) (all_valid d key later valid_later) (has key)
    at_key key (inr above) =
        let none = none_there key later above valid_later in
        ap (λ l. sum_of (d.add key.store) (values_at key_order key values ++ l)) (ap one_or_none (has key ∙ ap (sum_of (d.add key.store)) none) ∙ sym none)

    -- sums with what comes behind, summed up, are sums with it
    pub key_behind : (key : KeyBytes) → key_sum d key (values ++ more) ≡ key_sum d key (values ++ later)
    key_behind key =
        ap (sum_of (d.add key.store)) (values_both key values more ∙ ap (λ l. values_at key_order key values ++ l) (distinct_value key more apart))
        ∙ (at_key key (cases_lt key.store d.stores) ∙ sym (ap (sum_of (d.add key.store)) (values_both key values later)))
