-- The keys of the two stores are the keys with a sum.
use Rattle.std.proofs.Common.{◌≡◌, ◌⊎◌, inl, inr, ℕ, Bool, true, false, cond, ◌&&◌, ◌||◌, List, [], ◌∷◌, map, filter, None, refl, sym, ap, ◌∙◌, arith}
use Rattle.std.specs.Prelude.{nat_le, ◌==◌, is_some, IsSome, IsTrue, ◌↔◌}
use Rattle.std.specs.List.{list_any}
use Rattle.std.specs.List.Sorted.{IsStrictlySortedBy}
use Rattle.std.proofs.lemmas.Bool.Decides.{nat_tests}
use Rattle.sb_feed.specs.declared.key.KeyBytes.{KeyBytes}
use Rattle.sb_feed.specs.declared.parts.Part.{Part}
use Rattle.sb_feed.specs.Keys.{key_order, same_key}
use Rattle.sb_feed.specs.Stands.{batch_value, key_values, sum_at}
use Rattle.sb_offline.specs.Offlines as offline
use Rattle.sb_offline.specs.Offlines.{base_values}
use Rattle.sb_offline.proofs.HeldKeys.{some_fold, either, left, right, both_true, together, any_more, any_passes}
use Rattle.sb_offline.proofs.HeldKeys as held
use Rattle.sb_online.specs.Onlines.{parts_of}
use Rattle.sb_shard.specs.Shards.{ShardValue, shard_sums, online_sum, published_to}
use Rattle.sb_shard.specs.Asks.{HasSum, HasKeys}

abbrev of_offline : {E : Type 0} → KeyBytes → ShardValue E → Bool
of_offline q h = list_any (λ row. same_key q row.0) (base_values h.offline) || list_any (list_any (λ row. same_key q row.0)) h.offline.rows

abbrev of_online : {E : Type 0} → KeyBytes → ShardValue E → Bool
of_online q h = list_any (λ part. same_key q part.key && nat_le (published_to h) part.batch) (parts_of h.online)

module _ {E : Type 0} (q : KeyBytes) where
  any_values : (j : ℕ) (parts : List (Part E)) → list_any (λ pair. pair.0 == j) (key_values q parts) ≡ list_any (λ part. same_key q part.key && (part.batch == j)) parts
  any_values j [] = refl
  any_values j (x ∷ xs) = elim (same_key q x.key) as (λ b. list_any (λ (pair : ℕ × E). pair.0 == j) (map batch_value (cond b (x ∷ filter (λ part. same_key q part.key) xs) (filter (λ part. same_key q part.key) xs))) ≡ ((b && (x.batch == j)) || list_any (λ part. same_key q part.key && (part.batch == j)) xs)) [
    | true ↦ ap (λ t. (x.batch == j) || t) (any_values j xs)
    | false ↦ any_values j xs
  ]

  some_sum : (add : ℕ → E → E → E) (j : ℕ) (parts : List (Part E)) → is_some (sum_at add q j parts) ≡ list_any (λ part. same_key q part.key && (part.batch == j)) parts
  some_sum add j parts = some_fold (add q.store) (λ b. b == j) (key_values q parts) ∙ any_values j parts

  module _ (add : ℕ → E → E → E) (h : ShardValue E) where
    of_part : of_online q h ≡ true → (j : ℕ) × IsSome (online_sum add h q j)
    of_part e =
        let p = any_passes (λ (part : Part E). same_key q part.key && nat_le (published_to h) part.batch) (parts_of h.online) e in
        let is = both_true (same_key q p.one.key) (nat_le (published_to h) p.one.batch) p.passes in
        let same : (p.one.batch == p.one.batch) ≡ true = grind (arith, nat_tests) in (
          p.one.batch,
          ap (λ t. is_some (cond t (sum_at add q p.one.batch (parts_of h.online)) None)) is.1
              ∙ (some_sum add p.one.batch (parts_of h.online) ∙ p.there (λ part. same_key q part.key && (part.batch == p.one.batch)) (together (same_key q p.one.key) (p.one.batch == p.one.batch) is.0 same)),
        )

    part_of : (j : ℕ) → IsSome (online_sum add h q j) → of_online q h ≡ true
    part_of j e = tested (nat_le (published_to h) j) refl e
      where
        later : (part : Part E) → nat_le (published_to h) j ≡ true → (same_key q part.key && (part.batch == j)) ≡ true → (same_key q part.key && nat_le (published_to h) part.batch) ≡ true
        later part k f =
            let is = both_true (same_key q part.key) (part.batch == j) f in
            together (same_key q part.key) (nat_le (published_to h) part.batch) is.0 (let l = is.1 in grind (arith, nat_tests))

        tested : (t : Bool) → nat_le (published_to h) j ≡ t → is_some (cond t (sum_at add q j (parts_of h.online)) None) ≡ true → of_online q h ≡ true
        tested false k f = cc
        tested true k f = any_more (λ (part : Part E). same_key q part.key && (part.batch == j)) (λ part. same_key q part.key && nat_le (published_to h) part.batch) (parts_of h.online) (λ part. later part k) (sym (some_sum add j (parts_of h.online)) ∙ f)

    has_sum : (t : Bool) → t ≡ (of_offline q h || of_online q h) → IsTrue t ↔ HasSum (shard_sums add h) q
    has_sum t e = (λ is. there (either _ _ (sym e ∙ is)), back)
      where
        offline_has : IsTrue (of_offline q h) ↔ offline.HasSum add h.offline q
        offline_has = held.has_sum q add h.offline (of_offline q h) refl

        placed : offline.HasSum add h.offline q → HasSum (shard_sums add h) q
        placed (inl k) = inl k
        placed (inr k) = inr (inl k)

        there : (of_offline q h ≡ true) ⊎ (of_online q h ≡ true) → HasSum (shard_sums add h) q
        there (inl k) = placed (offline_has.0 k)
        there (inr k) = inr (inr (of_part k))

        back : HasSum (shard_sums add h) q → IsTrue t
        back (inl k) = e ∙ left _ _ (offline_has.1 (inl k))
        back (inr (inl k)) = e ∙ left _ _ (offline_has.1 (inr k))
        back (inr (inr k)) = e ∙ right _ _ (part_of k.0 k.1)

or_grouped : (n o p : Bool) → ((n || o) || p) ≡ (n || (o || p))
or_grouped true o p = refl
or_grouped false o p = refl

-- a rising list of the keys that were put into an empty set, first those of the offline store
pub held_keys : {E : Type 0} (h : ShardValue E) (none some all list : List KeyBytes) → IsStrictlySortedBy key_order list → none ≡ [] → list ≡ all
    → ((q : KeyBytes) → list_any (same_key q) some ≡ (list_any (same_key q) none || of_offline q h))
    → ((q : KeyBytes) → list_any (same_key q) all ≡ (list_any (same_key q) some || of_online q h))
    → (add : ℕ → E → E → E) → HasKeys (shard_sums add h) list
held_keys h none some all list rising empty is first second add = record {
  rising = rising;
  each = λ q. has_sum q add h (list_any (same_key q) list)
      (ap (list_any (same_key q)) is
      ∙ (second q
      ∙ (ap (λ t. t || of_online q h) (first q)
      ∙ (or_grouped (list_any (same_key q) none) (of_offline q h) (of_online q h)
      ∙ ap (λ (l : List KeyBytes). list_any (same_key q) l || (of_offline q h || of_online q h)) empty))));
}
