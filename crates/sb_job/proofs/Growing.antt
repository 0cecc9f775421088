-- A value added at its key in a map by hash, against the sums of the values so far.
use Rattle.std.proofs.Common.{◌≡◌, ◌<◌, Bool, true, false, cond, List, [], ◌∷◌, ◌++◌, map, filter, Option, Some, None, refl, sym, ap, subst, ◌∙◌, append-nil, Bor}
use Rattle.std.specs.Prelude.{◌==◌}
use Rattle.std.specs.Cmp.Lexicographic.{pointwise}
use Rattle.std.specs.FinMap.{find}
use Rattle.std.specs.List.{AllByRecursion, IsDistinct}
use Rattle.std.specs.List.Sorted.{IsPermutation}
use Rattle.std.specs.Map.{lookup, set_value}
use Rattle.std.specs.Option.{MatchOption, option_map}
use Rattle.std.specs.declared.result.Result.{Result}
use Rattle.std.specs.declared.result.Result.TheVariants.{Ok, Err}
use Rattle.std.specs.Result.{OnOk, OnErr}
use Rattle.std.proofs.lemmas.Map.Steps.{set_value_same}
use Rattle.std.specs.Ordering.{on, eq_of_both}
use Rattle.std.proofs.lemmas.List.{map-append}
use Rattle.std.proofs.lemmas.List.Elements.{filter-append, recursion_from_All, All-from_recursion}
use Rattle.std.proofs.lemmas.List.Sorted.{All-permutation}
use Rattle.std.specs.Cmp.{eq_by_cmp_equiv}
use Rattle.sb_laws.specs.Sums.{sum_of, both_sums, IsValid}
use Rattle.sb_laws.specs.Tables.{values_at}
use Rattle.sb_laws.proofs.Sums.{sum_last}
use Rattle.sb_feed.specs.declared.key.KeyBytes.{KeyBytes}
use Rattle.sb_feed.specs.Jobs.{Dictionaries, AreValid}
use Rattle.sb_feed.specs.declared.parts.Part.{Part}
use Rattle.sb_feed.specs.Stands.{keyed_values}
use Rattle.sb_feed.specs.Keys.{key_order, same_key}
use Rattle.sb_feed.proofs.KeyTies.{equals_same, key_order_total}
use Rattle.sb_feed.proofs.PartSums.{same_is_equal}
use Rattle.sb_job.specs.Sums.{key_sum, HasKeySums}

-- what `==` answers at keys
abbrev pub equals : KeyBytes → KeyBytes → Bool
equals = eq_of_both (on (λ k. k.store) ◌==◌) (on (λ k. k.text) (pointwise ◌==◌))

apart_of : (k : KeyBytes) (ks : List KeyBytes) → AllByRecursion (λ q. equals k q ≡ false) ks → AllByRecursion (λ q. same_key k q ≡ false) ks
apart_of k [] h = tt
apart_of k (q ∷ ks) h = (sym (equals_same k q) ∙ h.0, apart_of k ks h.1)

-- keys that `==` tells apart have another store or text
pub apart : (ks : List KeyBytes) → IsDistinct equals ks → IsDistinct same_key ks
unfolding IsDistinct
apart [] h = tt
apart (k ∷ ks) h = (apart_of k ks h.0, apart ks h.1)

module _ {E : Type 0} where
  -- a map and a table find the same
  pub lookup_is_find : (q : KeyBytes) (es : List (KeyBytes × E)) → lookup (equals q) es ≡ find key_order q es
  lookup_is_find q [] = refl
  lookup_is_find q (e ∷ es) = ap (λ b. cond b (Some e.1) (lookup (equals q) es)) (equals_same q e.0) ∙ ap (λ o. cond (same_key q e.0) (Some e.1) o) (lookup_is_find q es)

pub whatever : {T R P : Type 0} (r : Result T R) → P → OnErr r P
whatever (Ok _) p = tt
whatever (Err _) p = p

-- what is lent is what is found
pub lent_is : {E : Type 0} (lent : Option (Bor E)) (found : Option E) → option_map (λ value. value.now) lent ≡ found → MatchOption lent (found ≡ None) (λ value. found ≡ Some value.now)
lent_is None found e = sym e
lent_is (Some value) found e = sym e

pub found_is : {E : Type 0} (lent : Option (Bor E)) (found : Option E) → MatchOption lent (found ≡ None) (λ value. found ≡ Some value.now) → option_map (λ value. value.now) lent ≡ found
found_is None found e = sym e
found_is (Some value) found e = sym e

module _ {E : Type 0} (d : Dictionaries E) where
  same_turned : (a b : KeyBytes) → same_key a b ≡ same_key b a
  same_turned a b = (eq_by_cmp_equiv key_order_total).symm a b

  sum_more : (key at : KeyBytes) (value : E) (values : List E) (is : Bool) → same_key at key ≡ is
      → sum_of (d.add key.store) (values ++ map (λ (x : KeyBytes × E). x.1) (cond is ((at, value) ∷ []) [])) ≡ cond is (both_sums (d.add at.store) (sum_of (d.add key.store) values) (Some value)) (sum_of (d.add key.store) values)
  sum_more key at value values true e =
      sum_last (d.add key.store) values value
      ∙ ap (λ (k : KeyBytes). both_sums (d.add k.store) (sum_of (d.add key.store) values) (Some value)) (sym (same_is_equal at key e))
  sum_more key at value values false e = ap (sum_of (d.add key.store)) (append-nil values)

  -- one value more
  pub key_sum_more : (q key : KeyBytes) (value : E) (values : List (KeyBytes × E))
      → key_sum d q (values ++ (key, value) ∷ []) ≡ cond (same_key key q) (both_sums (d.add key.store) (key_sum d q values) (Some value)) (key_sum d q values)
  key_sum_more q key value values =
      ap (λ l. sum_of (d.add q.store) (map (λ (x : KeyBytes × E). x.1) l)) (filter-append (λ (x : KeyBytes × E). same_key q x.0) values ((key, value) ∷ []))
      ∙ (ap (sum_of (d.add q.store)) (map-append (λ (x : KeyBytes × E). x.1) (filter (λ x. same_key q x.0) values) (cond (same_key q key) ((key, value) ∷ []) []))
      ∙ (ap (λ b. sum_of (d.add q.store) (values_at key_order q values ++ map (λ (x : KeyBytes × E). x.1) (cond b ((key, value) ∷ []) []))) (same_turned q key)
      ∙ sum_more q key value (values_at key_order q values) _ refl))

  -- the sums with a value, where the map has the new sum at its key and at each other key what it had
  pub sums_with : (key : KeyBytes) (value sum : E) (before now : List (KeyBytes × E)) → ((q : KeyBytes) → lookup (equals q) now ≡ cond (equals key q) (Some sum) (lookup (equals q) before))
      → Some sum ≡ both_sums (d.add key.store) (lookup (equals key) before) (Some value)
      → (values : List (KeyBytes × E)) → HasKeySums d values before → HasKeySums d (values ++ (key, value) ∷ []) now
  sums_with key value sum before now puts is values has q =
      sym (lookup_is_find q now)
      ∙ (puts q
      ∙ (ap (λ b. cond b (Some sum) (lookup (equals q) before)) (equals_same key q)
      ∙ (at _ refl
      ∙ sym (key_sum_more q key value values))))
    where
      at : (b : Bool) → same_key key q ≡ b → cond b (Some sum) (lookup (equals q) before) ≡ cond b (both_sums (d.add key.store) (key_sum d q values) (Some value)) (key_sum d q values)
      at true e = is ∙ ap (λ o. both_sums (d.add key.store) o (Some value)) (lookup_is_find key before ∙ (has key ∙ ap (λ k. key_sum d k values) (same_is_equal key q e)))
      at false e = lookup_is_find q before ∙ has q

  set_valid : (key : KeyBytes) (sum : E) (es : List (KeyBytes × E)) → AreValid d es → (key.store < d.stores) × d.valid key.store sum → AreValid d (set_value (equals key) es sum)
  set_valid key sum [] h v = tt
  set_valid key sum (e ∷ es) h v = elim (equals key e.0) as (λ b. equals key e.0 ≡ b → AreValid d (cond b ((e.0, sum) ∷ es) (e ∷ set_value (equals key) es sum))) [
    | true ↦ λ is. (subst (λ (k : KeyBytes). (k.store < d.stores) × d.valid k.store sum) (same_is_equal key e.0 (sym (equals_same key e.0) ∙ is)) v, h.1)
    | false ↦ λ is. (h.0, set_valid key sum es h.1 v)
  ] refl

  pub permuted_valid : (xs ys : List (KeyBytes × E)) → IsPermutation xs ys → AreValid d xs → AreValid d ys
  permuted_valid xs ys p h =
      let P : KeyBytes × E → Type 0 = λ row. (row.0.store < d.stores) × d.valid row.0.store row.1 in
      recursion_from_All P ys (All-permutation P xs ys p (All-from_recursion P xs h))

  -- a valid sum put at a key keeps all valid
  pub put_valid : (key : KeyBytes) (sum : E) (before now : List (KeyBytes × E)) (old : Option E)
      → MatchOption old (IsPermutation ((key, sum) ∷ before) now) (λ _. now ≡ set_value (equals key) before sum)
      → AreValid d before → (key.store < d.stores) × d.valid key.store sum → AreValid d now
  put_valid key sum before now None puts h v = permuted_valid ((key, sum) ∷ before) now puts (v, h)
  put_valid key sum before now (Some _) puts h v = subst (AreValid d) (sym puts) (set_valid key sum before h v)

  -- what is found is valid
  pub found_valid : (key : KeyBytes) (es : List (KeyBytes × E)) (sum : E) → lookup (equals key) es ≡ Some sum → AreValid d es → d.valid key.store sum
  found_valid key es sum is h = subst (IsValid (d.valid key.store)) is (all es h)
    where
      all : (es : List (KeyBytes × E)) → AreValid d es → IsValid (d.valid key.store) (lookup (equals key) es)
      all [] h = tt
      all (e ∷ es) h = elim (equals key e.0) as (λ b. equals key e.0 ≡ b → IsValid (d.valid key.store) (cond b (Some e.1) (lookup (equals key) es))) [
        | true ↦ λ is. subst (λ (k : KeyBytes). d.valid k.store e.1) (sym (same_is_equal key e.0 (sym (equals_same key e.0) ∙ is))) h.0.1
        | false ↦ λ is. all es h.1
      ] refl

  -- the sum that is there put in its own place
  pub put_same : (key : KeyBytes) (sum : E) (before now : List (KeyBytes × E)) (old : Option E) → lookup (equals key) before ≡ Some sum → lookup (equals key) before ≡ old
      → MatchOption old (IsPermutation ((key, sum) ∷ before) now) (λ _. now ≡ set_value (equals key) before sum) → now ≡ before
  put_same key sum before now None found is puts = (let no : None ≡ Some sum = sym is ∙ found in cc)
  put_same key sum before now (Some _) found is puts = puts ∙ set_value_same (equals key) before sum found

  -- what is written is valid, whether it is the new sum or the old one
  pub written_valid : {T R : Type 0} (V : E → Type 0) (r : Result T R) (sum after before : E) → OnOk r (sum ≡ after) → OnErr r (sum ≡ before) → V after → V before → V sum
  written_valid V (Ok _) sum after before ok err a b = subst V (sym ok) a
  written_valid V (Err _) sum after before ok err a b = subst V (sym err) b

pub keyed_last : {E : Type 0} (before : List (Part E)) (part : Part E) → keyed_values (before ++ part ∷ []) ≡ keyed_values before ++ (part.key, part.value) ∷ []
keyed_last [] part = refl
keyed_last (first ∷ before) part = ap (λ l. (first.key, first.value) ∷ l) (keyed_last before part)
