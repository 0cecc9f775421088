-- A new shard, a flush and an installation.
use Rattle.std.proofs.Common.{◌≡◌, ◌⊎◌, inl, inr, ℕ, zero, suc, ◌+◌, ◌<◌, ◌≤◌, Bool, true, false, cond, not, ◌&&◌, ◌||◌, List, [], ◌∷◌, ◌++◌, length, get_or, Option, None, refl, sym, ap, subst, ◌∙◌, append-nil, filter, arith}
use Rattle.std.specs.Prelude.{nat_lt, nat_le, ◌==◌, Contains}
use Rattle.std.specs.List.{flat_map}
use Rattle.std.specs.FinMap.{find}
use Rattle.std.proofs.lemmas.List.{length-append}
use Rattle.std.proofs.lemmas.List.Elements.{Contains-append_left, Contains-append_right, Contains-append_cases}
use Rattle.std.proofs.lemmas.Grind.{flat_map-append}
use Rattle.std.proofs.lemmas.Bool.Decides.{nat_tests}
use Rattle.sb_text.specs.Ranges.{put, union}
use Rattle.sb_laws.specs.Sums.{both_sums}
use Rattle.sb_laws.specs.Folds.{IsSplit}
use Rattle.sb_laws.proofs.Sums.{valid_right}
use Rattle.sb_laws.proofs.Positions.{ap_both, fold_same, fold_none, fold_if, fold_splits}
use Rattle.sb_laws.proofs.Sets.{split_and, split_or}
use Rattle.sb_feed.specs.declared.key.KeyBytes.{KeyBytes}
use Rattle.sb_feed.specs.declared.parts.Part.{Part}
use Rattle.sb_feed.specs.declared.parts.Parcel.{Parcel}
use Rattle.sb_feed.specs.declared.rows.Rows.{Rows}
use Rattle.sb_feed.specs.Keys.{key_order}
use Rattle.sb_feed.specs.Places.{batches_of, batch_at, chunk_at, is_of_shard, is_in}
use Rattle.sb_feed.specs.Jobs.{CutLog, Dictionaries, Commute, IsLogOf, AreValid, places_of, log_values, log_fold}
use Rattle.sb_feed.specs.Stands.{sum_at, keyed_values, AreFoldsOf, IsShardOf, IsParcelOf, AreRowsBy}
use Rattle.sb_feed.proofs.PartSums.{sum_filter, sum_both, keyed_filter}
use Rattle.sb_feed.proofs.LogValues.{log_values_valid}
use Rattle.sb_offline.specs.Offlines as offline
use Rattle.sb_offline.specs.Offlines.{OfflineValue, base_values}
use Rattle.sb_online.specs.Onlines as online
use Rattle.sb_online.specs.Onlines.{OnlineValue, parts_of, parts_from, without, ShareNone}
use Rattle.sb_shard.specs.Shards.{ShardValue, shard_sums, kept_by, published_to}
use Rattle.sb_shard.specs.Events.{IsFlushed, IsInstalled}

or_again : (a b : Bool) → (a || b) ≡ (a || (a || b))
or_again true b = refl
or_again false b = refl

or_turn : (a b c : Bool) → (a || (b || c)) ≡ (b || (a || c))
or_turn true true c = refl
or_turn true false c = refl
or_turn false true c = refl
or_turn false false c = refl

in_placed : (c n m : ℕ) (numbers : List ℕ) (less same : Bool) → (n == m) ≡ same → is_in (put n numbers) c ≡ ((n == c) || is_in numbers c)
    → is_in (cond less (n ∷ m ∷ numbers) (cond same (m ∷ numbers) (m ∷ put n numbers))) c ≡ ((n == c) || ((m == c) || is_in numbers c))
in_placed c n m numbers true same e rest = refl
in_placed c n m numbers false true e rest = let is : n ≡ m = grind (arith, nat_tests) in rw is (or_again (m == c) (is_in numbers c))
in_placed c n m numbers false false e rest = ap (λ t. (m == c) || t) rest ∙ or_turn (m == c) (n == c) (is_in numbers c)

-- what is in a set with a number put into it
in_put : (c n : ℕ) (numbers : List ℕ) → is_in (put n numbers) c ≡ ((n == c) || is_in numbers c)
in_put c n [] = refl
in_put c n (m ∷ numbers) = in_placed c n m numbers (nat_lt n m) (n == m) refl (in_put c n numbers)

in_union : (c : ℕ) (xs ys : List ℕ) → is_in (union xs ys) c ≡ (is_in xs c || is_in ys c)
in_union c xs [] = or_false (is_in xs c)
  where
    or_false : (a : Bool) → a ≡ (a || false)
    or_false true = refl
    or_false false = refl
in_union c xs (y ∷ ys) = in_put c y (union xs ys) ∙ (ap (λ t. (y == c) || t) (in_union c xs ys) ∙ or_turn (y == c) (is_in xs c) (is_in ys c))

no_four : (a b c : Bool) → (a && (b && (c && false))) ≡ false
no_four true true true = refl
no_four true true false = refl
no_four true false c = refl
no_four false b c = refl

below_none : (a b : Bool) (c j : ℕ) → (a && (b && (nat_le c j && nat_lt j 0))) ≡ false
below_none a b c j = let e : nat_lt j 0 ≡ false = grind (arith, nat_tests) in rw e (no_four a b (nat_le c j))

under_zero : (a : Bool) (j : ℕ) → (a && nat_lt j 0) ≡ false
under_zero a j = let e : nat_lt j 0 ≡ false = grind (arith, nat_tests) in rw e (last a)
  where
    last : (t : Bool) → (t && false) ≡ false
    last true = refl
    last false = refl

inwards : (t a b c : Bool) → (t && (a && (b && c))) ≡ (a && (b && (t && c)))
inwards true a b c = refl
inwards false true true c = refl
inwards false true false c = refl
inwards false false b c = refl

inwards_joined : (t a b u c : Bool) → (t && u) ≡ t → (t && (a && (b && (u && c)))) ≡ (a && (b && (t && c)))
inwards_joined true a b true c e = refl
inwards_joined true a b false c e = cc
inwards_joined false true true u c e = refl
inwards_joined false true false u c e = refl
inwards_joined false false b u c e = refl

-- a new shard's sums are the folds of every log
pub new_folds : {E : Type 0} (stores : ℕ) (add : ℕ → E → E → E) (log : CutLog E) (shard : ℕ) → AreFoldsOf stores add log shard (shard_sums add (record { offline = record { base = []; waiting = []; rows = []; floor = 0 }; online = record { tables = []; waiting = []; cover = [] } }))
new_folds {E} stores add log shard = record {
  floor = omega arith;
  last = omega arith;
  lag = inl refl;
  base = λ key known. sym (fold_none (add key.store) (log_values log key) _ (λ i. under_zero (is_of_shard (places_of log) shard key) (batch_at (places_of log) i)));
  published = λ key j known. sym (fold_none (add key.store) (log_values log key) _ (λ i. below_none (is_of_shard (places_of log) shard key) (batch_at (places_of log) i == j) 0 j));
  online = λ key j known. if_none (nat_le 0 j) ∙ sym (fold_none (add key.store) (log_values log key) _ (λ i. no_four (is_of_shard (places_of log) shard key) (batch_at (places_of log) i == j) (nat_le 0 j)));
}
  where
    none : Option E
    none = None

    if_none : (t : Bool) → cond t none none ≡ none
    if_none true = refl
    if_none false = refl

module _ {E : Type 0} (d : Dictionaries E) (parcel : Parcel E) (h after : ShardValue E) (flushed : IsFlushed d.add parcel h after) (log : CutLog E) (shard : ℕ) (commute : Commute d) (valid : IsLogOf d log) (of : IsParcelOf d log shard parcel) (fresh : ShareNone h.online.cover parcel.chunks) (stands : IsShardOf d log shard (shard_sums d.add h)) where
  if_both : (add : E → E → E) (t : Bool) (a b : Option E) → cond t (both_sums add a (cond t b None)) None ≡ both_sums add (cond t a None) (cond t b None)
  if_both add true a b = refl
  if_both add false a b = refl

  parts_valid : AreValid d (keyed_values (parts_of h.online))
  parts_valid = valid_right _ (offline.kept_by h.offline) (keyed_values (parts_of h.online)) stands.valid

  flushed_online : (key : KeyBytes) (j : ℕ) → key.store < d.stores
      → cond (nat_le (published_to h) j) (online.online_sum d.add after.online key j) None
      ≡ log_fold d.add log key (λ i. is_of_shard (places_of log) shard key && (batch_at (places_of log) i == j && (nat_le (published_to h) j && is_in (union h.online.cover parcel.chunks) (chunk_at (places_of log) i))))
  flushed_online key j known =
      let p = published_to h in
      let a = d.add key.store in
      let xs = log_values log key in
      let laws = commute key.store known in
      let late = parts_from p parcel.parts in
      ap (λ x. cond (nat_le p j) x None) (flushed.sums key j ∙ (sum_both d key j (parts_of h.online) late laws.semigroup parts_valid (keyed_filter d (λ part. nat_le p part.batch) parcel.parts of.valid) ∙ ap (both_sums a (sum_at d.add key j (parts_of h.online))) (sum_filter d.add (λ b. nat_le p b) key j parcel.parts)))
      ∙ (if_both a (nat_le p j) (sum_at d.add key j (parts_of h.online)) (sum_at d.add key j parcel.parts)
      ∙ (ap_both (both_sums a) (stands.folds.online key j known)
      (ap (λ x. cond (nat_le p j) x None) (of.sums key j known)
      ∙ (sym (fold_if a xs (nat_le p j) (λ i. is_of_shard (places_of log) shard key && (batch_at (places_of log) i == j && is_in parcel.chunks (chunk_at (places_of log) i))))
      ∙ fold_same a xs _ (λ i. is_of_shard (places_of log) shard key && (batch_at (places_of log) i == j && (nat_le p j && is_in parcel.chunks (chunk_at (places_of log) i)))) (λ i. inwards (nat_le p j) (is_of_shard (places_of log) shard key) (batch_at (places_of log) i == j) (is_in parcel.chunks (chunk_at (places_of log) i)))))
      ∙ sym (fold_splits (d.valid key.store) a laws xs _ _ _ (log_values_valid d key log valid) (λ i.
      split_and (is_of_shard (places_of log) shard key) _ _ _ (split_and (batch_at (places_of log) i == j) _ _ _ (split_and (nat_le p j) _ _ _
      (subst (λ u. IsSplit u (is_in h.online.cover (chunk_at (places_of log) i)) (is_in parcel.chunks (chunk_at (places_of log) i))) (sym (in_union (chunk_at (places_of log) i) h.online.cover parcel.chunks))
      (split_or (is_in h.online.cover (chunk_at (places_of log) i)) (is_in parcel.chunks (chunk_at (places_of log) i)) (fresh (chunk_at (places_of log) i))))))))))

  -- the shard stands for the log after the parcel
  pub stands_flushed : AreValid d (kept_by after) → IsShardOf d log shard (shard_sums d.add after)
  stands_flushed kept = record {
    folds = subst (λ o. AreFoldsOf d.stores d.add log shard (shard_sums d.add (record { offline = o; online = after.online }))) (sym flushed.offline) (record {
      floor = stands.folds.floor;
      last = stands.folds.last;
      lag = stands.folds.lag;
      base = stands.folds.base;
      published = stands.folds.published;
      online = λ key j known. flushed_online key j known ∙ fold_same (d.add key.store) (log_values log key) _ _ (λ i.
          ap (λ cover. is_of_shard (places_of log) shard key && (batch_at (places_of log) i == j && (nat_le (published_to h) j && is_in cover (chunk_at (places_of log) i)))) (sym flushed.cover));
    });
    valid = kept;
  }

last_place : {A : Type 0} (xs : List (List A)) (x : List A) → get_or (xs ++ x ∷ []) (length xs) [] ≡ x
last_place [] x = refl
last_place (y ∷ ys) x = last_place ys x

earlier_place : {A : Type 0} (xs : List (List A)) (x : List A) (j : ℕ) → j < length xs → get_or (xs ++ x ∷ []) j [] ≡ get_or xs j []
earlier_place [] x j h = absurd (omega arith)
earlier_place (y ∷ ys) x zero h = refl
earlier_place (y ∷ ys) x (suc j) h = earlier_place ys x j (omega arith)

no_place : {A : Type 0} (xs : List (List A)) (j : ℕ) → length xs ≤ j → get_or xs j [] ≡ []
no_place [] j h = refl
no_place (y ∷ ys) zero h = absurd (omega arith)
no_place (y ∷ ys) (suc j) h = no_place ys j (omega arith)

-- the batch p, in the words of the rows and in those of the sums
at_next : (o : Bool) (b f p q : ℕ) → q ≡ p + 1 → f ≤ p → (o && (nat_le p b && nat_lt b q)) ≡ (o && (b == p && (nat_le f p && nat_lt p q)))
at_next o b f p q e le = cases o (nat_le p b) (nat_lt b q) (b == p) (nat_le f p) (nat_lt p q) refl refl refl refl refl
  where
    cases : (o k l m n r : Bool) → nat_le p b ≡ k → nat_lt b q ≡ l → (b == p) ≡ m → nat_le f p ≡ n → nat_lt p q ≡ r → (o && (k && l)) ≡ (o && (m && (n && r)))
    cases false k l m n r x y z u v = refl
    cases true k l m n r x y z u v = grind (arith, nat_tests)

joined_later : (p q j : ℕ) → q ≡ p + 1 → (nat_le q j && nat_le p j) ≡ nat_le q j
joined_later p q j e = cases (nat_le q j) (nat_le p j) refl refl
  where
    cases : (t u : Bool) → nat_le q j ≡ t → nat_le p j ≡ u → (t && u) ≡ t
    cases true true x y = refl
    cases true false x y = absurd (grind (arith, nat_tests))
    cases false u x y = refl

-- from the batch behind b on, b isn't looked at
if_later : {A : Type 0} (b q j : ℕ) (a : Option A) → q ≡ b + 1 → cond (nat_le q j) (cond (not (j == b)) a None) None ≡ cond (nat_le q j) a None
if_later b q j a e = cases (nat_le q j) refl (j == b) refl
  where
    cases : (t : Bool) → nat_le q j ≡ t → (u : Bool) → (j == b) ≡ u → cond t (cond (not u) a None) None ≡ cond t a None
    cases true x true y = absurd (grind (arith, nat_tests))
    cases true x false y = refl
    cases false x u y = refl

if_and : {A : Type 0} (t u : Bool) (a : Option A) → (t && u) ≡ t → cond t a None ≡ cond t (cond u a None) None
if_and true true a e = refl
if_and true false a e = cc
if_and false u a e = refl

module _ {E : Type 0} (next : Rows E) (before after : ShardValue E) (installed : IsInstalled next before after) (stores : ℕ) (add : ℕ → E → E → E) (log : CutLog E) (shard : ℕ) (from : next.from ≡ published_to before) (to : next.to ≡ published_to before + 1) (rows : AreRowsBy stores add log shard next) (below : published_to before < batches_of (places_of log)) (folds : AreFoldsOf stores add log shard (shard_sums add before)) where
  lists : after.offline.rows ≡ before.offline.rows ++ next.rows ∷ []
  lists = ap (λ o. o.rows) installed.offline

  floors : after.offline.floor ≡ before.offline.floor
  floors = ap (λ o. o.floor) installed.offline

  grown : published_to after ≡ published_to before + 1
  grown = ap length lists ∙ length-append before.offline.rows (next.rows ∷ [])

  installed_published : (key : KeyBytes) (j : ℕ) → key.store < stores → (order : Bool) (same : Bool) → nat_lt j (published_to before) ≡ order → (j == published_to before) ≡ same
      → find key_order key (get_or after.offline.rows j []) ≡ log_fold add log key (λ i. is_of_shard (places_of log) shard key && (batch_at (places_of log) i == j && (nat_le before.offline.floor j && nat_lt j (published_to after))))
  installed_published key j known true same e f =
      ap (find key_order key) (ap (λ l. get_or l j []) lists ∙ earlier_place before.offline.rows next.rows j (grind (arith, nat_tests)))
      ∙ (folds.published key j known
      ∙ fold_same (add key.store) (log_values log key) _ _ (λ i. ap (λ t. is_of_shard (places_of log) shard key && (batch_at (places_of log) i == j && (nat_le before.offline.floor j && t))) (e ∙ sym later)))
    where
      later : nat_lt j (published_to after) ≡ true
      later = grind (arith, nat_tests, grown)
  installed_published key j known false true e f =
      let p = published_to before in
      let q = published_to after in
      let is : j ≡ p = grind (arith, nat_tests) in
      ap (find key_order key) (ap (λ l. get_or l j []) lists ∙ (ap (λ n. get_or (before.offline.rows ++ next.rows ∷ []) n []) is ∙ last_place before.offline.rows next.rows))
      ∙ (rows key known
      ∙ fold_same (add key.store) (log_values log key) _ _ (λ i.
      ap (λ n. is_of_shard (places_of log) shard key && (nat_le n (batch_at (places_of log) i) && nat_lt (batch_at (places_of log) i) next.to)) from
      ∙ (ap (λ n. is_of_shard (places_of log) shard key && (nat_le p (batch_at (places_of log) i) && nat_lt (batch_at (places_of log) i) n)) (to ∙ sym grown)
      ∙ (at_next (is_of_shard (places_of log) shard key) (batch_at (places_of log) i) before.offline.floor p q grown folds.floor
      ∙ ap (λ n. is_of_shard (places_of log) shard key && (batch_at (places_of log) i == n && (nat_le before.offline.floor n && nat_lt n q))) (sym is)))))
  installed_published key j known false false e f =
      ap (find key_order key) (no_place after.offline.rows j (grind (arith, nat_tests, grown)))
      ∙ sym (fold_none (add key.store) (log_values log key) _ (λ i. ap (λ t. is_of_shard (places_of log) shard key && (batch_at (places_of log) i == j && (nat_le before.offline.floor j && t))) beyond ∙ no_four (is_of_shard (places_of log) shard key) (batch_at (places_of log) i == j) (nat_le before.offline.floor j)))
    where
      beyond : nat_lt j (published_to after) ≡ false
      beyond = grind (arith, nat_tests, grown)

  swept_sum : (key : KeyBytes) (j : ℕ) → cond (nat_le (published_to after) j) (online.online_sum add after.online key j) None ≡ cond (nat_le (published_to after) j) (online.online_sum add before.online key j) None
  swept_sum key j =
      ap (λ x. cond (nat_le (published_to after) j) x None) (ap (sum_at add key j) installed.online ∙ sum_filter add (λ b. not (b == published_to before)) key j (parts_of before.online))
      ∙ if_later (published_to before) (published_to after) j (online.online_sum add before.online key j) grown

  installed_online : (key : KeyBytes) (j : ℕ) → key.store < stores
      → cond (nat_le (published_to after) j) (online.online_sum add after.online key j) None ≡ log_fold add log key (λ i. is_of_shard (places_of log) shard key && (batch_at (places_of log) i == j && (nat_le (published_to after) j && is_in after.online.cover (chunk_at (places_of log) i))))
  installed_online key j known =
      let p = published_to before in
      let q = published_to after in
      let a = add key.store in
      let xs = log_values log key in
      let and = joined_later p q j grown in
      swept_sum key j
      ∙ (if_and (nat_le q j) (nat_le p j) (online.online_sum add before.online key j) and
      ∙ (ap (λ x. cond (nat_le q j) x None) (folds.online key j known)
      ∙ (sym (fold_if a xs (nat_le q j) (λ i. is_of_shard (places_of log) shard key && (batch_at (places_of log) i == j && (nat_le p j && is_in before.online.cover (chunk_at (places_of log) i)))))
      ∙ fold_same a xs _ _ (λ i. inwards_joined (nat_le q j) (is_of_shard (places_of log) shard key) (batch_at (places_of log) i == j) (nat_le p j) (is_in before.online.cover (chunk_at (places_of log) i)) and
      ∙ ap (λ cover. is_of_shard (places_of log) shard key && (batch_at (places_of log) i == j && (nat_le q j && is_in cover (chunk_at (places_of log) i)))) (sym installed.cover)))))

  lag_kept : (before.offline.floor ≡ 0) ⊎ (before.offline.floor + log.lag ≤ published_to before) → (after.offline.floor ≡ 0) ⊎ (after.offline.floor + log.lag ≤ published_to after)
  lag_kept (inl e) = inl (floors ∙ e)
  lag_kept (inr h) = inr (omega (arith, h, floors, grown))

  pub folds_installed : AreFoldsOf stores add log shard (shard_sums add after)
  folds_installed = record {
    floor = omega (arith, folds.floor, floors, grown);
    last = omega (arith, below, grown);
    lag = lag_kept folds.lag;
    base = λ key known.
        ap (λ o. offline.base_sum add o key) installed.offline
        ∙ (folds.base key known
        ∙ fold_same (add key.store) (log_values log key) _ _ (λ i. ap (λ n. is_of_shard (places_of log) shard key && nat_lt (batch_at (places_of log) i) n) (sym floors)));
    published = λ key j known.
        installed_published key j known _ _ refl refl
        ∙ fold_same (add key.store) (log_values log key) _ _ (λ i. ap (λ n. is_of_shard (places_of log) shard key && (batch_at (places_of log) i == j && (nat_le n j && nat_lt j (published_to after)))) (sym floors));
    online = installed_online;
  }

elements_more : {E : Type 0} (x : Part E) (xs ys : List (Part E)) (row : KeyBytes × E) → (Contains (keyed_values xs) row → Contains (keyed_values ys) row) → Contains (keyed_values (x ∷ xs)) row → Contains (keyed_values (x ∷ ys)) row
elements_more x xs ys row f h = joined (Contains-append_cases ((x.key, x.value) ∷ []) (keyed_values xs) row h)
  where
    joined : Contains ((x.key, x.value) ∷ []) row ⊎ Contains (keyed_values xs) row → Contains (keyed_values (x ∷ ys)) row
    joined (inl k) = Contains-append_left ((x.key, x.value) ∷ []) (keyed_values ys) row k
    joined (inr k) = Contains-append_right ((x.key, x.value) ∷ []) (keyed_values ys) row (f k)

elements_left : {E : Type 0} (s : Part E → Bool) (xs : List (Part E)) (row : KeyBytes × E) → Contains (keyed_values (filter s xs)) row → Contains (keyed_values xs) row
elements_left s [] row h = h
elements_left s (x ∷ xs) row h =
    elim (s x) as (λ b. Contains (keyed_values (cond b (x ∷ filter s xs) (filter s xs))) row → Contains (keyed_values (x ∷ xs)) row) [
      | true ↦ λ k. elements_more x (filter s xs) xs row (elements_left s xs row) k
      | false ↦ λ k. Contains-append_right ((x.key, x.value) ∷ []) (keyed_values xs) row (elements_left s xs row k)
    ] h

module _ {E : Type 0} (next : Rows E) (before after : ShardValue E) (installed : IsInstalled next before after) (row : KeyBytes × E) where
  rows_left : Contains (flat_map (λ rows. rows) before.offline.rows) row ⊎ Contains next.rows row → Contains (kept_by before) row ⊎ Contains next.rows row
  rows_left (inl h) = inl (Contains-append_left (offline.kept_by before.offline) (keyed_values (parts_of before.online)) row (Contains-append_right (base_values before.offline) (flat_map (λ rows. rows) before.offline.rows) row h))
  rows_left (inr h) = inr h

  rows_grown : flat_map (λ rows. rows) (before.offline.rows ++ next.rows ∷ []) ≡ flat_map (λ rows. rows) before.offline.rows ++ next.rows
  rows_grown = flat_map-append (λ rows. rows) before.offline.rows (next.rows ∷ []) ∙ ap (λ l. flat_map (λ rows. rows) before.offline.rows ++ l) (append-nil next.rows)

  offline_cases : Contains (base_values before.offline) row ⊎ Contains (flat_map (λ rows. rows) (before.offline.rows ++ next.rows ∷ [])) row → Contains (kept_by before) row ⊎ Contains next.rows row
  offline_cases (inl h) = inl (Contains-append_left (offline.kept_by before.offline) (keyed_values (parts_of before.online)) row (Contains-append_left (base_values before.offline) (flat_map (λ rows. rows) before.offline.rows) row h))
  offline_cases (inr h) = rows_left (Contains-append_cases (flat_map (λ rows. rows) before.offline.rows) next.rows row (subst (λ l. Contains l row) rows_grown h))

  kept_cases : Contains (offline.kept_by after.offline) row ⊎ Contains (keyed_values (parts_of after.online)) row → Contains (kept_by before) row ⊎ Contains next.rows row
  kept_cases (inl h) = offline_cases (Contains-append_cases (base_values before.offline) (flat_map (λ rows. rows) (before.offline.rows ++ next.rows ∷ [])) row (subst (λ o. Contains (offline.kept_by o) row) installed.offline h))
  kept_cases (inr h) = inl (Contains-append_right (offline.kept_by before.offline) (keyed_values (parts_of before.online)) row
      (elements_left (λ part. not (part.batch == published_to before)) (parts_of before.online) row (subst (λ parts. Contains (keyed_values parts) row) installed.online h)))

  -- what is kept after an installation was kept before or came with it
  pub keeps_only : Contains (kept_by after) row → Contains (kept_by before) row ⊎ Contains next.rows row
  keeps_only h = kept_cases (Contains-append_cases (offline.kept_by after.offline) (keyed_values (parts_of after.online)) row h)
