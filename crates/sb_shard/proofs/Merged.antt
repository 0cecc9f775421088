-- Base, published and online sums up to a batch make the fold over the named positions.
use Rattle.std.proofs.Common.{◌≡◌, ℕ, zero, suc, ◌+◌, ◌<◌, ◌≤◌, Bool, true, false, cond, ◌&&◌, List, [], ◌∷◌, ◌++◌, map, filter, Option, Some, None, refl, sym, ap, subst, ◌∙◌, T, arith}
use Rattle.std.specs.Prelude.{nat_lt, nat_le, ◌==◌, IsTrue}
use Rattle.std.specs.List.{AllByRecursion}
use Rattle.std.specs.Ordering.{nat_cmp, eq_by_cmp, is_lt}
use Rattle.std.specs.Cmp.{nat_cmp_total, unsigned_tied}
use Rattle.std.specs.FinMap.{find, is_sorted}
use Rattle.std.specs.FinMap.Entries.{below_all}
use Rattle.std.proofs.lemmas.Bool.Decides.{nat_tests}
use Rattle.sb_laws.specs.Sums.{sum_of, both_sums, IsValid, CommutingLaws}
use Rattle.sb_laws.specs.Folds.{fold_over, IsSplit}
use Rattle.sb_laws.proofs.Sums.{sum_append, both_associates}
use Rattle.sb_laws.proofs.Positions.{ap_both, fold_same, fold_none, fold_splits, fold_valid}
use Rattle.sb_laws.proofs.Sets.{split_and, below_suc, below_or, at_equal}
use Rattle.sb_laws.proofs.Tables.{first, second, truly, find_none}
use Rattle.sb_feed.specs.declared.key.KeyBytes.{KeyBytes}
use Rattle.sb_feed.specs.Places.{batch_at, chunk_at, is_of_shard, is_in, is_named}
use Rattle.sb_feed.specs.Jobs.{CutLog, Dictionaries, Commute, IsLogOf, places_of, log_values, log_fold}
use Rattle.sb_feed.specs.Stands.{ShardSums, IsShardOf, HasSums}
use Rattle.sb_feed.proofs.LogValues.{log_values_valid}
use Rattle.sb_shard.specs.declared.answer.Answer.{Answer}
use Rattle.sb_job.specs.ByBatch.{one_or_none}
use Rattle.sb_shard.specs.Asks.{AnswersOf, values_of}

is_below : (m n : ℕ) → T (is_lt (nat_cmp m n)) → m < n
is_below m n h = tested (nat_lt m n) (m == n) refl refl h
  where
    tested : (a b : Bool) → nat_lt m n ≡ a → (m == n) ≡ b → T (is_lt (nat_cmp m n)) → m < n
    tested true b x y k = grind (arith, nat_tests)
    tested false true x y k = absurd (rw (x, y) at k)
    tested false false x y k = absurd (rw (x, y) at k)

module _ {E : Type 0} where
  none_at : (n : ℕ) (pairs : List (ℕ × E)) → T (below_all nat_cmp n pairs) → filter (λ pair. pair.0 == n) pairs ≡ []
  none_at n [] h = refl
  none_at n (x ∷ xs) h =
      let less = is_below n x.0 (first _ _ h) in
      let other : (x.0 == n) ≡ false = grind (arith, nat_tests) in
      ap (λ t. cond t (x ∷ filter (λ pair. pair.0 == n) xs) (filter (λ pair. pair.0 == n) xs)) other ∙ none_at n xs (second _ _ h)

  -- in a rising table the sum of a batch is what stands there
  pub fold_found : (add : E → E → E) (j : ℕ) (pairs : List (ℕ × E)) → T (is_sorted nat_cmp pairs) → fold_over add pairs (λ b. b == j) ≡ find nat_cmp j pairs
  fold_found add j [] h = refl
  fold_found add j (x ∷ xs) h = tested (x.0 == j) refl (fold_found add j xs (second _ _ h))
    where
      found : (t : Bool) → (x.0 == j) ≡ t → eq_by_cmp nat_cmp j x.0 ≡ t
      found true e = unsigned_tied j x.0 ∙ (let same : (j == x.0) ≡ true = grind (arith, nat_tests) in same)
      found false e = unsigned_tied j x.0 ∙ (let other : (j == x.0) ≡ false = grind (arith, nat_tests) in other)

      tested : (t : Bool) → (x.0 == j) ≡ t → fold_over add xs (λ b. b == j) ≡ find nat_cmp j xs
          → sum_of add (map (λ (y : ℕ × E). y.1) (cond (x.0 == j) (x ∷ filter (λ y. y.0 == j) xs) (filter (λ y. y.0 == j) xs))) ≡ cond (eq_by_cmp nat_cmp j x.0) (Some x.1) (find nat_cmp j xs)
      tested true e rest =
          let none : filter (λ (y : ℕ × E). y.0 == j) xs ≡ [] = ap (λ n. filter (λ (y : ℕ × E). y.0 == n) xs) (let same : j ≡ x.0 = grind (arith, nat_tests) in same) ∙ none_at x.0 xs (first _ _ h) in
          rw (e, found true e, none) refl
      tested false e rest = rw (e, found false e) rest

  -- where nothing later is found, nothing later is there
  none_later : (upto : ℕ) (pairs : List (ℕ × E)) → T (is_sorted nat_cmp pairs) → ((j : ℕ) → nat_le j upto ≡ false → find nat_cmp j pairs ≡ None) → AllByRecursion (λ pair. pair.0 ≤ upto) pairs
  none_later upto [] h none = tt
  none_later upto (x ∷ xs) h none = (within (nat_le x.0 upto) refl, none_later upto xs (second _ _ h) (λ j late. tail j late (j == x.0) refl))
    where
      here : eq_by_cmp nat_cmp x.0 x.0 ≡ true
      here = unsigned_tied x.0 x.0 ∙ (let same : (x.0 == x.0) ≡ true = grind (arith, nat_tests) in same)

      differ : Some x.1 ≡ None → ⊥
      differ e = cc

      within : (t : Bool) → nat_le x.0 upto ≡ t → x.0 ≤ upto
      within true e = grind (arith, nat_tests)
      within false e = absurd (differ (sym (ap (λ t. cond t (Some x.1) (find nat_cmp x.0 xs)) here) ∙ none x.0 e))

      tail : (j : ℕ) → nat_le j upto ≡ false → (t : Bool) → (j == x.0) ≡ t → find nat_cmp j xs ≡ None
      tail j late true e =
          let same : j ≡ x.0 = grind (arith, nat_tests) in
          subst (λ n. find nat_cmp n xs ≡ None) (sym same) (find_none nat_cmp nat_cmp_total x.0 xs (first _ _ h))
      tail j late false e = sym (ap (λ t. cond t (Some x.1) (find nat_cmp j xs)) (unsigned_tied j x.0 ∙ e)) ∙ none j late

no_number_below : (k : ℕ) → nat_lt k 0 ≡ false
no_number_below k = grind (arith, nat_tests)

split_with : (a b c u : Bool) → IsSplit a b c → IsSplit (a && u) (b && u) (c && u)
split_with true true false true k = tt
split_with true true false false k = tt
split_with true false true true k = tt
split_with true false true false k = tt
split_with false false false true k = tt
split_with false false false false k = tt
split_with true true true u k = absurd k
split_with true false false u k = absurd k
split_with false true true u k = absurd k
split_with false true false u k = absurd k
split_with false false true u k = absurd k

below_is_upto : (b n : ℕ) → nat_lt b (suc n) ≡ nat_le b n
below_is_upto b n = same (nat_lt b (suc n)) (nat_le b n) refl refl
  where
    same : (s t : Bool) → nat_lt b (suc n) ≡ s → nat_le b n ≡ t → s ≡ t
    same true true x y = refl
    same true false x y = absurd (grind (arith, nat_tests))
    same false true x y = absurd (grind (arith, nat_tests))
    same false false x y = refl

module _ {E : Type 0} (V : E → Type 0) (add : E → E → E) (laws : CommutingLaws V add) where
  -- two lists with one sum in each batch below a number have one sum of these batches
  pub same_below : (n : ℕ) (pairs xs : List (ℕ × E)) (b : ℕ → ℕ) (u : ℕ → Bool) → AllByRecursion (λ x. V x.1) pairs → AllByRecursion (λ x. V x.1) xs
      → ((j : ℕ) → j < n → fold_over add pairs (λ k. k == j) ≡ fold_over add xs (λ i. b i == j && u i))
      → fold_over add pairs (λ k. nat_lt k n) ≡ fold_over add xs (λ i. nat_lt (b i) n && u i)
  same_below zero pairs xs b u h k each =
      fold_none add pairs _ no_number_below ∙ sym (fold_none add xs _ (λ i. ap (λ (t : Bool). t && u i) (no_number_below (b i))))
  same_below (suc n) pairs xs b u h k each =
      fold_splits V add laws pairs _ (λ j. nat_lt j n) (λ j. j == n) h (λ j. below_suc j n)
      ∙ (ap_both (both_sums add) (same_below n pairs xs b u h k (λ j less. each j (omega (arith, less)))) (each n (omega arith))
      ∙ sym (fold_splits V add laws xs _ (λ i. nat_lt (b i) n && u i) (λ i. b i == n && u i) k (λ i. split_with (nat_lt (b i) (suc n)) (nat_lt (b i) n) (b i == n) (u i) (below_suc (b i) n))))

  pub all_kept : (n : ℕ) (pairs : List (ℕ × E)) → AllByRecursion (λ pair. pair.0 ≤ n) pairs → pairs ≡ filter (λ x. nat_lt x.0 (suc n)) pairs
  all_kept n [] h = refl
  all_kept n (x ∷ xs) h =
      let below : nat_lt x.0 (suc n) ≡ true = (let le = h.0 in grind (arith, nat_tests)) in
      ap (λ (l : List (ℕ × E)). x ∷ l) (all_kept n xs h.1) ∙ sym (ap (λ (t : Bool). cond t (x ∷ filter (λ y. nat_lt y.0 (suc n)) xs) (filter (λ y. nat_lt y.0 (suc n)) xs)) below)

  -- the sums of the batches up to one, added
  sum_up_to : (upto : ℕ) (pairs xs : List (ℕ × E)) (b : ℕ → ℕ) (u : ℕ → Bool) (sums : ℕ → Option E) → T (is_sorted nat_cmp pairs) → HasSums V upto sums pairs → AllByRecursion (λ x. V x.1) xs
      → ((j : ℕ) → sums j ≡ fold_over add xs (λ i. b i == j && u i)) → sum_of add (map (λ pair. pair.1) pairs) ≡ fold_over add xs (λ i. nat_le (b i) upto && u i)
  sum_up_to upto pairs xs b u sums rising has k each =
      ap (λ (l : List (ℕ × E)). sum_of add (map (λ x. x.1) l)) (all_kept upto pairs (none_later upto pairs rising (λ j late. has.each j ∙ ap (λ t. cond t (sums j) None) late)))
      ∙ (same_below (suc upto) pairs xs b u has.valid k (λ j less.
      fold_found add j pairs rising ∙ (has.each j ∙ (ap (λ t. cond t (sums j) None) (let within : nat_le j upto ≡ true = grind (arith, nat_tests) in within) ∙ each j)))
      ∙ fold_same add xs _ _ (λ i. ap (λ (t : Bool). t && u i) (below_is_upto (b i) upto)))

  values_valid : (pairs : List (ℕ × E)) → AllByRecursion (λ pair. V pair.1) pairs → AllByRecursion V (map (λ pair. pair.1) pairs)
  values_valid [] h = tt
  values_valid (x ∷ xs) h = (h.0, values_valid xs h.1)

  both_valid : (xs ys : List E) → AllByRecursion V xs → AllByRecursion V ys → AllByRecursion V (xs ++ ys)
  both_valid [] ys h k = k
  both_valid (x ∷ xs) ys h k = (h.0, both_valid xs ys h.1 k)

  one_sum : (o : Option E) → sum_of add (one_or_none o) ≡ o
  one_sum None = refl
  one_sum (Some v) = refl

  one_valid : (o : Option E) → IsValid V o → AllByRecursion V (one_or_none o)
  one_valid None h = tt
  one_valid (Some v) h = (h, tt)

  -- three lists of values in a row
  three_sums : (o : Option E) (p q : List (ℕ × E)) → IsValid V o → AllByRecursion (λ pair. V pair.1) p → AllByRecursion (λ pair. V pair.1) q
      → sum_of add (one_or_none o ++ (map (λ pair. pair.1) p ++ map (λ pair. pair.1) q)) ≡ both_sums add o (both_sums add (sum_of add (map (λ pair. pair.1) p)) (sum_of add (map (λ pair. pair.1) q)))
  three_sums o p q h k m =
      let p' = values_valid p k in
      let q' = values_valid q m in
      sum_append V add laws.semigroup (one_or_none o) _ (one_valid o h) (both_valid _ _ p' q') ∙ ap_both (both_sums add) (one_sum o) (sum_append V add laws.semigroup _ _ p' q')

mine_alone : (t s : Bool) → t ≡ true → (t && s) ≡ s
mine_alone true s e = refl
mine_alone false s e = cc

base_cases : (b f p upto : ℕ) (k l m n : Bool) → f ≤ p → f ≤ upto + 1 → nat_le b upto ≡ k → nat_lt b p ≡ l → nat_lt b f ≡ m → nat_le f b ≡ n → IsSplit (k && l) m (k && (n && l))
base_cases b f p upto true true true true h g x y z w = absurd (grind (arith, nat_tests))
base_cases b f p upto true true true false h g x y z w = tt
base_cases b f p upto true true false true h g x y z w = tt
base_cases b f p upto true true false false h g x y z w = absurd (grind (arith, nat_tests))
base_cases b f p upto true false true n h g x y z w = absurd (grind (arith, nat_tests))
base_cases b f p upto true false false true h g x y z w = tt
base_cases b f p upto true false false false h g x y z w = tt
base_cases b f p upto false l true n h g x y z w = absurd (grind (arith, nat_tests))
base_cases b f p upto false l false n h g x y z w = tt

module _ {E : Type 0} (d : Dictionaries E) (log : CutLog E) (shard : ℕ) (commute : Commute d) (of : IsLogOf d log) where
  -- what a shard that stands for a log answers, added, is the fold over the named positions
  pub merged : (s : ShardSums E) (key : KeyBytes) (upto : ℕ) (answer : Answer E) → IsShardOf d log shard s → key.store < d.stores → is_of_shard (places_of log) shard key ≡ true → s.floor ≤ upto + 1 → IsTrue (is_sorted nat_cmp answer.published) → IsTrue (is_sorted nat_cmp answer.online) → AnswersOf (d.valid key.store) s key upto answer
      → sum_of (d.add key.store) (values_of answer) ≡ log_fold d.add log key (is_named (places_of log) upto s.published_to s.cover)
  merged s key upto answer stands known mine unexpired up_published up_online has =
      let v = d.valid key.store in
      let a = d.add key.store in
      let l = commute key.store known in
      let xs = log_values log key in
      let valid = log_values_valid d key log of in
      let b = batch_at (places_of log) in
      let base : answer.base ≡ fold_over a xs (λ i. nat_lt (b i) s.floor) = has.base ∙ (stands.folds.base key known ∙ fold_same a xs _ (λ i. nat_lt (b i) s.floor) (λ i. mine_alone (is_of_shard (places_of log) shard key) _ mine)) in
      three_sums v a l answer.base answer.published answer.online (subst (IsValid v) (sym base) (fold_valid v a l.semigroup xs (λ i. nat_lt (b i) s.floor) valid)) has.published.valid has.online.valid
      ∙ (ap_both (both_sums a) base
      (ap_both (both_sums a)
      (sum_up_to v a l upto answer.published xs b (λ i. nat_le s.floor (b i) && nat_lt (b i) s.published_to) (s.published key) (truly _ up_published) has.published valid
      (λ j. stands.folds.published key j known ∙ fold_same a xs _ _ (λ i. mine_alone (is_of_shard (places_of log) shard key) _ mine ∙ at_equal (b i) j (λ k. nat_le s.floor k && nat_lt k s.published_to))))
      (sum_up_to v a l upto answer.online xs b (λ i. nat_le s.published_to (b i) && is_in s.cover (chunk_at (places_of log) i)) (s.online key) (truly _ up_online) has.online valid
      (λ j. stands.folds.online key j known ∙ fold_same a xs _ _ (λ i. mine_alone (is_of_shard (places_of log) shard key) _ mine ∙ at_equal (b i) j (λ k. nat_le s.published_to k && is_in s.cover (chunk_at (places_of log) i))))))
      ∙ (sym (both_associates v a l.semigroup _ _ _ (fold_valid v a l.semigroup xs (λ i. nat_lt (b i) s.floor) valid) (fold_valid v a l.semigroup xs _ valid) (fold_valid v a l.semigroup xs _ valid))
      ∙ (ap (λ x. both_sums a x (fold_over a xs (λ i. nat_le (b i) upto && (nat_le s.published_to (b i) && is_in s.cover (chunk_at (places_of log) i)))))
      (sym (fold_splits v a l xs (λ i. nat_le (b i) upto && nat_lt (b i) s.published_to) _ _ valid (λ i. base_cases (b i) s.floor s.published_to upto _ _ _ _ stands.folds.floor unexpired refl refl refl refl)))
      ∙ sym (fold_splits v a l xs _ _ _ valid (λ i. split_and (nat_le (b i) upto) _ _ _ (below_or (b i) s.published_to (is_in s.cover (chunk_at (places_of log) i))))))))
