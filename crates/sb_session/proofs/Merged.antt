-- The sums of shards, one after the other, make the folds over the whole log.
use Rattle.std.proofs.Common.{◌≡◌, ℕ, zero, suc, ◌+◌, ◌/◌, ◌<◌, ◌≤◌, Bool, true, false, cond, ◌&&◌, ◌||◌, List, [], ◌∷◌, ◌++◌, length, map, Option, None, refl, sym, ap, subst, ◌∙◌, arith, append-nil}
use Rattle.std.specs.Prelude.{nat_lt, ◌==◌, slice_index}
use Rattle.std.specs.FinMap.{find}
use Rattle.std.specs.Int.{div_ceil}
use Rattle.std.specs.List.{AllByRecursion, IsDistinct, range_with_len}
use Rattle.std.specs.List.Sorted.{IsPermutation}
use Rattle.std.specs.Map.{keys_of}
use Rattle.std.proofs.lemmas.Bool.{lt-ltb, le-leb, ltb-true, ltb-false, eqb-true, eqb-false, eq-eqb}
use Rattle.std.proofs.lemmas.Grind.{div_ceil_times}
use Rattle.std.proofs.lemmas.Nat.{mod_below}
use Rattle.std.proofs.Math.Nat.{le-div_iff_mul-le}
use Rattle.sb_laws.specs.Sums.{sum_of}
use Rattle.sb_laws.specs.Tables.{values_at}
use Rattle.sb_laws.proofs.Positions.{ap_both, fold_if}
use Rattle.sb_feed.specs.declared.key.KeyBytes.{KeyBytes}
use Rattle.sb_feed.specs.Cuts.{CutValue, chunk_count}
use Rattle.sb_feed.specs.Keys.{key_order, same_key, key_hash, shard_of}
use Rattle.sb_feed.specs.Places.{batch_at, chunk_at, is_in, is_named}
use Rattle.sb_feed.specs.Jobs.{Record, CutLog, Job, Dictionaries, meant, AreValid, IsRecord, IsLogOf, places_of, log_values, job_fold}
use Rattle.sb_job.specs.Sums.{HasKeySums, key_sum}
use Rattle.sb_job.proofs.Growing.{permuted_valid}
use Rattle.sb_job.proofs.Listed.{own_sums, values_both}
use Rattle.sb_shard.specs.Asks.{AreDrained}
use Rattle.sb_session.specs.Sessions.{job_by, AreAllRows}
use Rattle.sb_session.proofs.Covers.{in_range}
use Rattle.sb_session.proofs.Sessions.{fold_where}

-- a position of a log is in one of its chunks
pub in_a_chunk : (i n k : ℕ) → 0 < k → i < n → i / k < div_ceil n k
in_a_chunk i n k some less = either (nat_lt (i / k) (div_ceil n k)) refl
  where
    either : (b : Bool) → nat_lt (i / k) (div_ceil n k) ≡ b → i / k < div_ceil n k
    either true e = ltb-true _ _ e
    either false e =
        let over = (le-div_iff_mul-le {k = k} {x = div_ceil n k} {y = i} some).0 (ltb-false _ _ e) in
        let all = (div_ceil_times n k some).0 in
        absurd (omega (arith, over, all, less))

batch_limit : {E : Type 0} (d : Dictionaries E) (records : List (Record E)) (k : ℕ) → AllByRecursion (IsRecord d) records → k < length records → slice_index (map (λ r. r.batch) records) k ≤ 65535
batch_limit d [] k h less = absurd (omega (arith, less))
batch_limit d (r ∷ records) zero h less = h.0.batch
batch_limit d (r ∷ records) (suc k) h less = batch_limit d records k h.1 (omega (arith, less))

-- ---- the values of a key, which are in one of two lists

module _ {E : Type 0} (add : E → E → E) where
  no_values : (xs : List E) → sum_of add xs ≡ None → xs ≡ []
  no_values [] e = refl
  no_values (x ∷ xs) e = cc

  merge_case : (xs ys : List E) (all : Option E) (s n : ℕ) (a b c : Bool) → nat_lt s n ≡ a → (s == n) ≡ b → nat_lt s (n + 1) ≡ c → sum_of add xs ≡ cond a all None → sum_of add ys ≡ cond b all None → sum_of add (xs ++ ys) ≡ cond c all None
  merge_case xs ys all s n true true c x y z e f = absurd (omega (arith, ltb-true s n x, eqb-true s n y))
  merge_case xs ys all s n true false true x y z e f = ap (λ l. sum_of add (xs ++ l)) (no_values ys f) ∙ (ap (sum_of add) (append-nil xs) ∙ e)
  merge_case xs ys all s n true false false x y z e f = absurd (omega (arith, ltb-true s n x, ltb-false s (n + 1) z))
  merge_case xs ys all s n false true true x y z e f = ap (λ l. sum_of add (l ++ ys)) (no_values xs e) ∙ f
  merge_case xs ys all s n false true false x y z e f = absurd (omega (arith, eqb-true s n y, ltb-false s (n + 1) z))
  merge_case xs ys all s n false false true x y z e f = absurd (omega (arith, ltb-false s n x, eqb-false s n y, ltb-true s (n + 1) z))
  merge_case xs ys all s n false false false x y z e f = ap_both (λ l m. sum_of add (l ++ m)) (no_values xs e) (no_values ys f)

module _ {M E : Type 0} (valid : M → E → Type 0) (add : M → E → E → E) (monoids : List M) (records : List (Record E)) (cut : CutValue) where
  abbrev d : Dictionaries E
  d = meant valid add monoids

  abbrev job : Job M E
  job = job_by monoids records cut

  abbrev log : CutLog E
  log = (job_by monoids records cut).log

  or_true : (x y : Bool) → y ≡ true → (x || y) ≡ true
  or_true true y e = refl
  or_true false y e = e

  -- with all chunks a read names each record
  named : (p : ℕ) (cover : List ℕ) → 0 < cut.chunk → cut.records ≡ length records → IsLogOf d log → cover ≡ range_with_len 0 (chunk_count cut) → (k : ℕ) → k < length records → is_named (places_of log) 65535 p cover k ≡ true
  named p cover some whole of is k less =
      ap_both ◌&&◌ (le-leb _ _ (batch_limit d records k of less))
      (or_true (nat_lt (batch_at (places_of log) k) p) _ (ap (λ c. is_in c (chunk_at (places_of log) k)) is
      ∙ (in_range 0 (chunk_count cut) (chunk_count cut) (chunk_at (places_of log) k) (omega arith)
      ∙ ap_both ◌&&◌ (le-leb 0 (chunk_at (places_of log) k) (omega arith)) (lt-ltb (chunk_at (places_of log) k) (chunk_count cut)
      (subst (λ n. chunk_at (places_of log) k < div_ceil n cut.chunk) (sym whole) (in_a_chunk k (length records) cut.chunk some less))))))

  -- a shard with all chunks has the whole fold of each of its keys, and of no other
  pub whole_folds : (number p : ℕ) (cover : List ℕ) (sums : List (KeyBytes × E)) → 0 < cut.chunk → cut.records ≡ length records → IsLogOf d log → cover ≡ range_with_len 0 (chunk_count cut) → AreDrained valid add job number p cover sums
      → (key : KeyBytes) → key.store < d.stores → find key_order key sums ≡ cond (shard_of cut.shards key == number) (job_fold add job key (λ i. true)) None
  whole_folds number p cover sums some whole of is drained key there =
      drained.sums key there
      ∙ (fold_if (d.add key.store) (log_values log key) (shard_of cut.shards key == number) (is_named (places_of log) 65535 p cover)
      ∙ ap (λ o. cond (shard_of cut.shards key == number) o None) (fold_where (d.add key.store) log key (is_named (places_of log) 65535 p cover) (λ i. true) (named p cover some whole of is)))

  -- ---- the sums of the first shards

  -- the sums are those of the keys of the first shards, so many
  pub record AreMerged (n : ℕ) (all : List (KeyBytes × E)) : Type 0 where
    pub values : List (KeyBytes × E)
    pub sums : HasKeySums d values all
    pub folds : (key : KeyBytes) → key.store < d.stores → key_sum d key values ≡ cond (nat_lt (shard_of cut.shards key) n) (job_fold add job key (λ i. true)) None

  none_below : (s : ℕ) (o : Option E) (b : Bool) → nat_lt s 0 ≡ b → None ≡ cond b o None
  none_below s o true e = absurd (omega (arith, ltb-true s 0 e))
  none_below s o false e = refl

  pub none_merged : (all : List (KeyBytes × E)) → all ≡ [] → AreMerged 0 all
  none_merged all none = record {
    values = [];
    sums = λ key. ap (find key_order key) none;
    folds = λ key there. none_below (shard_of cut.shards key) (job_fold add job key (λ i. true)) _ refl;
  }

  -- those of the next shard are added
  pub merge_more : (n : ℕ) (all more after : List (KeyBytes × E)) → AreMerged n all → ((values : List (KeyBytes × E)) → HasKeySums d values all → HasKeySums d (values ++ more) after) → IsDistinct same_key (keys_of more)
      → ((key : KeyBytes) → key.store < d.stores → find key_order key more ≡ cond (shard_of cut.shards key == n) (job_fold add job key (λ i. true)) None) → AreMerged (n + 1) after
  merge_more n all more after merged adds distinct own = record {
    values = merged.values ++ more;
    sums = adds merged.values merged.sums;
    folds = λ key there.
        ap (sum_of (d.add key.store)) (values_both key merged.values more)
        ∙ merge_case (d.add key.store) (values_at key_order key merged.values) (values_at key_order key more) (job_fold add job key (λ i. true)) (shard_of cut.shards key) n _ _ _ refl refl refl
        (merged.folds key there) (sym (own_sums d more distinct key) ∙ own key there);
  }

  -- those of all shards, put in order, are the rows over the whole log
  pub merged_rows : (n : ℕ) (all rows : List (KeyBytes × E)) → AreMerged n all → cut.shards ≤ n → 0 < cut.shards → AreValid d all → IsPermutation all rows → ((key : KeyBytes) → find key_order key rows ≡ find key_order key all)
      → AreAllRows valid add job rows
  merged_rows n all rows merged most some elements same found = record {
    elements = permuted_valid d all rows same elements;
    sums = λ key there. found key ∙ (merged.sums key ∙ (merged.folds key there
        ∙ ap (λ t. cond t (job_fold add job key (λ i. true)) None) (lt-ltb (shard_of cut.shards key) n (let below = mod_below (key_hash key) cut.shards some in omega (arith, below, most)))));
  }

  -- the rows of the only shard
  pub only_rows : (p : ℕ) (cover : List ℕ) (rows : List (KeyBytes × E)) → cut.shards ≡ 1 → 0 < cut.chunk → cut.records ≡ length records → IsLogOf d log → cover ≡ range_with_len 0 (chunk_count cut) → AreDrained valid add job 0 p cover rows
      → AreAllRows valid add job rows
  only_rows p cover rows one some whole of is drained = record {
    elements = drained.elements;
    sums = λ key there. whole_folds 0 p cover rows some whole of is drained key there
        ∙ ap (λ t. cond t (job_fold add job key (λ i. true)) None) (eq-eqb (shard_of cut.shards key) 0 (let below = mod_below (key_hash key) cut.shards (omega (arith, one)) in omega (arith, below, one)));
  }
