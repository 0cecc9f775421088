-- Three records, two keys, two batches: folds, and sums that stand for the log and that don't.
use Rattle.std.proofs.Common.{◌≡◌, ℕ, ◌+◌, ◌&&◌, ◌||◌, List, [], ◌∷◌, Option, Some, None, refl, arith}
use Rattle.std.specs.Prelude.{◌==◌, codes}
use Rattle.sb_feed.specs.declared.key.KeyBytes.{KeyBytes}
use Rattle.sb_feed.specs.declared.parts.Part.{Part}
use Rattle.sb_feed.specs.Places.{batches_of, batch_at, chunk_at, is_in, is_named}
use Rattle.sb_feed.specs.Jobs.{CutLog, places_of, log_fold}
use Rattle.sb_feed.specs.Stands.{sum_at, ShardSums, AreFoldsOf}

abbrev a : KeyBytes
a = record { store = 0; text = codes "a" }

abbrev b : KeyBytes
b = record { store = 0; text = codes "b" }

abbrev log : CutLog ℕ
log = record {
  records = record { batch = 0; parts = (a, 2) ∷ [] } ∷ record { batch = 1; parts = (a, 5) ∷ (b, 1) ∷ [] } ∷ record { batch = 0; parts = (a, 1) ∷ [] } ∷ [];
  chunk = 2;
  shards = 1;
  lag = 0;
}

abbrev plus : ℕ → ℕ → ℕ → ℕ
plus store x y = x + y

batches : batches_of (places_of log) ≡ 2
batches = refl

first_and_last : log_fold plus log a (λ i. (i == 0) || (i == 2)) ≡ Some 3
first_and_last = refl

none_of_b : log_fold plus log b (λ i. (i == 0) || (i == 2)) ≡ None
none_of_b = refl

second_chunk : chunk_at (places_of log) 2 ≡ 1
second_chunk = refl

-- the first chunk, up to batch 0
named_a : log_fold plus log a (is_named (places_of log) 0 0 (0 ∷ [])) ≡ Some 2
named_a = refl

-- with batch 0 published, whatever the cover
named_published : log_fold plus log a (is_named (places_of log) 1 1 []) ≡ Some 3
named_published = refl

abbrev first_chunk : List (Part ℕ)
first_chunk = record { key = a; batch = 0; value = 2 } ∷ record { key = a; batch = 1; value = 5 } ∷ record { key = b; batch = 1; value = 1 } ∷ []

-- the first chunk is flushed, and nothing is published
abbrev held : List ℕ → ShardSums ℕ
held cover = record { base = λ key. None; published = λ key j. None; online = λ key j. sum_at plus key j first_chunk; cover = cover; published_to = 0; floor = 0; kept = [] }

-- each sum is the fold over its batch and the cover, as far as the keys and batches of the log go
abbrev online_fold : KeyBytes → ℕ → List ℕ → Option ℕ
online_fold key j cover = log_fold plus log key (λ i. (batch_at (places_of log) i == j) && is_in cover (chunk_at (places_of log) i))

stands_a : (held (0 ∷ [])).online a 0 ≡ online_fold a 0 (0 ∷ [])
stands_a = refl

stands_a_later : (held (0 ∷ [])).online a 1 ≡ online_fold a 1 (0 ∷ [])
stands_a_later = refl

stands_b : (held (0 ∷ [])).online b 1 ≡ online_fold b 1 (0 ∷ [])
stands_b = refl

stands_b_before : (held (0 ∷ [])).online b 0 ≡ online_fold b 0 (0 ∷ [])
stands_b_before = refl

abbrev some : ℕ → Option ℕ
some n = Some n

-- with the second chunk in its cover it doesn't stand for the log: the third record is missing
third_is_missing : AreFoldsOf 1 plus log 0 (held (0 ∷ 1 ∷ [])) → ⊥
third_is_missing stands = differ (stands.online a 0 (omega arith))
  where
    differ : some 2 ≡ some 3 → ⊥
    differ e = cc
