-- The parts of the records at positions, position by position, and the number of batches.
use Rattle.std.proofs.Common.{◌≡◌, ℕ, zero, suc, ◌+◌, ◌<◌, ◌≤◌, Bool, true, false, cond, ◌&&◌, List, [], ◌∷◌, ◌++◌, length, refl, sym, ap, ◌∙◌, arith, append_assoc, append-nil}
use Rattle.std.specs.Prelude.{nat_lt, nat_le, slice_index, max, take}
use Rattle.std.proofs.lemmas.Bool.{lt-ltb, le-ltb, le-leb, ltb-true, leb-true}
use Rattle.sb_laws.proofs.Positions.{ap_both}
use Rattle.sb_feed.specs.Feeds.{parts_of, parts_at}
use Rattle.sb_feed.specs.Places.{batch_count}
use Rattle.sb_feed.specs.Jobs.{Record}
use Rattle.sb_job.specs.Emitted.{parts_where, is_between}

and_true : (x y : Bool) → y ≡ true → (x && y) ≡ x
and_true true y e = e
and_true false y e = refl

and_false : (x y : Bool) → y ≡ false → (x && y) ≡ false
and_false true y e = e
and_false false y e = refl

module _ {E : Type 0} where
  pub parts_same : (s t : ℕ → Bool) (a e : ℕ) (records : List (Record E)) → a + length records ≤ e → ((k : ℕ) → a ≤ k → k < e → s k ≡ t k) → parts_where s a records ≡ parts_where t a records
  parts_same s t a e [] end h = refl
  parts_same s t a e (r ∷ records) end h =
      ap_both ◌++◌ (ap (λ b. cond b (parts_of r) []) (h a (omega arith) (omega (arith, end)))) (parts_same s t (suc a) e records (omega (arith, end)) (λ k le less. h k (omega (arith, le)) less))

  pub parts_none : (s : ℕ → Bool) (a : ℕ) (records : List (Record E)) → ((k : ℕ) → a ≤ k → s k ≡ false) → parts_where s a records ≡ []
  parts_none s a [] h = refl
  parts_none s a (r ∷ records) h =
      ap_both ◌++◌ (ap (λ b. cond b (parts_of r) []) (h a (omega arith))) (parts_none s (suc a) records (λ k le. h k (omega (arith, le))))

  -- of the positions that pass, those below the next one
  pub parts_next : (p : ℕ → Bool) (a n i j : ℕ) (records : List (Record E)) → i ≡ a + n → j ≡ i + 1 → n < length records
      → parts_where (λ k. p k && nat_lt k j) a records ≡ parts_where (λ k. p k && nat_lt k i) a records ++ cond (p i) (parts_at records n) []
  parts_next p a n i j [] e f less = absurd (omega (arith, less))
  parts_next p a zero i j (r ∷ records) e f less =
      let here : p a ≡ p i = ap p (omega (arith, e)) in
      ap_both ◌++◌ (ap (λ b. cond b (parts_of r) []) (and_true (p a) (nat_lt a j) (lt-ltb a j (omega (arith, e, f))) ∙ here))
      (parts_none (λ k. p k && nat_lt k j) (suc a) records (λ k le. and_false (p k) (nat_lt k j) (le-ltb k j (omega (arith, e, f, le)))))
      ∙ (append-nil (cond (p i) (parts_of r) [])
      ∙ ap (λ l. l ++ cond (p i) (parts_of r) []) (sym (ap_both ◌++◌ (ap (λ b. cond b (parts_of r) []) (and_false (p a) (nat_lt a i) (le-ltb a i (omega (arith, e)))))
      (parts_none (λ k. p k && nat_lt k i) (suc a) records (λ k le. and_false (p k) (nat_lt k i) (le-ltb k i (omega (arith, e, le))))))))
  parts_next p a (suc n) i j (r ∷ records) e f less =
      ap_both ◌++◌ (ap (λ b. cond b (parts_of r) []) (and_true (p a) (nat_lt a j) (lt-ltb a j (omega (arith, e, f))) ∙ sym (and_true (p a) (nat_lt a i) (lt-ltb a i (omega (arith, e))))))
      (parts_next p (suc a) n i j records (omega (arith, e)) f (omega (arith, less)))
      ∙ sym (append_assoc (cond (p a && nat_lt a i) (parts_of r) []) (parts_where (λ k. p k && nat_lt k i) (suc a) records) (cond (p i) (parts_at records n) []))

  -- those below the end of a range
  pub parts_range : (from to : ℕ) (records : List (Record E)) → parts_where (λ k. is_between from to k && nat_lt k to) 0 records ≡ parts_where (is_between from to) 0 records
  parts_range from to records = parts_same (λ k. is_between from to k && nat_lt k to) (is_between from to) 0 (length records) records (omega arith) (λ k le less. twice (nat_le from k) (nat_lt k to))
    where
      twice : (x y : Bool) → ((x && y) && y) ≡ (x && y)
      twice true true = refl
      twice true false = refl
      twice false y = refl

  -- none before the start of a range
  pub parts_before : (from to : ℕ) (records : List (Record E)) → parts_where (λ k. is_between from to k && nat_lt k from) 0 records ≡ []
  parts_before from to records = parts_none (λ k. is_between from to k && nat_lt k from) 0 records (λ k le. apart k _ _ _ refl refl)
    where
      apart : (k : ℕ) (x y z : Bool) → nat_le from k ≡ x → nat_lt k from ≡ z → ((x && y) && z) ≡ false
      apart k true y true e f = absurd (omega (arith, leb-true, ltb-true))
      apart k true true false e f = refl
      apart k true false false e f = refl
      apart k false y z e f = refl

-- one more than the greatest batch of one record more
pub count_suc : (i : ℕ) (batches : List ℕ) → i < length batches → batch_count (take (suc i) batches) ≡ max (batch_count (take i batches)) (slice_index batches i + 1)
count_suc i [] less = absurd (omega (arith, less))
count_suc zero (b ∷ batches) less = omega arith
count_suc (suc i) (b ∷ batches) less = ap (max (b + 1)) (count_suc i batches (omega (arith, less))) ∙ omega arith

-- the greater of two numbers, which are within a limit
pub record IsCounted (i count : ℕ) (batches : List ℕ) : Type 0 where
  pub is : count ≡ batch_count (take i batches)
  pub limit : count ≤ 65536

pub counted_next : (i j count batch next : ℕ) (batches : List ℕ) → i < length batches → j ≡ suc i → IsCounted i count batches
    → batch ≡ slice_index batches i → batch ≤ 65535 → next ≡ max count (batch + 1) → IsCounted j next batches
counted_next i j count batch next batches less e before there limit new = record {
  is = new ∙ (ap_both (λ a b. max a (b + 1)) before.is there ∙ (sym (count_suc i batches less) ∙ ap (λ n. batch_count (take n batches)) (sym e)));
  limit = omega (arith, new, limit, before.limit);
}

pub counted_all : (i count : ℕ) (batches : List ℕ) → length batches ≤ i → IsCounted i count batches → count ≡ batch_count batches
counted_all i count batches end counted = counted.is ∙ ap batch_count (take_all i batches end)
  where
    take_all : {A : Type 0} (i : ℕ) (xs : List A) → length xs ≤ i → take i xs ≡ xs
    take_all zero [] end = refl
    take_all (suc i) [] end = refl
    take_all zero (x ∷ xs) end = absurd (omega (arith, end))
    take_all (suc i) (x ∷ xs) end = ap (λ l. x ∷ l) (take_all i xs (omega (arith, end)))

pub is_within : (from to i : ℕ) → from ≤ i → i < to → is_between from to i ≡ true
is_within from to i le less = ap_both ◌&&◌ (le-leb from i le) (lt-ltb i to less)
