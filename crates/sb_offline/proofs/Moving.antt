-- Lists of which the first are emptied, and the rows that were in them.
use Rattle.std.proofs.Common.{◌≡◌, ℕ, zero, suc, ◌+◌, ◌-◌, ◌<◌, ◌≤◌, Bool, true, false, cond, List, [], ◌∷◌, ◌++◌, length, get_or, set, take, drop, Option, None, refl, sym, ap, ◌∙◌, append_assoc, append-nil, arith}
use Rattle.std.specs.Prelude.{nat_le}
use Rattle.std.specs.List.{AllByRecursion, flat_map}
use Rattle.std.specs.FinMap.{find}
use Rattle.std.proofs.lemmas.Bool.Decides.{nat_tests}
use Rattle.std.proofs.lemmas.List.{length-append}
use Rattle.sb_laws.proofs.Sums.{valid_append, valid_left, valid_right}
use Rattle.sb_feed.specs.declared.key.KeyBytes.{KeyBytes}
use Rattle.sb_feed.specs.Keys.{key_order}
use Rattle.sb_offline.specs.Expiries.{rows_below, emptied}

module _ {A : Type 0} where
  -- nothing is moved where nothing is left
  pub emptied_below : (n : ℕ) (lists : List (List A)) → AllByRecursion (λ rows. rows ≡ []) (take n lists) → emptied n lists ≡ lists
  emptied_below zero lists h = refl
  emptied_below (suc n) [] h = refl
  emptied_below (suc n) (rows ∷ lists) h = ap (λ l. l ∷ emptied n lists) (sym h.0) ∙ ap (λ l. rows ∷ l) (emptied_below n lists h.1)

  pub nothing_below : (n : ℕ) (lists : List (List A)) → AllByRecursion (λ rows. rows ≡ []) (take n lists) → rows_below n lists ≡ []
  nothing_below zero [] h = refl
  nothing_below zero (rows ∷ lists) h = refl
  nothing_below (suc n) [] h = refl
  nothing_below (suc n) (rows ∷ lists) h = ap (λ l. l ++ rows_below n lists) h.0 ∙ nothing_below n lists h.1

  pub emptied_length : (n : ℕ) (lists : List (List A)) → length (emptied n lists) ≡ length lists
  emptied_length zero lists = refl
  emptied_length (suc n) [] = refl
  emptied_length (suc n) (rows ∷ lists) = ap suc (emptied_length n lists)

  -- one list more
  pub emptied_more : (n : ℕ) (lists : List (List A)) → n < length lists → set (emptied n lists) n [] ≡ emptied (suc n) lists
  emptied_more zero [] h = absurd (omega arith)
  emptied_more zero (rows ∷ lists) h = refl
  emptied_more (suc n) [] h = absurd (omega arith)
  emptied_more (suc n) (rows ∷ lists) h = ap (λ l. [] ∷ l) (emptied_more n lists (omega arith))

  pub emptied_here : (n : ℕ) (d : List A) (lists : List (List A)) → get_or (emptied n lists) n d ≡ get_or lists n d
  emptied_here zero d lists = refl
  emptied_here (suc n) d [] = refl
  emptied_here (suc n) d (rows ∷ lists) = emptied_here n d lists

  pub below_more : (n : ℕ) (d : List A) (lists : List (List A)) → n < length lists → rows_below (suc n) lists ≡ rows_below n lists ++ get_or lists n d
  below_more zero d [] h = absurd (omega arith)
  below_more zero d (rows ∷ []) h = append-nil rows
  below_more zero d (rows ∷ next ∷ lists) h = append-nil rows
  below_more (suc n) d [] h = absurd (omega arith)
  below_more (suc n) d (rows ∷ lists) h = ap (λ l. rows ++ l) (below_more n d lists (omega arith)) ∙ sym (append_assoc rows (rows_below n lists) (get_or lists n d))

  pub below_grows : (m n : ℕ) (lists : List (List A)) → m ≤ n → length (rows_below m lists) ≤ length (rows_below n lists)
  below_grows zero n [] h = let e : length (rows_below zero lists') ≡ 0 = refl in omega arith
    where
      lists' : List (List A)
      lists' = []
  below_grows zero n (rows ∷ lists) h = omega arith
  below_grows (suc m) zero lists h = absurd (omega (arith, h))
  below_grows (suc m) (suc n) [] h = omega arith
  below_grows (suc m) (suc n) (rows ∷ lists) h =
      let rest = below_grows m n lists (omega (arith, h)) in
      omega (arith, rest, length-append rows (rows_below m lists), length-append rows (rows_below n lists))

  pub emptied_is : (n : ℕ) (lists : List (List A)) → AllByRecursion (λ rows. rows ≡ []) (take n (emptied n lists))
  emptied_is zero [] = tt
  emptied_is zero (rows ∷ lists) = tt
  emptied_is (suc n) [] = tt
  emptied_is (suc n) (rows ∷ lists) = (refl, emptied_is n lists)

  -- what the lists have is valid without some of them
  pub emptied_valid : (P : A → Type 0) (n : ℕ) (lists : List (List A)) → AllByRecursion P (flat_map (λ rows. rows) lists) → AllByRecursion P (flat_map (λ rows. rows) (emptied n lists))
  emptied_valid P zero lists h = h
  emptied_valid P (suc n) [] h = tt
  emptied_valid P (suc n) (rows ∷ lists) h = emptied_valid P n lists (valid_right P rows (flat_map (λ l. l) lists) h)

  pub below_valid : (P : A → Type 0) (n : ℕ) (lists : List (List A)) → AllByRecursion P (flat_map (λ rows. rows) lists) → AllByRecursion P (rows_below n lists)
  below_valid P zero [] h = tt
  below_valid P zero (rows ∷ lists) h = tt
  below_valid P (suc n) [] h = tt
  below_valid P (suc n) (rows ∷ lists) h = valid_append P rows (rows_below n lists) (valid_left P rows (flat_map (λ l. l) lists) h) (below_valid P n lists (valid_right P rows (flat_map (λ l. l) lists) h))

  pub none_at : (j n : ℕ) (lists : List (List A)) → j < n → AllByRecursion (λ rows. rows ≡ []) (take n lists) → get_or lists j [] ≡ []
  none_at j zero lists h none = absurd (omega (arith, h))
  none_at j (suc n) [] h none = refl
  none_at zero (suc n) (rows ∷ lists) h none = none.0
  none_at (suc j) (suc n) (rows ∷ lists) h none = none_at j n lists (omega (arith, h)) none.1

  pub emptied_other : (j n : ℕ) (lists : List (List A)) → n ≤ j → get_or (emptied n lists) j [] ≡ get_or lists j []
  emptied_other j zero lists h = refl
  emptied_other zero (suc n) lists h = absurd (omega (arith, h))
  emptied_other (suc j) (suc n) [] h = refl
  emptied_other (suc j) (suc n) (rows ∷ lists) h = emptied_other j n lists (omega (arith, h))

module _ {E : Type 0} (key : KeyBytes) where
  -- what is found of a batch after the first are emptied
  pub emptied_find : (n j : ℕ) (lists : List (List (KeyBytes × E))) → find key_order key (get_or (emptied n lists) j []) ≡ cond (nat_le n j) (find key_order key (get_or lists j [])) None
  emptied_find n j lists = cases (nat_le n j) refl
    where
      cases : (t : Bool) → nat_le n j ≡ t → find key_order key (get_or (emptied n lists) j []) ≡ cond t (find key_order key (get_or lists j [])) None
      cases true e = ap (find key_order key) (emptied_other j n lists (grind (arith, nat_tests)))
      cases false e = ap (find key_order key) (none_at j n (emptied n lists) (grind (arith, nat_tests)) (emptied_is n lists))

  -- below a number from which on nothing is missing, nothing is found
  pub none_found : (n j : ℕ) (t : Bool) (lists : List (List (KeyBytes × E))) → AllByRecursion (λ rows. rows ≡ []) (take n lists)
      → cond (nat_le n j) (cond t (find key_order key (get_or lists j [])) None) None ≡ cond t (find key_order key (get_or lists j [])) None
  none_found n j t lists none = cases (nat_le n j) refl t
    where
      found : Option E
      found = find key_order key (get_or lists j [])

      cases : (s : Bool) → nat_le n j ≡ s → (t : Bool) → cond s (cond t found None) None ≡ cond t found None
      cases true e t = refl
      cases false e true = sym (ap (find key_order key) (none_at j n lists (grind (arith, nat_tests)) none))
      cases false e false = refl
