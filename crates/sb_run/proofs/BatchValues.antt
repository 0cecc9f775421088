-- The values that records feed, by their keys.
use Rattle.std.proofs.Common.{◌≡◌, ◌≢◌, ℕ, zero, suc, ◌<◌, ◌≤◌, ◌⊎◌, inl, inr, true, false, cond, List, [], ◌∷◌, ◌++◌, length, map, filter, refl, sym, ap, subst, ◌∙◌, append-nil, arith}
use Rattle.std.specs.List.{flat_map}
use Rattle.std.specs.Str.{bytes_eq}
use Rattle.std.proofs.lemmas.List.{map-append}
use Rattle.std.proofs.lemmas.List.Concat.{flat_map-append}
use Rattle.std.proofs.lemmas.List.Elements.{filter-append}
use Rattle.sb_laws.specs.Sums.{sum_of}
use Rattle.sb_laws.specs.Tables.{values_at}
use Rattle.sb_laws.proofs.Positions.{ap_both}
use Rattle.sb_check.specs.Log.{HavePlaces, Logged}
use Rattle.sb_check.specs.Programs.{CheckedProgram}
use Rattle.sb_feed.specs.Keys.{key_order, same_key}
use Rattle.sb_feed.specs.declared.key.KeyBytes.{KeyBytes}
use Rattle.sb_kind.specs.declared.agg.Agg.{Agg}
use Rattle.sb_plan.specs.Emitted.{emitted, fold_of, everywhere}
use Rattle.sb_plan.specs.Given.{Planned, fed_at, planned}
use Rattle.sb_plan.specs.Parts.{key_at}
use Rattle.sb_plan.proofs.ByRecord.{placed, by_record, emitted_by_record}
use Rattle.sb_plan.proofs.Found.{fed_with, key_by_record}
use Rattle.sb_plan.proofs.Keys.{ties_by_text, apart}
use Rattle.sb_service.specs.Rows.{Rows}
use Rattle.sb_run.specs.Batching.{keyed, values_below, values_of, all_values}

abbrev at_key : KeyBytes → List (KeyBytes × Agg) → List Agg
at_key = values_at key_order

both_lists : (q : KeyBytes) (xs ys : List (KeyBytes × Agg)) → at_key q (xs ++ ys) ≡ at_key q xs ++ at_key q ys
both_lists q xs ys =
    ap (map (λ (x : KeyBytes × Agg). x.1)) (filter-append (λ (x : KeyBytes × Agg). same_key q x.0) xs ys)
    ∙ map-append (λ (x : KeyBytes × Agg). x.1) (filter (λ x. same_key q x.0) xs) (filter (λ x. same_key q x.0) ys)

-- a key of the store has what is fed with it
own : (s : ℕ) (key : List ℕ) (fed : List (List ℕ × Agg)) → at_key (key_at s key) (map (keyed s) fed) ≡ fed_with key fed
own s key [] = refl
own s key (x ∷ fed) =
    ap (λ b. map (λ (y : KeyBytes × Agg). y.1) (cond b (keyed s x ∷ filter (λ y. same_key (key_at s key) y.0) (map (keyed s) fed)) (filter (λ y. same_key (key_at s key) y.0) (map (keyed s) fed)))) (ties_by_text s key x.0)
    ∙ elim (bytes_eq x.0 key) as (λ b. map (λ (y : KeyBytes × Agg). y.1) (cond b (keyed s x ∷ filter (λ y. same_key (key_at s key) y.0) (map (keyed s) fed)) (filter (λ y. same_key (key_at s key) y.0) (map (keyed s) fed)))
    ≡ map (λ (y : List ℕ × Agg). y.1) (cond b (x ∷ filter (λ y. bytes_eq y.0 key) fed) (filter (λ y. bytes_eq y.0 key) fed))) [
      | true ↦ ap (λ l. x.1 ∷ l) (own s key fed)
      | false ↦ own s key fed
    ]

-- and a key of another store nothing
other : (s t : ℕ) (key : List ℕ) (fed : List (List ℕ × Agg)) → s ≢ t → at_key (key_at s key) (map (keyed t) fed) ≡ []
other s t key [] h = refl
other s t key (x ∷ fed) h =
    ap (λ b. map (λ (y : KeyBytes × Agg). y.1) (cond b (keyed t x ∷ filter (λ y. same_key (key_at s key) y.0) (map (keyed t) fed)) (filter (λ y. same_key (key_at s key) y.0) (map (keyed t) fed)))) (apart s t key x.0 h)
    ∙ other s t key fed h

module _ (p : Planned) (services : List Rows) (r : Logged) (key : List ℕ) where
  none_yet : (n s : ℕ) → n ≤ s → at_key (key_at s key) (values_below p services r n) ≡ []
  none_yet zero s h = refl
  none_yet (suc n) s h =
      both_lists (key_at s key) (values_below p services r n) (map (keyed n) (fed_at p services n r))
      ∙ ap_both ◌++◌ (none_yet n s (omega (arith, h))) (other s n key (fed_at p services n r) (λ e. absurd (omega (arith, h, e))))

  below_next : (s n : ℕ) → s < suc n → (n ≡ s) ⊎ (s < n)
  below_next zero zero h = inl refl
  below_next zero (suc n) h = inr (omega arith)
  below_next (suc s) zero h = absurd (omega (arith, h))
  below_next (suc s) (suc n) h = later (below_next s n (omega (arith, h)))
    where
      later : (n ≡ s) ⊎ (s < n) → (suc n ≡ suc s) ⊎ (suc s < suc n)
      later (inl e) = inl (ap suc e)
      later (inr l) = inr (omega (arith, l))

  at_store : (n s : ℕ) → s < n → at_key (key_at s key) (values_below p services r n) ≡ fed_with key (fed_at p services s r)
  at_store zero s h = absurd (omega (arith, h))
  at_store (suc n) s h = both_lists (key_at s key) (values_below p services r n) (map (keyed n) (fed_at p services n r)) ∙ by (at_store n s) (below_next s n h)
    where
      by : (s < n → at_key (key_at s key) (values_below p services r n) ≡ fed_with key (fed_at p services s r)) → (n ≡ s) ⊎ (s < n)
          → at_key (key_at s key) (values_below p services r n) ++ at_key (key_at s key) (map (keyed n) (fed_at p services n r)) ≡ fed_with key (fed_at p services s r)
      by before (inl e) = ap_both ◌++◌ (none_yet n s (omega (arith, e))) (subst (λ m. at_key (key_at s key) (map (keyed m) (fed_at p services m r)) ≡ fed_with key (fed_at p services s r)) (sym e) (own s key (fed_at p services s r)))
      by before (inr l) = ap_both ◌++◌ (before l) (other s n key (fed_at p services n r) (λ e. absurd (omega (arith, l, e)))) ∙ append-nil (fed_with key (fed_at p services s r))

-- values record by record
of_records : (q : KeyBytes) (F : Logged → List (KeyBytes × Agg)) (G : Logged → List Agg) (log : List Logged) → ((r : Logged) → at_key q (F r) ≡ G r) → at_key q (flat_map F log) ≡ flat_map G log
of_records q F G [] h = refl
of_records q F G (r ∷ log) h = both_lists q (F r) (flat_map F log) ∙ ap_both ◌++◌ (h r) (of_records q F G log h)

values_placed : (n : ℕ) (vs : List Agg) → map (λ x. x.1) (placed n vs) ≡ vs
values_placed n [] = refl
values_placed n (v ∷ vs) = ap (λ l. v ∷ l) (values_placed n vs)

values_by_record : (G : Logged → List Agg) (log : List Logged) → map (λ x. x.1) (by_record G log) ≡ flat_map G log
values_by_record G [] = refl
values_by_record G (r ∷ log) = map-append (λ (x : ℕ × Agg). x.1) (placed r.position (G r)) (by_record G log) ∙ ap_both ◌++◌ (values_placed r.position (G r)) (values_by_record G log)

all_pass : (xs : List (ℕ × Agg)) → filter (λ x. everywhere x.0) xs ≡ xs
all_pass [] = refl
all_pass (x ∷ xs) = ap (λ l. x ∷ l) (all_pass xs)

-- the sum of a key's values is the fold of what is emitted with it
pub values_are_folds : (c : CheckedProgram) (log : List Logged) (services : List Rows) (add : Agg → Agg → Agg) (store : ℕ) (key : List ℕ) → store < length (planned c).stores → HavePlaces 0 log
    → sum_of add (at_key (key_at store key) (all_values c services log)) ≡ fold_of add (emitted c log services store) key everywhere
values_are_folds c log services add store key there places =
    let F = fed_at (planned c) services store in
    ap (sum_of add)
    (of_records (key_at store key) (values_of (planned c) services) (λ r. fed_with key (F r)) log (λ r. at_store (planned c) services r key (length (planned c).stores) store there)
    ∙ (sym (values_by_record (λ r. fed_with key (F r)) log)
    ∙ ap (map (λ (x : ℕ × Agg). x.1)) (sym (all_pass (by_record (λ r. fed_with key (F r)) log)))))
    ∙ (ap (λ xs. sum_of add (map (λ (x : ℕ × Agg). x.1) (filter (λ x. everywhere x.0) xs))) (sym (key_by_record F key log))
    ∙ ap (λ es. fold_of add es key everywhere) (sym (emitted_by_record c log services store places)))

-- the values of a record more
pub values_next : (c : CheckedProgram) (services : List Rows) (records : List Logged) (r : Logged)
    → all_values c services records ++ values_of (planned c) services r ≡ all_values c services (records ++ r ∷ [])
values_next c services records r =
    let f = values_of (planned c) services in
    sym (flat_map-append f records (r ∷ []) ∙ ap (λ l. flat_map f records ++ l) (append-nil (f r)))
