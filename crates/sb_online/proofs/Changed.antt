-- Parts that are added to tables, and tables that are emptied.
use Rattle.std.proofs.Common.{◌≡◌, ◌≢◌, ℕ, zero, suc, ◌<◌, Bool, true, false, List, [], ◌∷◌, ◌++◌, length, get_or, set, drop, min, Option, refl, sym, ap, subst, ◌∙◌, append_assoc, arith}
use Rattle.std.specs.Prelude.{◌==◌, is_err, OnOk, OnErr}
use Rattle.std.specs.List.{IsDistinct}
use Rattle.std.specs.Map.{keys_of}
use Rattle.std.specs.declared.result.Result.{Result}
use Rattle.std.specs.declared.result.Result.TheVariants.{Ok, Err}
use Rattle.std.proofs.lemmas.Bool.Decides.{nat_tests}
use Rattle.std.proofs.lemmas.List.{get_or-set_same, get_or-set_other}
use Rattle.sb_laws.specs.Sums.{sum_of}
use Rattle.sb_laws.specs.Tables.{values_at}
use Rattle.sb_laws.proofs.Positions.{ap_both}
use Rattle.sb_feed.specs.declared.key.KeyBytes.{KeyBytes}
use Rattle.sb_feed.specs.declared.parts.Part.{Part}
use Rattle.sb_feed.specs.Keys.{key_order, same_key}
use Rattle.sb_feed.specs.Jobs.{Dictionaries, AreValid}
use Rattle.sb_feed.specs.Stands.{key_values, keyed_values}
use Rattle.sb_job.specs.Sums.{HasKeySums}
use Rattle.sb_job.specs.ByBatch.{at_batch, one_or_none}
use Rattle.sb_job.proofs.Listed.{values_both, distinct_value, sum_before}
use Rattle.sb_online.specs.Onlines.{tables_parts, AddsPart}
use Rattle.sb_online.proofs.Tabled.{parts_both, table_here, table_other, tables_at, set_all, to_tables, from_tables}

-- what holds of what succeeds
pub holds : {T R : Type 0} {P : Type 0} (r : Result T R) → is_err r ≡ false → OnOk r P → P
holds (Ok _) e h = h
holds (Err _) e h = cc

-- what is new is as wanted, or is what was there
pub either_way : {T R A : Type 0} (P : A → Type 0) (r : Result T R) (old new : A) → OnOk r (P new) → OnErr r (new ≡ old) → P old → P new
either_way P (Ok _) old new ok err h = ok
either_way P (Err _) old new ok err h = subst P (sym err) h

pub both_ok : {T R : Type 0} {P Q S : Type 0} (r : Result T R) → OnOk r P → OnOk r Q → (P → Q → S) → OnOk r S
both_ok (Ok _) p q f = f p q
both_ok (Err _) p q f = tt

module _ {E : Type 0} (d : Dictionaries E) (part : Part E) (tables : List (List (KeyBytes × E))) (new : List (KeyBytes × E)) where
  -- the table of its batch has a part in addition
  pub adds_part : part.batch < length tables → IsDistinct same_key (keys_of new) → HasKeySums d (get_or tables part.batch [] ++ (part.key, part.value) ∷ []) new → AddsPart d.add part tables (set tables part.batch new)
  adds_part there apart has key j later =
      ap a (parts_both key j (tables_parts 0 (set tables part.batch new)) later ∙ ap (λ l. l ++ w) (tables_at key j 0 j (set tables part.batch new) (omega arith)))
      ∙ (at (part.batch == j) refl
      ∙ sym (ap a (parts_both key j (tables_parts 0 tables) (part ∷ later)
      ∙ ap_both (λ l m. l ++ m) (tables_at key j 0 j tables (omega arith)) (parts_both key j (part ∷ []) later))))
    where
      a : List E → Option E
      a = sum_of (d.add key.store)

      w : List E
      w = at_batch j (key_values key later)

      at : (t : Bool) → (part.batch == j) ≡ t
          → a (values_at key_order key (get_or (set tables part.batch new) j []) ++ w) ≡ a (values_at key_order key (get_or tables j []) ++ (at_batch j (key_values key (part ∷ [])) ++ w))
      at false e =
          let other : j ≢ part.batch = (λ f. let same : (part.batch == j) ≡ true = grind (arith, nat_tests, f) in cc) in
          ap a (ap (λ l. values_at key_order key l ++ w) (get_or-set_other tables part.batch j new [] other)
          ∙ sym (ap (λ l. values_at key_order key (get_or tables j []) ++ (l ++ w)) (table_other key part.batch j ((part.key, part.value) ∷ []) e)))
      at true e =
          let is : part.batch ≡ j = grind (arith, nat_tests) in
          let old = get_or tables part.batch [] in
          let more = values_at key_order key ((part.key, part.value) ∷ []) in
          ap a (ap (λ l. values_at key_order key l ++ w) (ap (λ n. get_or (set tables part.batch new) n []) (sym is) ∙ get_or-set_same tables part.batch new [] there) ∙ ap (λ l. l ++ w) (distinct_value key new apart))
          ∙ (ap (λ o. a (one_or_none o ++ w)) (has key)
          ∙ (sum_before (d.add key.store) (values_at key_order key (old ++ (part.key, part.value) ∷ [])) w
          ∙ ap a (ap (λ l. l ++ w) (values_both key old ((part.key, part.value) ∷ []))
          ∙ (append_assoc (values_at key_order key old) more w
          ∙ ap_both (λ l m. values_at key_order key l ++ (m ++ w)) (ap (λ n. get_or tables n []) is)
          (sym (ap (λ n. at_batch n (key_values key (part ∷ []))) (sym is) ∙ table_here key part.batch ((part.key, part.value) ∷ [])))))))

-- tables with a valid table in place of one are valid
pub set_valid : {E : Type 0} (d : Dictionaries E) (tables : List (List (KeyBytes × E))) (n : ℕ) (new : List (KeyBytes × E)) → AreValid d (keyed_values (tables_parts 0 tables)) → AreValid d new
    → AreValid d (keyed_values (tables_parts 0 (set tables n new)))
set_valid d tables n new h v = from_tables d 0 (set tables n new) (set_all (AreValid d) tables n new (to_tables d 0 tables h) v)

-- an element that is there is the same whatever the default
pub same_there : {A : Type 0} (xs : List A) (n : ℕ) (x y : A) → n < length xs → get_or xs n x ≡ get_or xs n y
same_there [] n x y h = absurd (omega arith)
same_there (z ∷ xs) zero x y h = refl
same_there (z ∷ xs) (suc n) x y h = same_there xs n x y (omega arith)

pub keyed_drop : {E : Type 0} (d : Dictionaries E) (n : ℕ) (parts : List (Part E)) → AreValid d (keyed_values parts) → AreValid d (keyed_values (drop n parts))
keyed_drop d zero parts h = h
keyed_drop d (suc n) [] h = tt
keyed_drop d (suc n) (part ∷ parts) h = keyed_drop d n parts h.1

pub fewer : {A : Type 0} (n : ℕ) (xs : List A) → drop (min n (length xs)) xs ≡ drop n xs
fewer zero xs = let e : min 0 (length xs) ≡ 0 = omega arith in ap (λ n. drop n xs) e
fewer (suc n) [] = let e : min (suc n) 0 ≡ 0 = omega arith in ap (λ n. drop n []) e
fewer (suc n) (x ∷ xs) = let e : min (suc n) (suc (length xs)) ≡ suc (min n (length xs)) = omega arith in ap (λ n. drop n (x ∷ xs)) e ∙ fewer n xs
