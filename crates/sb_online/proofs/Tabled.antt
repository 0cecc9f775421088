-- Tables by batch as parts: the values of a key, and what a batch has.
use Rattle.std.proofs.Common.{◌≡◌, ℕ, zero, suc, ◌+◌, ◌<◌, ◌≤◌, Bool, true, false, cond, not, ◌&&◌, ◌||◌, List, [], ◌∷◌, ◌++◌, map, filter, length, get_or, set, drop, refl, sym, ap, subst, ◌∙◌, append-nil, arith}
use Rattle.std.specs.Prelude.{nat_le, ◌==◌}
use Rattle.std.specs.List.{AllByRecursion, flat_map, list_any}
use Rattle.std.proofs.lemmas.Bool.Decides.{nat_tests}
use Rattle.std.proofs.lemmas.List.{map-append}
use Rattle.std.proofs.lemmas.List.Elements.{filter-append}
use Rattle.std.proofs.lemmas.List.Folds.{list_any-append}
use Rattle.sb_laws.specs.Tables.{values_at}
use Rattle.sb_laws.proofs.Positions.{ap_both}
use Rattle.sb_laws.proofs.Sums.{valid_append, valid_left, valid_right}
use Rattle.sb_feed.specs.declared.key.KeyBytes.{KeyBytes}
use Rattle.sb_feed.specs.declared.parts.Part.{Part}
use Rattle.sb_feed.specs.Keys.{key_order, same_key}
use Rattle.sb_feed.specs.Jobs.{Dictionaries, AreValid}
use Rattle.sb_feed.specs.Stands.{batch_value, key_values, keyed_values}
use Rattle.sb_feed.proofs.PartSums.{values_append, keyed_append}
use Rattle.sb_job.specs.ByBatch.{at_batch}
use Rattle.sb_job.proofs.Listed.{at_both}
use Rattle.sb_online.specs.Onlines.{table_parts, tables_parts, parts_from, without}

is_itself : (j : ℕ) → (j == j) ≡ true
is_itself j = grind (arith, nat_tests)

module _ {E : Type 0} (key : KeyBytes) where
  pub parts_both : (j : ℕ) (xs ys : List (Part E)) → at_batch j (key_values key (xs ++ ys)) ≡ at_batch j (key_values key xs) ++ at_batch j (key_values key ys)
  parts_both j xs ys = ap (at_batch j) (values_append key xs ys) ∙ at_both j (key_values key xs) (key_values key ys)

  -- the parts of a table are of its batch
  pub table_here : (j : ℕ) (table : List (KeyBytes × E)) → at_batch j (key_values key (table_parts j table)) ≡ values_at key_order key table
  table_here j [] = refl
  table_here j (row ∷ rows) =
      let rest = table_here j rows in
      elim (same_key key row.0) as (λ t. at_batch j (map batch_value (cond t (record { key = row.0; batch = j; value = row.1 } ∷ filter (λ part. same_key key part.key) (table_parts j rows)) (filter (λ part. same_key key part.key) (table_parts j rows))))
      ≡ map (λ (x : KeyBytes × E). x.1) (cond t (row ∷ filter (λ x. same_key key x.0) rows) (filter (λ x. same_key key x.0) rows))) [
        | true ↦ ap (λ t. map (λ (x : ℕ × E). x.1) (cond t ((j, row.1) ∷ filter (λ x. x.0 == j) (key_values key (table_parts j rows))) (filter (λ x. x.0 == j) (key_values key (table_parts j rows))))) (is_itself j) ∙ ap (λ l. row.1 ∷ l) rest
        | false ↦ rest
      ]

  pub table_other : (i j : ℕ) (table : List (KeyBytes × E)) → (i == j) ≡ false → at_batch j (key_values key (table_parts i table)) ≡ []
  table_other i j [] e = refl
  table_other i j (row ∷ rows) e =
      let rest = table_other i j rows e in
      elim (same_key key row.0) as (λ t. at_batch j (map batch_value (cond t (record { key = row.0; batch = i; value = row.1 } ∷ filter (λ part. same_key key part.key) (table_parts i rows)) (filter (λ part. same_key key part.key) (table_parts i rows)))) ≡ []) [
        | true ↦ ap (λ t. map (λ (x : ℕ × E). x.1) (cond t ((i, row.1) ∷ filter (λ x. x.0 == j) (key_values key (table_parts i rows))) (filter (λ x. x.0 == j) (key_values key (table_parts i rows))))) e ∙ rest
        | false ↦ rest
      ]

  tables_before : (j i : ℕ) (tables : List (List (KeyBytes × E))) → j < i → at_batch j (key_values key (tables_parts i tables)) ≡ []
  tables_before j i [] h = refl
  tables_before j i (table ∷ tables) h =
      let other : (i == j) ≡ false = grind (arith, nat_tests) in
      parts_both j (table_parts i table) (tables_parts (suc i) tables) ∙ ap_both (λ l m. l ++ m) (table_other i j table other) (tables_before j (suc i) tables (omega (arith, h)))

  -- of tables, a batch has what its table has
  pub tables_at : (j i k : ℕ) (tables : List (List (KeyBytes × E))) → j ≡ i + k → at_batch j (key_values key (tables_parts i tables)) ≡ values_at key_order key (get_or tables k [])
  tables_at j i k [] e = refl
  tables_at j i zero (table ∷ tables) e =
      let is : i ≡ j = omega (arith, e) in
      parts_both j (table_parts i table) (tables_parts (suc i) tables)
      ∙ (ap_both (λ l m. l ++ m) (ap (λ n. at_batch j (key_values key (table_parts n table))) is ∙ table_here j table) (tables_before j (suc i) tables (omega (arith, e)))
      ∙ append-nil (values_at key_order key table))
  tables_at j i (suc k) (table ∷ tables) e =
      let other : (i == j) ≡ false = grind (arith, nat_tests, e) in
      parts_both j (table_parts i table) (tables_parts (suc i) tables)
      ∙ ap_both (λ l m. l ++ m) (table_other i j table other) (tables_at j (suc i) k tables (omega (arith, e)))

module _ {E : Type 0} where
  -- an empty table more
  pub more_tables : (i : ℕ) (tables : List (List (KeyBytes × E))) → tables_parts i (tables ++ [] ∷ []) ≡ tables_parts i tables
  more_tables i [] = refl
  more_tables i (table ∷ tables) = ap (λ l. table_parts i table ++ l) (more_tables (suc i) tables)

  without_here : (b : ℕ) (table : List (KeyBytes × E)) → without b (table_parts b table) ≡ []
  without_here b [] = refl
  without_here b (row ∷ rows) =
      ap (λ t. cond (not t) (record { key = row.0; batch = b; value = row.1 } ∷ without b (table_parts b rows)) (without b (table_parts b rows))) (is_itself b) ∙ without_here b rows

  without_other : (b i : ℕ) (table : List (KeyBytes × E)) → (i == b) ≡ false → without b (table_parts i table) ≡ table_parts i table
  without_other b i [] e = refl
  without_other b i (row ∷ rows) e =
      ap (λ t. cond (not t) (record { key = row.0; batch = i; value = row.1 } ∷ without b (table_parts i rows)) (without b (table_parts i rows))) e
      ∙ ap (λ l. record { key = row.0; batch = i; value = row.1 } ∷ l) (without_other b i rows e)

  without_both : (b : ℕ) (xs ys : List (Part E)) → without b (xs ++ ys) ≡ without b xs ++ without b ys
  without_both b xs ys = filter-append (λ (part : Part E). not (part.batch == b)) xs ys

  without_before : (b i : ℕ) (tables : List (List (KeyBytes × E))) → b < i → without b (tables_parts i tables) ≡ tables_parts i tables
  without_before b i [] h = refl
  without_before b i (table ∷ tables) h =
      let other : (i == b) ≡ false = grind (arith, nat_tests) in
      without_both b (table_parts i table) (tables_parts (suc i) tables) ∙ ap_both (λ l m. l ++ m) (without_other b i table other) (without_before b (suc i) tables (omega (arith, h)))

  -- without its batch, what stands in a table is left out
  pub without_at : (b i k : ℕ) (tables : List (List (KeyBytes × E))) → b ≡ i + k → tables_parts i (set tables k []) ≡ without b (tables_parts i tables)
  without_at b i k [] e = refl
  without_at b i zero (table ∷ tables) e =
      let is : b ≡ i = omega (arith, e) in
      sym (without_both b (table_parts i table) (tables_parts (suc i) tables)
      ∙ ap_both (λ l m. l ++ m) (ap (λ n. without n (table_parts i table)) is ∙ without_here i table) (without_before b (suc i) tables (omega (arith, e))))
  without_at b i (suc k) (table ∷ tables) e =
      let other : (i == b) ≡ false = grind (arith, nat_tests, e) in
      sym (without_both b (table_parts i table) (tables_parts (suc i) tables)
      ∙ ap_both (λ l m. l ++ m) (without_other b i table other) (sym (without_at b (suc i) k tables (omega (arith, e)))))

pub set_outside : {A : Type 0} (xs : List A) (n : ℕ) (y : A) → length xs ≤ n → set xs n y ≡ xs
set_outside [] n y h = refl
set_outside (x ∷ xs) zero y h = absurd (omega arith)
set_outside (x ∷ xs) (suc n) y h = ap (λ l. x ∷ l) (set_outside xs n y (omega arith))

pub set_all : {A : Type 0} (P : A → Type 0) (xs : List A) (n : ℕ) (y : A) → AllByRecursion P xs → P y → AllByRecursion P (set xs n y)
set_all P [] n y h p = tt
set_all P (x ∷ xs) zero y h p = (p, h.1)
set_all P (x ∷ xs) (suc n) y h p = (h.0, set_all P xs n y h.1 p)

pub all_at : {A : Type 0} (P : A → Type 0) (xs : List A) (n : ℕ) (d : A) → AllByRecursion P xs → P d → P (get_or xs n d)
all_at P [] n d h p = p
all_at P (x ∷ xs) zero d h p = h.0
all_at P (x ∷ xs) (suc n) d h p = all_at P xs n d h.1 p

module _ {E : Type 0} (d : Dictionaries E) where
  keyed_table : (j : ℕ) (table : List (KeyBytes × E)) → keyed_values (table_parts j table) ≡ table
  keyed_table j [] = refl
  keyed_table j (row ∷ rows) = ap (λ l. row ∷ l) (keyed_table j rows)

  keyed_both : (xs ys : List (Part E)) → keyed_values (xs ++ ys) ≡ keyed_values xs ++ keyed_values ys
  keyed_both xs ys = map-append (λ (part : Part E). (part.key, part.value)) xs ys

  abbrev IsFine : KeyBytes × E → Type 0
  IsFine row = (row.0.store < d.stores) × d.valid row.0.store row.1

  pub keyed_left : (xs ys : List (Part E)) → AreValid d (keyed_values (xs ++ ys)) → AreValid d (keyed_values xs)
  keyed_left xs ys h = valid_left IsFine (keyed_values xs) (keyed_values ys) (subst (AreValid d) (keyed_both xs ys) h)

  pub keyed_right : (xs ys : List (Part E)) → AreValid d (keyed_values (xs ++ ys)) → AreValid d (keyed_values ys)
  keyed_right xs ys h = valid_right IsFine (keyed_values xs) (keyed_values ys) (subst (AreValid d) (keyed_both xs ys) h)

  -- what is in tables is valid, table by table
  pub to_tables : (i : ℕ) (tables : List (List (KeyBytes × E))) → AreValid d (keyed_values (tables_parts i tables)) → AllByRecursion (AreValid d) tables
  to_tables i [] h = tt
  to_tables i (table ∷ tables) h =
      (subst (AreValid d) (keyed_table i table) (keyed_left (table_parts i table) (tables_parts (suc i) tables) h), to_tables (suc i) tables (keyed_right (table_parts i table) (tables_parts (suc i) tables) h))

  pub flat_tables : (tables : List (List (KeyBytes × E))) → AllByRecursion (AreValid d) tables → AreValid d (flat_map (λ table. table) tables)
  flat_tables [] h = tt
  flat_tables (table ∷ tables) h = valid_append IsFine table (flat_map (λ t. t) tables) h.0 (flat_tables tables h.1)

  pub from_tables : (i : ℕ) (tables : List (List (KeyBytes × E))) → AllByRecursion (AreValid d) tables → AreValid d (keyed_values (tables_parts i tables))
  from_tables i [] h = tt
  from_tables i (table ∷ tables) h = keyed_append d (table_parts i table) (tables_parts (suc i) tables) (subst (AreValid d) (sym (keyed_table i table)) h.0) (from_tables (suc i) tables h.1)

  -- the values of the tables from one on
  early_none : (from i : ℕ) (table : List (KeyBytes × E)) → nat_le from i ≡ false → parts_from from (table_parts i table) ≡ []
  early_none from i [] e = refl
  early_none from i (row ∷ rows) e = ap (λ t. cond t (record { key = row.0; batch = i; value = row.1 } ∷ parts_from from (table_parts i rows)) (parts_from from (table_parts i rows))) e ∙ early_none from i rows e

  late_all : (from i : ℕ) (table : List (KeyBytes × E)) → nat_le from i ≡ true → parts_from from (table_parts i table) ≡ table_parts i table
  late_all from i [] e = refl
  late_all from i (row ∷ rows) e =
      ap (λ t. cond t (record { key = row.0; batch = i; value = row.1 } ∷ parts_from from (table_parts i rows)) (parts_from from (table_parts i rows))) e
      ∙ ap (λ l. record { key = row.0; batch = i; value = row.1 } ∷ l) (late_all from i rows e)

  from_both : (from : ℕ) (xs ys : List (Part E)) → parts_from from (xs ++ ys) ≡ parts_from from xs ++ parts_from from ys
  from_both from xs ys = filter-append (λ (part : Part E). nat_le from part.batch) xs ys

  late_tables : (from i : ℕ) (tables : List (List (KeyBytes × E))) → from ≤ i → keyed_values (parts_from from (tables_parts i tables)) ≡ flat_map (λ table. table) tables
  late_tables from i [] h = refl
  late_tables from i (table ∷ tables) h =
      let late : nat_le from i ≡ true = grind (arith, nat_tests) in
      ap keyed_values (from_both from (table_parts i table) (tables_parts (suc i) tables) ∙ ap (λ l. l ++ parts_from from (tables_parts (suc i) tables)) (late_all from i table late))
      ∙ (keyed_both (table_parts i table) (parts_from from (tables_parts (suc i) tables))
      ∙ ap_both (λ l m. l ++ m) (keyed_table i table) (late_tables from (suc i) tables (omega (arith, h))))

  pub tables_from : (from i n : ℕ) (tables : List (List (KeyBytes × E))) → from ≡ i + n → keyed_values (parts_from from (tables_parts i tables)) ≡ flat_map (λ table. table) (drop n tables)
  tables_from from i zero tables e = late_tables from i tables (omega (arith, e))
  tables_from from i (suc n) [] e = refl
  tables_from from i (suc n) (table ∷ tables) e =
      let early : nat_le from i ≡ false = grind (arith, nat_tests, e) in
      ap keyed_values (from_both from (table_parts i table) (tables_parts (suc i) tables) ∙ ap (λ l. l ++ parts_from from (tables_parts (suc i) tables)) (early_none from i table early))
      ∙ tables_from from (suc i) n tables (omega (arith, e))

  -- all values from one batch on
  pub values_from : (from : ℕ) (tables : List (List (KeyBytes × E))) (waiting : List (Part E)) → keyed_values (parts_from from (tables_parts 0 tables ++ waiting)) ≡ flat_map (λ table. table) (drop from tables) ++ keyed_values (parts_from from waiting)
  values_from from tables waiting =
      ap keyed_values (from_both from (tables_parts 0 tables) waiting)
      ∙ (keyed_both (parts_from from (tables_parts 0 tables)) (parts_from from waiting)
      ∙ ap (λ l. l ++ keyed_values (parts_from from waiting)) (tables_from from 0 from tables (omega arith)))

module _ {E : Type 0} (q : KeyBytes) (from : ℕ) where
  any_table : (i : ℕ) (table : List (KeyBytes × E)) (t : Bool) → nat_le from i ≡ t → list_any (λ part. same_key q part.key && nat_le from part.batch) (table_parts i table) ≡ (t && list_any (λ row. same_key q row.0) table)
  any_table i [] true e = refl
  any_table i [] false e = refl
  any_table i (row ∷ rows) true e = ap (λ t. (same_key q row.0 && t) || list_any (λ part. same_key q part.key && nat_le from part.batch) (table_parts i rows)) e ∙ ap_both (λ s t. s || t) (and_true (same_key q row.0)) (any_table i rows true e)
    where
      and_true : (s : Bool) → (s && true) ≡ s
      and_true true = refl
      and_true false = refl
  any_table i (row ∷ rows) false e = ap (λ t. (same_key q row.0 && t) || list_any (λ part. same_key q part.key && nat_le from part.batch) (table_parts i rows)) e ∙ ap_both (λ s t. s || t) (and_false (same_key q row.0)) (any_table i rows false e)
    where
      and_false : (s : Bool) → (s && false) ≡ false
      and_false true = refl
      and_false false = refl

  any_late : (i : ℕ) (tables : List (List (KeyBytes × E))) → from ≤ i → list_any (list_any (λ row. same_key q row.0)) tables ≡ list_any (λ part. same_key q part.key && nat_le from part.batch) (tables_parts i tables)
  any_late i [] h = refl
  any_late i (table ∷ tables) h =
      sym (list_any-append (λ (part : Part E). same_key q part.key && nat_le from part.batch) (table_parts i table) (tables_parts (suc i) tables)
      ∙ ap_both (λ s t. s || t) (any_table i table true (grind (arith, nat_tests))) (sym (any_late (suc i) tables (omega (arith, h)))))

  -- a key is in the tables from one on exactly where a part of these batches has it
  pub any_tables : (i n : ℕ) (tables : List (List (KeyBytes × E))) → from ≡ i + n → list_any (list_any (λ row. same_key q row.0)) (drop n tables) ≡ list_any (λ part. same_key q part.key && nat_le from part.batch) (tables_parts i tables)
  any_tables i zero tables e = any_late i tables (omega (arith, e))
  any_tables i (suc n) [] e = refl
  any_tables i (suc n) (table ∷ tables) e =
      sym (list_any-append (λ (part : Part E). same_key q part.key && nat_le from part.batch) (table_parts i table) (tables_parts (suc i) tables)
      ∙ ap_both (λ s t. s || t) (any_table i table false (grind (arith, nat_tests, e))) (sym (any_tables (suc i) n tables (omega (arith, e)))))

or_grouped : (k t w : Bool) → ((k || t) || w) ≡ (k || (t || w))
or_grouped true t w = refl
or_grouped false t w = refl

-- keys that are put into a set in turn: of the tables, and of what waits
pub put_in_turn : {E : Type 0} (q : KeyBytes) (from : ℕ) (tables : List (List (KeyBytes × E))) (waiting : List (Part E)) (none some all : Bool)
    → some ≡ (none || list_any (list_any (λ row. same_key q row.0)) (drop from tables))
    → all ≡ (some || list_any (λ part. same_key q part.key && nat_le from part.batch) waiting)
    → all ≡ (none || list_any (λ part. same_key q part.key && nat_le from part.batch) (tables_parts 0 tables ++ waiting))
put_in_turn {E} q from tables waiting none some all first second =
    second
    ∙ (ap (λ t. t || list_any (λ part. same_key q part.key && nat_le from part.batch) waiting) (first ∙ ap (λ t. none || t) (any_tables q from 0 from tables (omega arith)))
    ∙ (or_grouped none (list_any (λ part. same_key q part.key && nat_le from part.batch) (tables_parts 0 tables)) (list_any (λ part. same_key q part.key && nat_le from part.batch) waiting)
    ∙ ap (λ t. none || t) (sym (list_any-append (λ (part : Part E). same_key q part.key && nat_le from part.batch) (tables_parts 0 tables) waiting))))
