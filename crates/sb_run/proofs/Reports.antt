-- Rows of many stores that rise and have the folds of emissions are the report, store after store.
use Rattle.std.proofs.Common.{◌≡◌, ℕ, suc, ◌+◌, ◌<◌, ◌≤◌, Bool, true, false, cond, List, [], ◌∷◌, ◌++◌, length, Some, None, refl, sym, ap, subst, ◌∙◌, arith, append_assoc}
use Rattle.std.specs.Prelude.{Option, slice_get}
use Rattle.std.proofs.lemmas.Slice.Eq.{bytes_eq-Decides}
use Rattle.std.proofs.lemmas.Cmp.{ranked}
use Rattle.std.specs.FinMap.{find, is_sorted}
use Rattle.std.specs.FinMap.Entries.{below_all}
use Rattle.std.specs.List.{AllByRecursion, flat_map}
use Rattle.std.specs.Ordering.{nat_cmp, ordering_then, is_eq, is_lt}
use Rattle.std.specs.declared.cmp.Ordering.{Ordering}
use Rattle.std.specs.declared.cmp.Ordering.TheVariants.{Less, Equal, Greater}
use Rattle.sb_laws.proofs.Positions.{ap_both}
use Rattle.sb_laws.proofs.Tables.{truly, is_true, first, second}
use Rattle.sb_feed.specs.declared.key.KeyBytes.{KeyBytes}
use Rattle.sb_feed.specs.Keys.{key_order}
use Rattle.sb_kind.specs.declared.agg.Agg.{Agg}
use Rattle.sb_plan.specs.Emitted.{fold_of, everywhere}
use Rattle.sb_report.specs.Report.{row_text}
use Rattle.sb_run.specs.Run.{StoreRun, rows_text}
use Rattle.sb_run.proofs.Keys.{by_bytes, same_bytes}
use Rattle.sb_run.proofs.StoreReport.{order_of, rows_are_report}

abbrev pub Rows : Type 0
Rows = List (KeyBytes × Agg)

abbrev pub AreFrom : ℕ → Rows → Type 0
AreFrom m rows = AllByRecursion (λ row. m ≤ row.0.store) rows

abbrev pub AreBelow : ℕ → Rows → Type 0
AreBelow m rows = AllByRecursion (λ row. row.0.store < m) rows

abbrev pub AreOf : ℕ → Rows → Type 0
AreOf m rows = AllByRecursion (λ row. row.0.store ≡ m) rows

abbrev pub Rises : Rows → Type 0
Rises rows = is_sorted key_order rows ≡ true

-- rows of the first store, and those of the later ones
record Split (m : ℕ) (rows : Rows) : Type 0 where
  here : Rows
  later : Rows
  all : rows ≡ here ++ later
  are_here : AreOf m here
  are_later : AreFrom (suc m) later
  rising_here : Rises here
  rising_later : Rises later

-- ---- order between stores

-- a key that comes before another is of no later store
before_store : (a b : KeyBytes) (o : Ordering) → nat_cmp a.store b.store ≡ o → is_lt (ordering_then o (by_bytes a.text b.text)) ≡ true → a.store ≤ b.store
before_store a b Less e is = let less = ranked a.store b.store Less (sym e) in omega (arith, less)
before_store a b Equal e is = let same = ranked a.store b.store Equal (sym e) in omega (arith, same)
before_store a b Greater e is = let no : false ≡ true = is in cc

-- keys of two stores don't tie
pub apart : (a b : KeyBytes) (o : Ordering) → nat_cmp a.store b.store ≡ o → (a.store ≡ b.store → ⊥) → is_eq (ordering_then o (by_bytes a.text b.text)) ≡ false
apart a b Less e other = refl
apart a b Equal e other = absurd (other (ranked a.store b.store Equal (sym e)))
apart a b Greater e other = refl

below_stores : (m : ℕ) (key : KeyBytes) (rows : Rows) → m ≤ key.store → below_all key_order key rows ≡ true → AreFrom m rows
below_stores m key [] le h = tt
below_stores m key (row ∷ rows) le h =
    let both = truly _ h in
    let early = before_store key row.0 (nat_cmp key.store row.0.store) refl (is_true _ (first _ _ both)) in
    (omega (arith, early, le), below_stores m key rows le (is_true _ (second _ _ both)))

below_front : (key : KeyBytes) (front rows : Rows) → below_all key_order key (front ++ rows) ≡ true → below_all key_order key front ≡ true
below_front key [] rows h = refl
below_front key (row ∷ front) rows h =
    let both = truly _ h in
    let here : is_lt (key_order key row.0) ≡ true = is_true _ (first _ _ both) in
    let later : below_all key_order key front ≡ true = below_front key front rows (is_true _ (second _ _ both)) in
    rw (here, later) refl

-- ---- the first store's rows stand in front

split_on : (m : ℕ) (row : KeyBytes × Agg) (rows : Rows) → m ≤ row.0.store → below_all key_order row.0 rows ≡ true → Rises rows → Split m rows → Split m (row ∷ rows)
split_on m row rows le below rises s = by (nat_cmp m row.0.store) refl
  where
    by : (o : Ordering) → nat_cmp m row.0.store ≡ o → Split m (row ∷ rows)
    by Less e = record {
      here = [];
      later = row ∷ rows;
      all = refl;
      are_here = tt;
      are_later = (let less = ranked m row.0.store Less (sym e) in omega (arith, less), let less = ranked m row.0.store Less (sym e) in below_stores (suc m) row.0 rows (omega (arith, less)) below);
      rising_here = refl;
      rising_later = rw (below, rises) refl;
    }
    by Equal e = let same = ranked m row.0.store Equal (sym e) in record {
      here = row ∷ s.here;
      later = s.later;
      all = ap (λ l. row ∷ l) s.all;
      are_here = (sym same, s.are_here);
      are_later = s.are_later;
      rising_here = rw (below_front row.0 s.here s.later (subst (λ l. below_all key_order row.0 l ≡ true) s.all below), s.rising_here) refl;
      rising_later = s.rising_later;
    }
    by Greater e = absurd (let greater = ranked m row.0.store Greater (sym e) in omega (arith, greater, le))

split : (m : ℕ) (rows : Rows) → AreFrom m rows → Rises rows → Split m rows
split m [] h rises = record { here = []; later = []; all = refl; are_here = tt; are_later = tt; rising_here = refl; rising_later = refl }
split m (row ∷ rows) h rises =
    let both = truly _ rises in
    let below = is_true _ (first _ _ both) in
    let rest = is_true _ (second _ _ both) in
    split_on m row rows h.0 below rest (split m rows h.1 rest)

-- ---- look-ups

-- a key that no row in front ties with is found behind
find_behind : (key : KeyBytes) (front rows : Rows) → AllByRecursion (λ row. key.store ≡ row.0.store → ⊥) front → find key_order key (front ++ rows) ≡ find key_order key rows
find_behind key [] rows h = refl
find_behind key (row ∷ front) rows h = ap_both (λ b r. cond b (Some row.1) r) (apart key row.0 (nat_cmp key.store row.0.store) refl h.0) (find_behind key front rows h.1)

-- a key that no row behind ties with is found in front
find_none : (key : KeyBytes) (rows : Rows) → AllByRecursion (λ row. key.store ≡ row.0.store → ⊥) rows → find key_order key rows ≡ None
find_none key [] h = refl
find_none key (row ∷ rows) h = ap_both (λ b r. cond b (Some row.1) r) (apart key row.0 (nat_cmp key.store row.0.store) refl h.0) (find_none key rows h.1)

find_front : (key : KeyBytes) (front rows : Rows) → AllByRecursion (λ row. key.store ≡ row.0.store → ⊥) rows → find key_order key (front ++ rows) ≡ find key_order key front
find_front key [] rows h = find_none key rows h
find_front key (row ∷ front) rows h = ap (λ r. cond (is_eq (key_order key row.0)) (Some row.1) r) (find_front key front rows h)

others_later : (m : ℕ) (rows : Rows) → AreFrom (suc m) rows → AllByRecursion (λ row. m ≡ row.0.store → ⊥) rows
others_later m [] h = tt
others_later m (row ∷ rows) h = ((λ same. let later = h.0 in omega (arith, same, later)), others_later m rows h.1)

others_here : (m n : ℕ) (rows : Rows) → m < n → AreOf m rows → AllByRecursion (λ row. n ≡ row.0.store → ⊥) rows
others_here m n [] less h = tt
others_here m n (row ∷ rows) less h = ((λ same. let here = h.0 in omega (arith, same, here, less)), others_here m n rows less h.1)

-- ---- rows of one store

-- a key ties with itself
self : (k : KeyBytes) → is_eq (key_order k k) ≡ true
self k = ap is_eq (order_of k.store k k refl refl) ∙ (same_bytes k.text k.text (by_bytes k.text k.text) refl ∙ (bytes_eq-Decides k.text k.text).1 refl)

behind_none : (b : Bool) (value : Agg) (later : Option Agg) → b ≡ false → cond b (Some value) later ≡ None → later ≡ None
behind_none true value later isnt is = cc
behind_none false value later isnt is = is

-- where no key of another store is found, all rows are of the store
pub only_store : (m : ℕ) (rows : Rows) → ((key : KeyBytes) → (key.store ≡ m → ⊥) → find key_order key rows ≡ None) → AreOf m rows
only_store m [] none = tt
only_store m (row ∷ rows) none = (here, only_store m rows later)
  where
    here : row.0.store ≡ m
    here = by (nat_cmp row.0.store m) refl
      where
        not_other : (row.0.store ≡ m → ⊥) → ⊥
        not_other other =
            let found : cond (is_eq (key_order row.0 row.0)) (Some row.1) (find key_order row.0 rows) ≡ None = none row.0 other in
            let tied : cond true (Some row.1) (find key_order row.0 rows) ≡ None = subst (λ b. cond b (Some row.1) (find key_order row.0 rows) ≡ None) (self row.0) found in
            cc

        by : (o : Ordering) → nat_cmp row.0.store m ≡ o → row.0.store ≡ m
        by Less e = let less = ranked row.0.store m Less (sym e) in absurd (not_other (λ same. omega (arith, less, same)))
        by Equal e = ranked row.0.store m Equal (sym e)
        by Greater e = let greater = ranked row.0.store m Greater (sym e) in absurd (not_other (λ same. omega (arith, greater, same)))

    later : (key : KeyBytes) → (key.store ≡ m → ⊥) → find key_order key rows ≡ None
    later key other = behind_none (is_eq (key_order key row.0)) row.1 (find key_order key rows)
        (apart key row.0 (nat_cmp key.store row.0.store) refl (λ same. other (same ∙ here))) (none key other)

-- ---- reports

-- the folds of the stores from one on
pub record HaveAll (m : ℕ) (stores : List (StoreRun Agg)) (rows : Rows) : Type 0 where
  pub folds : (n : ℕ) (s : StoreRun Agg) → slice_get stores n ≡ Some s → (key : List ℕ) → find key_order (record { store = m + n; text = key }) rows ≡ fold_of s.add s.emissions key everywhere

below_later : (front rows : Rows) (m : ℕ) → AreBelow m (front ++ rows) → AreBelow m rows
below_later [] rows m h = h
below_later (row ∷ front) rows m h = below_later front rows m h.1

no_rows : (m : ℕ) (rows : Rows) → AreFrom m rows → AreBelow m rows → rows ≡ []
no_rows m [] from below = refl
no_rows m (row ∷ rows) from below = absurd (let a = from.0 in let b = below.0 in omega (arith, a, b))

flat_append : (f : KeyBytes × Agg → List ℕ) (xs ys : Rows) → flat_map f (xs ++ ys) ≡ flat_map f xs ++ flat_map f ys
flat_append f [] ys = refl
flat_append f (x ∷ xs) ys = ap (λ l. f x ++ l) (flat_append f xs ys) ∙ sym (append_assoc (f x) (flat_map f xs) (flat_map f ys))

-- the text of a row, by the name and the texts of each store
abbrev pub RowTexts : ℕ → (KeyBytes × Agg → List ℕ) → List (StoreRun Agg) → Type 0
RowTexts m f [] = Unit {0}
RowTexts m f (s ∷ stores) = ((row : KeyBytes × Agg) → row.0.store ≡ m → f row ≡ row_text s.name row.0.text (s.text row.1)) × RowTexts (suc m) f stores

pub rows_of_store : (m : ℕ) (f g : KeyBytes × Agg → List ℕ) (rows : Rows) → AreOf m rows → ((row : KeyBytes × Agg) → row.0.store ≡ m → f row ≡ g row) → flat_map f rows ≡ flat_map g rows
rows_of_store m f g [] h same = refl
rows_of_store m f g (row ∷ rows) h same = ap_both ◌++◌ (same row h.0) (rows_of_store m f g rows h.1 same)

-- the rows of the first store are its report
first_report : (f : KeyBytes × Agg → List ℕ) (m : ℕ) (s : StoreRun Agg) (stores : List (StoreRun Agg)) (rows : Rows) → ((row : KeyBytes × Agg) → row.0.store ≡ m → f row ≡ row_text s.name row.0.text (s.text row.1))
    → HaveAll m (s ∷ stores) rows → (parts : Split m rows) → flat_map f parts.here ≡ rows_text s
first_report f m s stores rows texts all parts =
    rows_of_store m f (λ row. row_text s.name row.0.text (s.text row.1)) parts.here parts.are_here texts
    ∙ rows_are_report m s.add s.text s.name s.emissions parts.here (record {
      mine = parts.are_here;
      rising = parts.rising_here;
      folds = λ key.
          sym (find_front (record { store = m; text = key }) parts.here parts.later (others_later m parts.later parts.are_later))
          ∙ (ap (find key_order (record { store = m; text = key })) (sym parts.all)
          ∙ (ap (λ n. find key_order (record { store = n; text = key }) rows) (omega arith) ∙ all.folds 0 s refl key));
    })

-- the folds of the later stores stand behind
later_folds : (m : ℕ) (s : StoreRun Agg) (stores : List (StoreRun Agg)) (rows : Rows) → HaveAll m (s ∷ stores) rows → (parts : Split m rows) → HaveAll (suc m) stores parts.later
later_folds m s stores rows all parts = record {
  folds = λ n t is key.
      sym (find_behind (record { store = suc m + n; text = key }) parts.here parts.later (others_here m (suc m + n) parts.here (omega arith) parts.are_here))
      ∙ (ap (find key_order (record { store = suc m + n; text = key })) (sym parts.all)
      ∙ (ap (λ k. find key_order (record { store = k; text = key }) rows) (omega arith) ∙ all.folds (suc n) t is key));
}

pub rows_are_reports : (f : KeyBytes × Agg → List ℕ) (m : ℕ) (stores : List (StoreRun Agg)) (rows : Rows) → RowTexts m f stores → AreFrom m rows → AreBelow (m + length stores) rows → Rises rows
    → HaveAll m stores rows → flat_map f rows ≡ flat_map rows_text stores
rows_are_reports f m [] rows texts from below rises all = ap (flat_map f) (no_rows m rows from (subst (λ n. AreBelow n rows) (omega arith) below))
rows_are_reports f m (s ∷ stores) rows texts from below rises all =
    let parts = split m rows from rises in
    ap (flat_map f) parts.all
    ∙ (flat_append f parts.here parts.later
    ∙ ap_both ◌++◌ (first_report f m s stores rows texts.0 all parts)
    (rows_are_reports f (suc m) stores parts.later texts.1 parts.are_later
    (subst (λ n. AreBelow n parts.later) (omega arith) (below_later parts.here parts.later (m + length (s ∷ stores)) (subst (AreBelow (m + length (s ∷ stores))) parts.all below)))
    parts.rising_later (later_folds m s stores rows all parts)))
